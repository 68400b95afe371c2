-- `mixing::block_mix` meets its contract: before turn i the first i results lie at their last places, and x is what goes into the next core.
use Rattle.mixing.proofs.Turns.{Blocks, Mixed}
use Rattle.mixing.proofs.block_mix.Given as goal

abbrev pub invariant-loop-i : goal.invariant-loop-i
invariant-loop-i l = Blocks l.initial.s l.from l.to l.r × Mixed l.initial.s l.from l.to l.r l.s l.x l.i
