-- `mixing::xored` meets its contract: the loop stores the words in order, each an exclusive or of two.
use Rattle.std.proofs.Common.{get_or}
use lib.Bits.{bit_xor}
use Rattle.lent.proofs.Tabs.{Filled}
use Rattle.mixing.proofs.xored.Given as goal

abbrev pub invariant-loop-j : goal.invariant-loop-j
invariant-loop-j l = Filled l.initial.x 0 16 (λ i. bit_xor (get_or l.y i 0) (get_or l.z i 0)) l.x l.j
