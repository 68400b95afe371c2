-- `mixing::block_mix` meets its contract: before turn i the first i results lie at their last places, and x is what goes into the next core.
use Rattle.std.proofs.Common.{rules, ap₂, ◌∙◌, arith}
use Rattle.lent.specs.Bytes.{xors}
use Rattle.mixing.proofs.Turns.{Blocks, mixed_none, mixed-more, mixed_all}
use Rattle.mixing.proofs.block_mix.Goals as goal

pub loop-i-init : goal.loop-i-init
loop-i-init c =
    let pre = c.requires in
    let blocks : Blocks c.args.s.now c.args.from c.args.to c.args.r = record { some = pre.0; reads = pre.2; writes = pre.3; apart = omega arith; bytes = search rules } in
    (blocks, mixed_none blocks (c.xored-x.ensures ∙ ap₂ xors c.load.ensures c.load-2.ensures))

pub loop-i-preserved : goal.loop-i-preserved
loop-i-preserved c =
    let was = c.loop-i.invariant in
    let turn = mixed-more _ was.0 was.1 c.loop-i-test.true c.after.ensures in
    (was.0, rw (c.store.ensures, c.xored-x-in-loop-i.ensures, c.load-z.ensures, c.place.ensures.1, c.core-y.ensures) turn)

pub returns : goal.returns
returns c = mixed_all c.loop-i.invariant.1 c.loop-i-test.false
