-- `lent::copy` meets its contract: the loop stores src's bytes in order.
use Rattle.std.proofs.Common.{length, refl, ◌∙◌, arith}
use lib.Seq.{take-length}
use Rattle.lent.proofs.Tabs.{filled_none, filled_more, filled_all, tab-take}
use Rattle.lent.proofs.copy.Goals as goal

pub loop-i-init : goal.loop-i-init
loop-i-init c = filled_none _ _ _ _

pub loop-i-preserved : goal.loop-i-preserved
loop-i-preserved c = filled_more _ c.loop-i.invariant c.loop-i-test.true refl

pub returns : goal.returns
returns c =
    let src = c.args.src.now in
    filled_all c.loop-i.invariant c.loop-i-test.false ∙ rw (tab-take (length src) src 0 (omega arith), take-length)
