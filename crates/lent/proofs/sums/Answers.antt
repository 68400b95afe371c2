-- `lent::sums` meets its contract: the loop stores the sums in order.
use Rattle.std.proofs.Common.{refl}
use lib.ListN.{length-replicate}
use Rattle.lent.proofs.Tabs.{filled_none}
use Rattle.lent.proofs.Arrays.{filled_next, filled_whole}
use Rattle.lent.proofs.sums.Goals as goal

pub loop-i-init : goal.loop-i-init
loop-i-init g c = filled_none _ _ _ _

pub loop-i-preserved : goal.loop-i-preserved
loop-i-preserved g c = filled_next _ c.loop-i.invariant c.loop-i-test.true refl

pub returns : goal.returns
returns g c = filled_whole c.loop-i.invariant c.loop-i-test.false (length-replicate _ 0)
