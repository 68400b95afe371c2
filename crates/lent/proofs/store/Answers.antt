-- `lent::store` meets its contract: the loop writes the words one behind the other.
use Rattle.std.proofs.Common.{arith}
use Rattle.lent.proofs.Tabs.{laid_none, laid_more}
use Rattle.lent.proofs.store.Goals as goal

pub loop-i-init : goal.loop-i-init
loop-i-init g c = laid_none _ _ _ _

pub loop-i-preserved : goal.loop-i-preserved
loop-i-preserved g c = laid_more c.four.result c.loop-i.invariant c.four.ensures (omega arith) c.copy.ensures
