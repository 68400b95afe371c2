-- `lent::sums` meets its contract: the loop stores the sums in order.
use Rattle.std.proofs.Common.{get_or}
use Rattle.lent.specs.Word.{plus}
use Rattle.lent.proofs.Tabs.{Filled}
use Rattle.lent.proofs.sums.Given as goal

abbrev pub invariant-loop-i : goal.invariant-loop-i
invariant-loop-i g l = Filled l.initial.z 0 g.row.N (λ j. plus (get_or l.x j 0) (get_or l.y j 0)) l.z l.i
