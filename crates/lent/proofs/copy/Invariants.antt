-- `lent::copy` meets its contract: the loop stores src's bytes in order.
use Rattle.std.proofs.Common.{length, get_or}
use Rattle.lent.proofs.Tabs.{Filled}
use Rattle.lent.proofs.copy.Given as goal

abbrev pub invariant-loop-i : goal.invariant-loop-i
invariant-loop-i l = Filled l.initial.s l.at (length l.src) (λ j. get_or l.src j 0) l.s l.i
