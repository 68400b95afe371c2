-- `lent::store` meets its contract: the loop writes the words one behind the other.
use Rattle.std.proofs.Common.{get_or}
use Rattle.lent.proofs.Tabs.{Laid}
use Rattle.lent.proofs.store.Given as goal

abbrev pub invariant-loop-i : goal.invariant-loop-i
invariant-loop-i g l = Laid l.initial.s l.at 4 (λ j. g.O.Order.written 4 (get_or l.x j 0)) l.s l.i
