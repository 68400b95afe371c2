-- `lent::load` meets its contract: the loop stores the words in order.
use Rattle.std.proofs.Common.{◌+◌, ◌*◌}
use Rattle.lent.specs.Bytes.{part}
use Rattle.lent.proofs.Tabs.{Filled}
use Rattle.lent.proofs.load.Given as goal

abbrev pub invariant-loop-i : goal.invariant-loop-i
invariant-loop-i g l = Filled l.initial.x 0 g.row.N (λ j. g.O.Order.said (part (l.at + 4 * j) 4 l.s)) l.x l.i
