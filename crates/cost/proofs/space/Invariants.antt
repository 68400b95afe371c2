-- `cost::space` meets its contract: each turn is one of the search. The measure is what is left of n.
use Prim.Native.Nat.{◌-◌}
use Rattle.cost.proofs.Spacings.{Searched}
use Rattle.cost.proofs.space.Given as goal

abbrev pub invariant-loop-k : goal.invariant-loop-k
invariant-loop-k l = Searched l.n l.p l.f l.k

abbrev pub decreases-loop-k : goal.decreases-loop-k
decreases-loop-k l = l.n - l.k
