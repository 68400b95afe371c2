-- `sha256::rounds` meets its contract: after t turns the working variables are those after t rounds.
use Rattle.std.proofs.Common.{◌≡◌}
use Rattle.sha256.specs.Sha256.{K, rounds}
use Rattle.sha256.proofs.rounds.Given as goal

abbrev pub invariant-loop-t : goal.invariant-loop-t
invariant-loop-t l = (l.k ≡ K) × (l.y ≡ rounds l.t l.w l.initial.y)
