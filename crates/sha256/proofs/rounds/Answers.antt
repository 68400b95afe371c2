-- `sha256::rounds` meets its contract: after t turns the working variables are those after t rounds.
use Rattle.std.proofs.Common.{refl, add-one}
use Rattle.sha256.specs.Sha256.{K, rounds}
use Rattle.sha256.proofs.rounds.Goals as goal

pub loop-t-init : goal.loop-t-init
unfolding rounds K
loop-t-init c = (refl, refl)

pub loop-t-preserved : goal.loop-t-preserved
unfolding rounds
loop-t-preserved c = (c.loop-t.invariant.0, rw (add-one, ← c.loop-t.invariant.0, ← c.loop-t.invariant.1) c.round.ensures)
