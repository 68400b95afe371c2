-- `sha256::initial` meets its contract: the words are written out.
use mathlib.Core.Path.{refl}
use Rattle.sha256.specs.Sha256.{H₀}
use Rattle.sha256.proofs.initial.Goals as goal

pub returns : goal.returns
unfolding H₀
returns c = refl
