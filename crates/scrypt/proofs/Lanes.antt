-- The lanes where they lie in the scratch are the RFC's, before and after ROMix. Assumes nothing.
use mathlib.Core.Path.{◌≡◌, ap}
use mathlib.Core.List.{List}
use Prim.Native.Nat.{ℕ, ◌+◌, ◌*◌, ◌≤◌, ◌<◌}
use native.Mathlib.Nat.{mul-le-mul_right}
use native.Mathlib.Omega.{arith}
use lib.ListN.{length}
use lib.Seq.{sets, length-take-le}
use Rattle.lent.specs.Bytes.{part, joined}
use Rattle.lent.proofs.Parts.{part-written, sets_prefix}
use Rattle.lent.proofs.Tabs.{joined_ext}
use Rattle.pbkdf2.proofs.Laws.{length-pbkdf2}
use Rattle.romix.specs.ROMix.{ro_mix, sum, mixings}
use Rattle.romix.proofs.Sums.{sum_same}
use Rattle.scrypt.specs.Scrypt.{lanes, lane, mixed_lanes, all_mixings}

module _ (P S : List ℕ) (r p : ℕ) (s : List ℕ) (room : p * (128 * r) ≤ length s) where
  lane_read : (l : ℕ) → l < p → part (l * (128 * r)) (128 * r) (sets s 0 (lanes P S r p)) ≡ lane P S r p l
  unfolding lanes lane
  lane_read l h =
      let long = length-pbkdf2 P S (p * (128 * r)) in
      let within : l * (128 * r) + 128 * r ≤ p * (128 * r) = omega (arith, mul-le-mul_right (128 * r) h) in
      part-written s (lanes P S r p) (l * (128 * r)) (128 * r) (omega arith) (omega arith)

  pub lanes_counted : (k N : ℕ) → sum p (λ l. mixings k r N (part (l * (128 * r)) (128 * r) (sets s 0 (lanes P S r p)))) ≡ all_mixings k P S N r p
  unfolding all_mixings
  lanes_counted k N = sum_same p _ _ (λ l h. ap (mixings k r N) (lane_read l h))

  pub lanes-mixed : (N : ℕ) → joined p (λ l. ro_mix r N (part (l * (128 * r)) (128 * r) (sets s 0 (lanes P S r p)))) ≡ mixed_lanes P S N r p
  unfolding mixed_lanes
  lanes-mixed N = joined_ext p _ _ (λ l h. ap (ro_mix r N) (lane_read l h))

-- what lies behind the lanes stays
pub ruleset laying = (sets_prefix, length-pbkdf2, length-take-le)
