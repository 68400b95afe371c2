-- What a cost that passed is: callers read these bounds off the answer `Ok`. Assumes nothing.
use mathlib.Core.Path.{◌≡◌, refl, ap, subst, ◌∙◌}
use mathlib.Core.Bool.{Bool, true, false}
use Rattle.std.specs.Prelude.{Result, Ok, Err}
use Prim.Native.Nat.{ℕ, ◌*◌, ◌^◌, ◌≤◌, ◌<◌}
use lib.Dec.{leb, ltb}
use Rattle.std.proofs.lemmas.Bool.{and_parts, leb-true, ltb-true, le-leb, lt-ltb}
use Rattle.lent.specs.Bytes.{pick}
use Rattle.cost.specs.declared.Cost.{Cost}
use Rattle.cost.specs.declared.Flaw.{Flaw}
use Rattle.cost.specs.Limits.{most_r, most_p, most_n, ok_r, ok_p, is_power, ok_power, ok_size}
use Rattle.cost.specs.Costs.{checked}
use Rattle.cost.proofs.Powers.{within_means, power_means, power_passes}

pub record Sound (c : Cost) : Type 0 where
  pub some_r : 1 ≤ c.r
  pub few_r : c.r ≤ most_r
  pub some_p : 1 ≤ c.p
  pub few_p : c.p ≤ most_p
  pub e : ℕ
  pub some_e : 1 ≤ e
  pub few_e : e ≤ 63
  pub power : c.n.0 ≡ 2 ^ e
  pub small : c.n.0 ≤ most_n
  pub below : c.n.0 < 2 ^ (16 * c.r)

-- one test of the chain: where the answer is good, the test passed, and the rest of the chain decided
passed : {c : Cost} (f : Flaw) (b : Bool) (rest : Result Cost Flaw) → pick b rest (Err f) ≡ Ok c → (b ≡ true) × (rest ≡ Ok c)
passed f true rest h = (refl, h)
passed f false rest h = (cc, cc)

pub good_means : (c d : Cost) → checked c ≡ Ok d → (c ≡ d) × Sound c
unfolding checked ok_power
good_means c d h =
    let four = passed _ (ok_r c.r) _ h in
    let five = passed _ (ok_p c.p) _ four.1 in
    let six = passed _ (ok_power c.n.0) _ five.1 in
    let seven = passed _ (ok_size c.n.0 c.r) _ six.1 in
    let r = within_means most_r c.r four.0 in
    let p = within_means most_p c.p five.0 in
    let power = power_means 63 c.n.0 six.0 in
    let size = and_parts (leb c.n.0 most_n) (ltb c.n.0 (2 ^ (16 * c.r))) seven.0 in (
      cc,
      record {
        some_r = r.0;
        few_r = r.1;
        some_p = p.0;
        few_p = p.1;
        e = power.0;
        some_e = power.1;
        few_e = power.2;
        power = power.3;
        small = leb-true _ _ size.0;
        below = ltb-true _ _ size.1;
      },
    )

-- so is the cost that the answer holds
pub good_sound : (c d : Cost) → checked c ≡ Ok d → Sound d
good_sound c d h = let good = good_means c d h in subst Sound good.0 good.1

-- and a sound cost passes
pub sound_good : (c : Cost) → Sound c → checked c ≡ Ok c
unfolding checked ok_power
sound_good c sound =
    rw (
      le-leb 1 c.r sound.some_r,
      le-leb c.r most_r sound.few_r,
      le-leb 1 c.p sound.some_p,
      le-leb c.p most_p sound.few_p,
      ap (is_power 63) sound.power ∙ power_passes 63 sound.e sound.some_e sound.few_e,
      le-leb c.n.0 most_n sound.small,
      lt-ltb c.n.0 (2 ^ (16 * c.r)) sound.below,
    )
