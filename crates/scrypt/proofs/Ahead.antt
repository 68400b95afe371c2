-- What a plan that goes ahead has shown: callers read these facts off the answer `Ok`. Assumes nothing.
use mathlib.Core.Path.{◌≡◌, refl, sym, ap, subst, ◌∙◌}
use mathlib.Core.Bool.{Bool, true, false}
use Prim.Native.Nat.{ℕ, ◌+◌, ◌-◌, ◌*◌, ◌/◌, ◌%◌, ◌^◌, ◌≤◌, ◌<◌}
use native.Mathlib.Nat.{mul-le-mul, mul-le-mul_right, div-mul-le_self, mul-mod_right}
use native.Mathlib.Decide.{dec_le}
use native.Mathlib.Omega.{arith}
use lib.Dec.{leb}
use lib.Pow.{pow_pos, pow-lt, pow-add}
use Rattle.std.specs.Prelude.{Result, Ok, Err}
use Rattle.std.proofs.lemmas.Bool.{leb-true}
use Rattle.lent.specs.Bytes.{pick}
use Rattle.cost.specs.declared.Cost.{Cost}
use Rattle.cost.specs.declared.Flaw.{Flaw}
use Rattle.cost.specs.Limits.{within, most_r}
use Rattle.cost.specs.Costs.{checked}
use Rattle.cost.specs.Spacing.{spacing}
use Rattle.cost.proofs.Powers.{within_means}
use Rattle.cost.proofs.Goods.{Sound, good_means}
use Rattle.romix.specs.Machine.{Fit, opening}
use Rattle.scrypt.specs.declared.Reason.{Reason}
use Rattle.scrypt.specs.declared.Plan.{Plan}
use Rattle.scrypt.specs.Limits.{longest_passphrase, longest_salt, longest_key}
use Rattle.scrypt.specs.Plans.{whole_blocks, worst_case, afforded, priced, plan_of}
use Rattle.scrypt.proofs.Sizes.{some_spacing, stored_all, stored_fit}

pub record Planned (pass salt key scratch allowance : ℕ) (c : Cost) (plan : Plan) : Type 0 where
  pub short_pass : pass ≤ longest_passphrase
  pub short_salt : salt ≤ longest_salt
  pub some_key : 1 ≤ key
  pub short_key : key ≤ longest_key
  pub sound : Sound c
  pub room : c.p + 4 ≤ whole_blocks scratch c.r
  pub spacing_stands : plan.spacing ≡ spacing c.n.0 c.p (whole_blocks scratch c.r)
  pub stored_stands : plan.stored ≡ c.n.0 / plan.spacing
  pub allowed : worst_case c.n.0 c.p plan.spacing ≤ allowance

-- one test of the chain: where the plan goes ahead, the test passed, and the rest of the chain decided
went : {plan : Plan} (why : Reason) (b : Bool) (rest : Result Plan Reason) → pick b rest (Err why) ≡ Ok plan → (b ≡ true) × (rest ≡ Ok plan)
went why true rest h = (refl, h)
went why false rest h = (cc, cc)

afford_means : (scratch allowance : ℕ) (c : Cost) (plan : Plan) → afforded scratch allowance c ≡ Ok plan
    → (c.p + 4 ≤ whole_blocks scratch c.r) × (plan.spacing ≡ spacing c.n.0 c.p (whole_blocks scratch c.r)) × (plan.stored ≡ c.n.0 / plan.spacing) × (worst_case c.n.0 c.p plan.spacing ≤ allowance)
unfolding afforded
afford_means scratch allowance c plan h =
    let F = whole_blocks scratch c.r in
    let k = spacing c.n.0 c.p F in
    let eight = went _ (leb (c.p + 4) F) _ h in
    let nine = went _ (leb (worst_case c.n.0 c.p k) allowance) (Ok (record { spacing = k; stored = c.n.0 / k })) eight.1 in
    let same : record { spacing = k; stored = c.n.0 / k } ≡ plan = (let e = nine.1 in cc) in
    subst (λ (x : Plan). (c.p + 4 ≤ F) × (x.spacing ≡ k) × (x.stored ≡ c.n.0 / x.spacing) × (worst_case c.n.0 c.p x.spacing ≤ allowance)) same
    (leb-true _ _ eight.0, refl, refl, leb-true _ _ nine.0)

pub plan_means : (pass salt key scratch allowance : ℕ) (c : Cost) (plan : Plan) → plan_of pass salt key scratch allowance c ≡ Ok plan → Planned pass salt key scratch allowance c plan
unfolding plan_of
plan_means pass salt key scratch allowance c plan h =
    let one = went _ (leb pass longest_passphrase) _ h in
    let two = went _ (leb salt longest_salt) _ one.1 in
    let three = went _ (within longest_key key) _ two.1 in
    cost (checked c) refl three.1 (leb-true _ _ one.0) (leb-true _ _ two.0) (within_means longest_key key three.0)
  where
    cost : (x : Result Cost Flaw) → checked c ≡ x → priced scratch allowance x ≡ Ok plan → pass ≤ longest_passphrase → salt ≤ longest_salt → (1 ≤ key) × (key ≤ longest_key) → Planned pass salt key scratch allowance c plan
    cost (Ok d) e go short_pass short_salt key_fits =
        let good = good_means c d e in
        let rest = afford_means scratch allowance c plan (subst (λ (x : Cost). afforded scratch allowance x ≡ Ok plan) (sym good.0) go) in
        record {
          short_pass = short_pass;
          short_salt = short_salt;
          some_key = key_fits.0;
          short_key = key_fits.1;
          sound = good.1;
          room = rest.0;
          spacing_stands = rest.1;
          stored_stands = rest.2;
          allowed = rest.3;
        }
    cost (Err f) e go short_pass short_salt key_fits = absurd (let z : ◌≡◌ {A = ℕ} 0 1 = cc in omega arith)

-- N divides 2^32
pub divides_word : (e : ℕ) → e ≤ 32 → 2 ^ 32 % 2 ^ e ≡ 0
divides_word e h =
    let sum : 32 ≡ e + (32 - e) = omega arith in
    let split : 2 ^ 32 ≡ 2 ^ e * 2 ^ (32 - e) = ap (λ (d : ℕ). 2 ^ d) sum ∙ pow-add 2 e (32 - e) in
    rw split (mul-mod_right (2 ^ e) (2 ^ (32 - e)))

module _ {pass salt key scratch allowance : ℕ} {c : Cost} {plan : Plan} (ahead : Planned pass salt key scratch allowance c plan) where
  -- what ROMix asks of the costs and the scratch
  pub plan_fits : Fit (opening c.n.0 c.r c.p plan.spacing plan.stored) scratch
  plan_fits =
      let sound = ahead.sound in
      let F = whole_blocks scratch c.r in
      let few : sound.e ≤ 32 =
      elim (dec_le sound.e 32) [ yes h ↦ h | no h ↦ absurd (let big : 32 < sound.e = omega arith in omega (arith, pow-lt big, sound.power, sound.small)) ] in
      let some : 0 < c.n.0 = omega (arith, sound.power, pow_pos sound.e) in
      let all : plan.stored * plan.spacing ≡ c.n.0 = rw (ahead.stored_stands, ahead.spacing_stands) (stored_all c sound F ahead.room) in
      let stored : plan.stored + c.p + 3 ≤ F = rw (ahead.stored_stands, ahead.spacing_stands) (stored_fit c sound F ahead.room) in
      let blocks : c.p + 3 + plan.stored ≤ F = omega arith in
      record {
        within = record { thin = sound.some_r; wide = omega (arith, sound.few_r); room = omega (arith, mul-le-mul_right (128 * c.r) blocks, div-mul-le_self scratch (128 * c.r)) };
        some = some;
        small = omega (arith, sound.small);
        word = rw sound.power (divides_word sound.e few);
        space = rw ahead.spacing_stands (some_spacing c sound F ahead.room);
        held = omega arith;
        turned = omega arith;
      }

  -- the lanes lie at the front of the scratch
  pub lanes_fit : (c.p * (128 * c.r) ≤ 2 ^ 20) × (c.p * (128 * c.r) ≤ scratch)
  lanes_fit =
      let sound = ahead.sound in
      let size : 128 * c.r ≤ 128 * most_r = omega (arith, sound.few_r) in
      let small = mul-le-mul sound.few_p size in
      let few : c.p ≤ whole_blocks scratch c.r = omega (arith, ahead.room) in
      (omega arith, omega (arith, mul-le-mul_right (128 * c.r) few, div-mul-le_self scratch (128 * c.r)))
