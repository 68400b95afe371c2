-- What 24 and 25 let through fits in the bytes that a card has for it, and makes the cost settings of a derivation.
-- Assumes nothing.
use mathlib.Core.Path.{◌≡◌, refl, sym, ap, ◌∙◌}
use mathlib.Core.Bool.{Bool, true, false}
use Prim.Native.Nat.{ℕ, ◌+◌, ◌^◌, ◌<◌}
use native.Mathlib.Omega.{arith}
use Rattle.lent.specs.Bytes.{pick}
use Rattle.std.specs.Prelude.{Some, None, Result, Ok, Err, is_ok}
use Rattle.cost.specs.declared.Cost.{Cost}
use Rattle.cost.specs.declared.Flaw.{Flaw}
use Rattle.cost.specs.Limits.{most_exponent, ok_exponent}
use Rattle.cost.specs.Costs.{checked, power_of, checked_exponent, checked_power}
use Rattle.cost.proofs.Powers.{within_means}
use Rattle.cost.proofs.Goods.{good_means}
use Rattle.std.proofs.lemmas.Bool.{false≢true}
use Rattle.card.specs.Refusals.{ok_costs, meant_of}
use Rattle.card.proofs.Cards.{meant_means, lengths_mean}

pub record Priced (e r p : ℕ) : Type 0 where
  pub exponent : e < 256
  pub size : r < 256
  pub lanes : p < 256
  pub good : checked_exponent (record { 0 = e }) r p ≡ Ok (record { n = record { 0 = 2 ^ e }; r = r; p = p })

pub priced : (e r p : ℕ) → ok_costs e r p ≡ true → Priced e r p
unfolding ok_costs checked_exponent power_of
priced e r p h = by_power (ok_exponent e) refl h
  where
    cost : Cost
    cost = record { n = record { 0 = 2 ^ e }; r = r; p = p }

    by_check : (x : Result Cost Flaw) → checked cost ≡ x → is_ok x ≡ true → ok_exponent e ≡ true → Priced e r p
    by_check (Ok d) is good k =
        let means = good_means cost d is in
        let small = within_means most_exponent e k in
        record { exponent = omega arith; size = omega (arith, means.1.few_r); lanes = omega (arith, means.1.few_p); good = rw k (is ∙ ap Ok (sym means.0)) }
    by_check (Err f) is good k = absurd (false≢true good)

    by_power : (b : Bool) → ok_exponent e ≡ b → is_ok (checked_power (pick b (Some (record { 0 = 2 ^ e })) None) r p) ≡ true → Priced e r p
    by_power false k good = absurd (false≢true good)
    by_power true k good = by_check (checked cost) refl good k

-- numbers that are written
pub record Small (salt key e r p : ℕ) : Type 0 where
  pub salt_distance : salt + key < 256 ^ 2
  pub key_distance : key < 256 ^ 2
  pub exponent : e < 256
  pub size : r < 256
  pub lanes : p < 256

pub small : (salt key e r p : ℕ) → (meant_of salt key e r p).refusal ≡ 0 → Small salt key e r p
small salt key e r p h =
    let m = meant_means salt key e r p h in
    let l = lengths_mean salt key m.lengths in
    let c = priced e r p m.costs in
    record { salt_distance = omega arith; key_distance = omega arith; exponent = c.exponent; size = c.size; lanes = c.lanes }
