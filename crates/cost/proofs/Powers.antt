-- Powers of two: the test for powers means what it says, and the library's test is the same. Assumes nothing.
use mathlib.Core.Path.{◌≡◌, refl, sym, ap, ◌∙◌}
use mathlib.Core.Bool.{Bool, true, false, ◌||◌}
use Prim.Native.Nat.{ℕ, zero, suc, ◌*◌, ◌/◌, ◌%◌, ◌^◌, ◌≤◌, ◌<◌}
use native.Mathlib.Nat.{pow-suc}
use native.Mathlib.Decide.{dec_le}
use native.Mathlib.Omega.{arith}
use lib.Dec.{eqb, leb}
use lib.Pow.{pow_mono}
use lib.Count.{ones_step}
use Rattle.std.proofs.lemmas.Bool.{and_parts, eqb-true, eq-eqb, leb-true}
use Rattle.std.specs.Prelude.{count_ones}
use Rattle.std.specs.Int.{is_power_of_two}
use Rattle.std.proofs.lemmas.Nat.{zero_from_ones, ones_le_self}
use Rattle.cost.specs.Limits.{most_n, within, is_power, ok_power}

pub within_means : (most x : ℕ) → within most x ≡ true → (1 ≤ x) × (x ≤ most)
within_means most x h = let both = and_parts (leb 1 x) (leb x most) h in (leb-true 1 x both.0, leb-true x most both.1)

-- what passes is a power, and each power passes
pub power_means : (e N : ℕ) → is_power e N ≡ true → (i : ℕ) × (1 ≤ i) × (i ≤ e) × (N ≡ 2 ^ i)
unfolding is_power
power_means zero N h = absurd (let z : ◌≡◌ {A = ℕ} 0 1 = cc in omega arith)
power_means (suc e) N h = go (eqb N (2 ^ suc e)) refl h (power_means e N)
  where
    go : (b : Bool) → eqb N (2 ^ suc e) ≡ b → b || is_power e N ≡ true → (is_power e N ≡ true → (i : ℕ) × (1 ≤ i) × (i ≤ e) × (N ≡ 2 ^ i)) → (i : ℕ) × (1 ≤ i) × (i ≤ suc e) × (N ≡ 2 ^ i)
    go true here h' rest = (suc e, omega arith, omega arith, eqb-true N (2 ^ suc e) here)
    go false here h' rest = let r = rest h' in (r.0, r.1, omega (arith, r.2), r.3)

pub power_passes : (e i : ℕ) → 1 ≤ i → i ≤ e → is_power e (2 ^ i) ≡ true
unfolding is_power
power_passes zero i lo hi = absurd (omega arith)
power_passes (suc e) i lo hi = go (eqb (2 ^ i) (2 ^ suc e)) refl (power_passes e i lo)
  where
    go : (b : Bool) → eqb (2 ^ i) (2 ^ suc e) ≡ b → (i ≤ e → is_power e (2 ^ i) ≡ true) → b || is_power e (2 ^ i) ≡ true
    go true here rest = refl
    go false here rest =
        elim (dec_le i e) [
          | yes low ↦ rest low
          | no high ↦ (let same : i ≡ suc e = omega arith in let t : ◌≡◌ {A = Bool} true false = sym (eq-eqb (2 ^ i) (2 ^ suc e) (ap (λ (d : ℕ). 2 ^ d) same)) ∙ here in cc)
        ]

-- ---- the library's test, that one bit is set, is the same test from 2 on

halved : (i : ℕ) → 2 ^ suc i / 2 ≡ 2 ^ i
halved i = omega (arith, pow-suc 2 i)

one_set : (i : ℕ) → count_ones (2 ^ i) ≡ 1
one_set zero = omega (arith, ones_step 1, ones_le_self 0)
one_set (suc i) = omega (arith, ones_step (2 ^ suc i), pow-suc 2 i, ap count_ones (halved i), one_set i)

set_once : (d n : ℕ) → n ≤ d → count_ones n ≡ 1 → (i : ℕ) × (n ≡ 2 ^ i)
set_once zero n h e = absurd (omega (arith, ones_le_self n))
set_once (suc d) n h e =
    elim (dec_le 1 (n % 2)) [
      | yes odd ↦ (0, omega (arith, zero_from_ones (n / 2) (omega (arith, ones_step n))))
      | no even ↦ (let half = set_once d (n / 2) (omega arith) (omega (arith, ones_step n)) in (suc half.0, omega (arith, half.1, pow-suc 2 half.0)))
    ]

known : (e n : ℕ) → 2 ≤ n → n < 2 ^ suc e → is_power e n ≡ is_power_of_two n
known e n some small = go (is_power e n) (is_power_of_two n) refl refl
  where
    go : (a b : Bool) → is_power e n ≡ a → is_power_of_two n ≡ b → a ≡ b
    go true true p set = refl
    go false false p set = refl
    go true false p set =
        let i = power_means e n p in
        let one : is_power_of_two n ≡ true = eq-eqb _ _ (ap count_ones i.3 ∙ one_set i.0) in
        sym one ∙ set
    go false true p set =
        let i = set_once n n (omega arith) (eqb-true _ _ set) in
        let lo : 1 ≤ i.0 = elim (dec_le 1 i.0) [ yes h ↦ h | no h ↦ absurd (let none : i.0 ≡ 0 = omega arith in let one : n ≡ 1 = i.1 ∙ ap (λ (d : ℕ). 2 ^ d) none in omega arith) ] in
        let hi : i.0 ≤ e = elim (dec_le i.0 e) [ yes h ↦ h | no h ↦ absurd (let more : suc e ≤ i.0 = omega arith in omega (arith, pow_mono more, i.1)) ] in
        sym p ∙ ap (is_power e) i.1 ∙ power_passes e i.0 lo hi

pub power_known : (n : ℕ) → 2 ≤ n → n < 2 ^ 64 → ok_power n ≡ is_power_of_two n
unfolding ok_power
power_known n some small = known 63 n some small

pub power_small : (n : ℕ) → n < 2 → ok_power n ≡ false
unfolding ok_power is_power
power_small zero h = refl
power_small (suc zero) h = refl
power_small (suc (suc n)) h = absurd (omega arith)

pub ruleset powers = (power_known, power_small)

-- from r = 2 on the bound by r is no smaller than the bound on N
pub wide : (n r : ℕ) → n ≤ most_n → 2 ≤ r → n < 2 ^ (16 * r)
wide n r small h = let exponent : 32 ≤ 16 * r = omega arith in omega (arith, pow_mono exponent)
