-- The demands on a derivation, as laws over the definitions. Assumes nothing.
use mathlib.Core.Path.{◌≡◌, refl, sym, ap, ◌∙◌}
use mathlib.Core.Bool.{false}
use mathlib.Core.List.{List}
use Prim.Native.Nat.{ℕ, ◌+◌, ◌*◌, ◌/◌, ◌^◌, ◌≤◌, ◌<◌}
use native.Mathlib.Nat.{mul-le-mul_left, div-mul-le_self, le-div_iff_mul-le}
use native.Mathlib.Omega.{arith}
use lib.ListN.{length}
use lib.Pow.{pow_mono}
use Rattle.std.specs.Prelude.{Result, Ok}
use Rattle.std.proofs.lemmas.Bool.{le-leb, lt-leb}
use Rattle.cost.specs.declared.Cost.{Cost}
use Rattle.cost.specs.Spacing.{fits, spacing}
use Rattle.cost.proofs.Goods.{Sound, sound_good}
use Rattle.cost.proofs.Spacings.{spacing_falls, nearer}
use Rattle.romix.proofs.Sums.{sum_mono, sum_most, sum_same_terms, mixings_mono, mixings_most, mixings_one}
use Rattle.scrypt.specs.declared.Plan.{Plan}
use Rattle.scrypt.specs.declared.Reason.{Reason}
use Rattle.scrypt.specs.Limits.{longest_passphrase, longest_salt, longest_key}
use Rattle.scrypt.specs.Plans.{whole_blocks, worst_case, afforded, plan_of}
use Rattle.scrypt.specs.Scrypt.{lane, scrypt, all_mixings}
use Rattle.scrypt.specs.Derivation.{Told, plan_for, carried, derivation}
use Rattle.scrypt.proofs.Sizes.{spaced}
use Rattle.scrypt.proofs.Ahead.{plan_means}

-- what a plan needs is enough for it
pub goes : (pass salt key scratch allowance : ℕ) (c : Cost) (k : ℕ) → pass ≤ longest_passphrase → salt ≤ longest_salt → 1 ≤ key → key ≤ longest_key → Sound c
    → c.p + 4 ≤ whole_blocks scratch c.r → k ≡ spacing c.n.0 c.p (whole_blocks scratch c.r) → worst_case c.n.0 c.p k ≤ allowance
    → plan_of pass salt key scratch allowance c ≡ Ok (record { spacing = k; stored = c.n.0 / k })
unfolding plan_of afforded
goes pass salt key scratch allowance c k one two some three sound eight e nine =
    let within : worst_case c.n.0 c.p (spacing c.n.0 c.p (whole_blocks scratch c.r)) ≤ allowance = rw e at nine in
    rw (le-leb pass longest_passphrase one, le-leb salt longest_salt two, le-leb 1 key some, le-leb key longest_key three, sound_good c sound, le-leb _ _ eight, le-leb _ allowance within, e)

-- ---- demand 3

-- never above p·N·(k + 1)
pub count_most : (k : ℕ) (P S : List ℕ) (N r p : ℕ) → 0 < k → all_mixings k P S N r p ≤ worst_case N p k
unfolding all_mixings
count_most k P S N r p some = sum_most p (N * (k + 1)) _ (λ i h. mixings_most k r N (lane P S r p i) some)

-- with every block stored exactly 2·p·N
pub count_one : (P S : List ℕ) (N r p : ℕ) → all_mixings 1 P S N r p ≡ p * (2 * N)
unfolding all_mixings
count_one P S N r p = sum_same_terms p (2 * N) _ (λ i h. mixings_one r N (lane P S r p i))

count_falls : (i i' : ℕ) (P S : List ℕ) (N r p : ℕ) → i' ≤ i → all_mixings (2 ^ i') P S N r p ≤ all_mixings (2 ^ i) P S N r p
unfolding all_mixings
count_falls i i' P S N r p h = sum_mono p _ _ (λ l _. mixings_mono (2 ^ i) (2 ^ i') r N (lane P S r p l) (λ j. nearer i i' j h))

-- more scratch, more allowance: accepted too, with RFC 7914's key and no more mixings
pub record NoWorse (P S : List ℕ) (key : List ℕ) (scratch : List ℕ) (allowance : ℕ) (c : Cost) (plan : Plan) : Type 0 where
  pub plan' : Plan
  pub goes_too : plan_for P S c key scratch allowance ≡ Ok plan'
  pub same_key : (derivation P S c key scratch allowance).1.0 ≡ scrypt P S c.n.0 c.r c.p (length key)
  pub fewer : all_mixings plan'.spacing P S c.n.0 c.r c.p ≤ all_mixings plan.spacing P S c.n.0 c.r c.p

pub demand_three : (P S key scratch scratch' : List ℕ) (allowance allowance' : ℕ) (c : Cost) (plan : Plan)
    → plan_for P S c key scratch allowance ≡ Ok plan → length scratch ≤ length scratch' → allowance ≤ allowance'
    → NoWorse P S key scratch' allowance' c plan
unfolding derivation
demand_three P S key scratch scratch' allowance allowance' c plan h longer larger =
    let ahead = plan_means (length P) (length S) (length key) (length scratch) allowance c plan h in
    let sound = ahead.sound in
    let F = whole_blocks (length scratch) c.r in
    let F' = whole_blocks (length scratch') c.r in
    let some : 0 < 128 * c.r = omega (arith, sound.some_r) in
    let more : F ≤ F' = (le-div_iff_mul-le some).1 (omega (arith, div-mul-le_self (length scratch) (128 * c.r))) in
    let room : c.p + 4 ≤ F' = omega (arith, ahead.room) in
    let one = spaced c sound F ahead.room in
    let other = spaced c sound F' room in
    let k₁ = spacing c.n.0 c.p F' in
    let falls : other.i ≤ one.i = spacing_falls sound.e c.p F F' _ _ more one other in
    let less : k₁ ≤ plan.spacing = omega (arith, other.is, one.is, ahead.spacing_stands, pow_mono falls) in
    let next : k₁ + 1 ≤ plan.spacing + 1 = omega arith in
    let cheaper : worst_case c.n.0 c.p k₁ ≤ worst_case c.n.0 c.p plan.spacing = mul-le-mul_left c.p (mul-le-mul_left c.n.0 next) in
    let goes_too : plan_for P S c key scratch' allowance' ≡ Ok (record { spacing = k₁; stored = c.n.0 / k₁ }) =
    goes (length P) (length S) (length key) (length scratch') allowance' c k₁ ahead.short_pass ahead.short_salt ahead.some_key ahead.short_key sound room refl (omega (arith, ahead.allowed)) in
    record {
      plan' = record { spacing = k₁; stored = c.n.0 / k₁ };
      goes_too = goes_too;
      same_key = ap (λ (x : Result Plan Reason). (carried P S c key scratch' x).1.0) goes_too;
      fewer = omega (arith, same k₁ (2 ^ other.i) other.is, same plan.spacing (2 ^ one.i) (ahead.spacing_stands ∙ one.is), count_falls one.i other.i P S c.n.0 c.r c.p falls);
    }
  where
    same : (a b : ℕ) → a ≡ b → all_mixings a P S c.n.0 c.r c.p ≡ all_mixings b P S c.n.0 c.r c.p
    same a b e = ap (λ (d : ℕ). all_mixings d P S c.n.0 c.r c.p) e

-- ---- no second answer: two outcomes that meet the promise are one

pub no_second : (P S : List ℕ) (c : Cost) (key scratch : List ℕ) (allowance : ℕ) (one other : Told × (List ℕ × List ℕ))
    → one ≡ derivation P S c key scratch allowance → other ≡ derivation P S c key scratch allowance → one ≡ other
no_second P S c key scratch allowance one other e f = e ∙ sym f

-- ---- what a derivation is refused for, its spacing and its stored blocks depend only on four lengths, the costs and the allowance

pub by_lengths : (P S P' S' key key' scratch scratch' : List ℕ) (c : Cost) (allowance : ℕ)
    → length P ≡ length P' → length S ≡ length S' → length key ≡ length key' → length scratch ≡ length scratch'
    → plan_for P S c key scratch allowance ≡ plan_for P' S' c key' scratch' allowance
by_lengths P S P' S' key key' scratch scratch' c allowance p s k l = rw (p, s, k, l)

-- ---- a spacing exists exactly where 8 does not apply: with F blocks at least p + 4 one fits, and with fewer none does

pub none_fits : (N p F k : ℕ) → 0 < N → 0 < k → k ≤ N → F < p + 4 → fits N p F k ≡ false
none_fits N p F k some pos low h =
    let one : 1 ≤ N / k = (le-div_iff_mul-le pos).1 (omega arith) in
    lt-leb (N / k + p + 3) F (omega arith)
