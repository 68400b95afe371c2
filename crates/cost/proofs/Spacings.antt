-- The spacing is what the paper says: the smallest power of two that fits. More scratch gives no larger a one, and one that divides it.
-- By induction on the doublings that are left: what was tried before has not fitted. Assumes nothing.
use mathlib.Core.Path.{◌≡◌, refl, sym, ap, ◌∙◌}
use mathlib.Core.Bool.{Bool, true, false}
use Prim.Native.Nat.{ℕ, zero, suc, ◌+◌, ◌-◌, ◌*◌, ◌/◌, ◌%◌, ◌^◌, ◌≤◌, ◌<◌}
use native.Mathlib.Nat.{pow-suc, mul-one, one-mul, div-le_of_le-mul, mod-mod_of_dvd, mod-le, dvd-mul_right}
use native.Mathlib.Decide.{dec_le}
use native.Mathlib.Omega.{arith}
use lib.Pow.{pow_pos, pow-add}
use Rattle.std.proofs.lemmas.Bool.{leb-true, le-leb, lt-leb}
use Rattle.lent.specs.Bytes.{pick}
use Rattle.cost.specs.Spacing.{fits, first_fit, spacing}

-- the search, one turn at a time
pub fit_here : (more N p F k : ℕ) → N / k + p + 3 ≤ F → first_fit more N p F k ≡ k
unfolding first_fit
fit_here zero N p F k h = refl
fit_here (suc more) N p F k h = rw (le-leb _ _ h)

pub fit_later : (more N p F k : ℕ) → fits N p F k ≡ false → first_fit (suc more) N p F k ≡ first_fit more N p F (k * 2)
unfolding first_fit
fit_later more N p F k h = rw h

-- at k = N one block is stored, so the search ends there at the latest
pub small_fits : (N p F k : ℕ) → 0 < k → N ≤ k → p + 4 ≤ F → fits N p F k ≡ true
small_fits N p F k pos h room =
    let few : N / k ≤ 1 = div-le_of_le-mul k (omega (arith, mul-one k)) in
    le-leb (N / k + p + 3) F (omega arith)

-- what a search finds: the first of k·2^i that fits, where one does
pub record Found (more N p F k found : ℕ) : Type 0 where
  pub i : ℕ
  pub tried : i ≤ more
  pub is : found ≡ k * 2 ^ i
  pub before : (j : ℕ) → j < i → fits N p F (k * 2 ^ j) ≡ false
  pub here : i < more → fits N p F found ≡ true

twice : (k j : ℕ) → k * 2 * 2 ^ j ≡ k * 2 ^ suc j
twice k j = rw (pow-suc 2 j) (omega arith)

pub finds : (more N p F k : ℕ) → Found more N p F k (first_fit more N p F k)
unfolding first_fit
finds zero N p F k = record { i = 0; tried = omega arith; is = omega arith; before = λ j h. absurd (omega arith); here = λ h. absurd (omega arith) }
finds (suc more) N p F k = go (fits N p F k) refl (finds more N p F (k * 2))
  where
    go : (b : Bool) → fits N p F k ≡ b → Found more N p F (k * 2) (first_fit more N p F (k * 2)) → Found (suc more) N p F k (pick b k (first_fit more N p F (k * 2)))
    go true e rest = record { i = 0; tried = omega arith; is = omega arith; before = λ j h. absurd (omega arith); here = λ h. e }
    go false e rest =
        record {
          i = suc rest.i;
          tried = omega (arith, rest.tried);
          is = rest.is ∙ twice k rest.i;
          before = λ j h. earlier j h;
          here = λ h. rest.here (omega arith);
        }
      where
        earlier : (j : ℕ) → j < suc rest.i → fits N p F (k * 2 ^ j) ≡ false
        earlier zero h = ap (fits N p F) (omega arith) ∙ e
        earlier (suc j) h = ap (fits N p F) (sym (twice k j)) ∙ rest.before j (omega arith)

-- ---- in the paper's words, for N a power of two

pub record Spaced (e p F k : ℕ) : Type 0 where
  pub i : ℕ
  pub is : k ≡ 2 ^ i
  pub most : i ≤ e
  pub fit : fits (2 ^ e) p F k ≡ true
  pub least : (j : ℕ) → fits (2 ^ e) p F (2 ^ j) ≡ true → i ≤ j

pub spacing_is : (e p F : ℕ) → e ≤ 63 → p + 4 ≤ F → Spaced e p F (spacing (2 ^ e) p F)
unfolding spacing
spacing_is e p F small room =
    let found = finds 64 (2 ^ e) p F 1 in
    let never : (j : ℕ) → j < found.i → fits (2 ^ e) p F (2 ^ j) ≡ true → ⊥ =
    λ j h t. (let z : ◌≡◌ {A = Bool} true false = sym t ∙ ap (fits (2 ^ e) p F) (sym (one-mul (2 ^ j))) ∙ found.before j h in let o : ◌≡◌ {A = ℕ} 0 1 = cc in omega arith) in
    let low : (j : ℕ) → fits (2 ^ e) p F (2 ^ j) ≡ true → found.i ≤ j =
    λ j t. elim (dec_le found.i j) [ yes h ↦ h | no h ↦ absurd (never j (omega arith) t) ] in
    let most : found.i ≤ e = low e (small_fits (2 ^ e) p F (2 ^ e) (pow_pos e) (omega arith) room) in
    record { i = found.i; is = found.is ∙ one-mul (2 ^ found.i); most = most; fit = found.here (omega arith); least = low }

-- more scratch fits what less scratch fits
pub spacing_falls : (e p F F' k k' : ℕ) → F ≤ F' → (one : Spaced e p F k) → (other : Spaced e p F' k') → other.i ≤ one.i
spacing_falls e p F F' k k' more one other =
    let blocks = 2 ^ e / 2 ^ one.i + p + 3 in
    let less : blocks ≤ F = leb-true blocks F (ap (fits (2 ^ e) p F) (sym one.is) ∙ one.fit) in
    other.least one.i (le-leb blocks F' (omega arith))

-- and a spacing that divides another leaves no block further from a stored one
pub nearer : (i i' j : ℕ) → i' ≤ i → j % 2 ^ i' ≤ j % 2 ^ i
nearer i i' j h =
    let split : 2 ^ i ≡ 2 ^ i' * 2 ^ (i - i') = (let sum : i ≡ i' + (i - i') = omega arith in ap (λ (d : ℕ). 2 ^ d) sum ∙ pow-add 2 i' (i - i')) in
    let same : j % 2 ^ i % 2 ^ i' ≡ j % 2 ^ i' = rw split (mod-mod_of_dvd (2 ^ i') j (dvd-mul_right (2 ^ i') (2 ^ (i - i')))) in
    omega (arith, mod-le (j % 2 ^ i) (2 ^ i'))

-- ---- the invariant of the search as the code makes it: what is left to try gives what all of it gave

pub record Searched (N p F k : ℕ) : Type 0 where
  pub left : ℕ
  pub same : first_fit left N p F k ≡ spacing N p F
  pub power : k * 2 ^ left ≡ 2 ^ 64
  pub some : 0 < k

pub searched_first : (N p F : ℕ) → Searched N p F 1
unfolding spacing
searched_first N p F = record { left = 64; same = refl; power = refl; some = omega arith }

pub searched_more : (N p F k : ℕ) → Searched N p F k → fits N p F k ≡ false → k < 2 ^ 62 → Searched N p F (k * 2)
searched_more N p F k was miss small = go was.left was.same was.power
  where
    go : (left : ℕ) → first_fit left N p F k ≡ spacing N p F → k * 2 ^ left ≡ 2 ^ 64 → Searched N p F (k * 2)
    go zero same power = absurd (omega (arith, power, mul-one k))
    go (suc left) same power = record { left = left; same = sym (fit_later left N p F k miss) ∙ same; power = twice k left ∙ power; some = omega (arith, was.some) }

-- the same by the test as the code has it: while nothing fits, k is below N
pub searched_on : (N p F k : ℕ) → Searched N p F k → N < 2 ^ 62 → p + 4 ≤ F → F < N / k + p + 3 → Searched N p F (k * 2)
searched_on N p F k was small room full = searched_more N p F k was (lt-leb _ _ full) (omega (arith, low))
  where
    low : k < N
    low =
        elim (dec_le N k) [
          | yes past ↦ absurd (omega (arith, leb-true (N / k + p + 3) F (small_fits N p F k was.some past room), full))
          | no before ↦ omega arith
        ]

pub ruleset turns = (searched_first, searched_on, fit_here)
