-- Sums, and the count: with every block stored it is 2N, and it is never above N·(k + 1). Assumes nothing.
use Rattle.std.proofs.Common.{◌≡◌, ℕ, zero, suc, ◌+◌, ◌*◌, ◌%◌, ◌<◌, ◌≤◌, List, refl, le_refl, mod-lt, arith}
use native.Mathlib.Nat.{mod-one}
use native.Mathlib.Decide.{le_ind}
use Rattle.romix.specs.ROMix.{sum, named, mixings}

pub sum_zero : (f : ℕ → ℕ) → sum 0 f ≡ 0
unfolding sum
sum_zero f = refl

pub sum_same : (n : ℕ) (f g : ℕ → ℕ) → ((i : ℕ) → i < n → f i ≡ g i) → sum n f ≡ sum n g
unfolding sum
sum_same zero f g h = refl
sum_same (suc n) f g h = rw (sum_same n f g (λ i k. h i (omega arith)), h n (omega arith))

-- each term at most m, so the sum is at most n·m
pub sum_most : (n m : ℕ) (f : ℕ → ℕ) → ((i : ℕ) → i < n → f i ≤ m) → sum n f ≤ n * m
unfolding sum
sum_most zero m f h = omega arith
sum_most (suc n) m f h = omega (arith, sum_most n m f (λ i k. h i (omega arith)), h n (omega arith))

-- a longer sum is no less
pub sum_grows : (i n : ℕ) (f : ℕ → ℕ) → i ≤ n → sum i f ≤ sum n f
unfolding sum
sum_grows i n f h = le_ind (λ (m : ℕ). sum i f ≤ sum m f) (le_refl _) (λ m k e. omega arith) n h

-- ... and what is below it leaves room for the next term
pub sum_below : (i n : ℕ) (f : ℕ → ℕ) → i < n → sum i f + f i ≤ sum n f
unfolding sum
sum_below i n f h = sum_grows (suc i) n f h

pub mixings_one : (r N : ℕ) (B : List ℕ) → mixings 1 r N B ≡ 2 * N
unfolding mixings
mixings_one r N B =
    let none : sum N (λ i. named r N B i % 1) ≤ N * 0 = sum_most N 0 (λ i. named r N B i % 1) (λ i h. omega (arith, mod-one (named r N B i))) in
    omega arith

pub mixings_most : (k r N : ℕ) (B : List ℕ) → 0 < k → mixings k r N B ≤ N * (k + 1)
unfolding mixings
mixings_most zero r N B pos = absurd (omega arith)
mixings_most (suc k) r N B pos =
    let each : sum N (λ i. named r N B i % suc k) ≤ N * k = sum_most N k (λ i. named r N B i % suc k) (λ i h. omega (arith, mod-lt (named r N B i) pos)) in
    omega arith

-- a sum whose terms are no more is no more
pub sum_mono : (n : ℕ) (f g : ℕ → ℕ) → ((i : ℕ) → i < n → f i ≤ g i) → sum n f ≤ sum n g
unfolding sum
sum_mono zero f g h = omega arith
sum_mono (suc n) f g h = omega (arith, sum_mono n f g (λ i k. h i (omega arith)), h n (omega arith))

pub sum_same_terms : (n m : ℕ) (f : ℕ → ℕ) → ((i : ℕ) → i < n → f i ≡ m) → sum n f ≡ n * m
unfolding sum
sum_same_terms zero m f h = omega arith
sum_same_terms (suc n) m f h = omega (arith, sum_same_terms n m f (λ i k. h i (omega arith)), h n (omega arith))

-- where each place is no further from a stored block, no more mixings are made
pub mixings_mono : (k k' r N : ℕ) (B : List ℕ) → ((j : ℕ) → j % k' ≤ j % k) → mixings k' r N B ≤ mixings k r N B
unfolding mixings
mixings_mono k k' r N B h = omega (arith, sum_mono N (λ i. named r N B i % k') (λ i. named r N B i % k) (λ i _. h (named r N B i)))
