-- Lent bytes as lists: a part that is read, a place that is written (the library's `sets l at vs`), and the few operations on whole byte strings.
-- A byte is a number below 256, and a lent slice is the list of its bytes.
use Rattle.std.specs.Prelude.{ℕ, zero, suc, ◌+◌, ◌-◌, ◌<◌, ◌≤◌, Bool, true, false, ◌&&◌, List, [], ◌∷◌, ◌++◌, take, drop, replicate, ◌==◌, bit_xor, slice_index}

-- one of two answers, by a test
abbrev pub pick : {A : Type 0} → Bool → A → A → A
pick true x y = x
pick false x y = y

-- the n elements from place `at` on
abbrev pub part : {A : Type 0} → ℕ → ℕ → List A → List A
part at n l = take n (drop at l)

-- two places of n bytes share none: they lie at least n apart, in either order
abbrev pub Apart : ℕ → ℕ → ℕ → Type 0
Apart n a b = n ≤ (a - b) + (b - a)

-- n zero bytes
abbrev pub zeros : ℕ → List ℕ
zeros n = replicate n 0

-- every element is a byte; past the end `slice_index` answers 0, so no bound on the index is wanted
abbrev pub Bytes : List ℕ → Type 0
Bytes l = (i : ℕ) → slice_index l i < 256

-- f 0, f 1, .. f (n - 1): what a loop that stores one element a turn has made after n turns
unfoldable pub tab : {A : Type 0} → ℕ → (ℕ → A) → List A
tab zero f = []
tab (suc n) f = tab n f ++ (f n ∷ [])

-- f 0, f 1, .. f (n - 1), one after the other
unfoldable pub joined : {A : Type 0} → ℕ → (ℕ → List A) → List A
joined zero f = []
joined (suc n) f = joined n f ++ f n

-- exclusive or of two byte strings, byte by byte, as far as the shorter goes
unfoldable pub xors : List ℕ → List ℕ → List ℕ
xors [] ys = []
xors (x ∷ xs) [] = []
xors (x ∷ xs) (y ∷ ys) = bit_xor x y ∷ xors xs ys

-- whether two byte strings are the same
unfoldable pub eqs : List ℕ → List ℕ → Bool
eqs [] [] = true
eqs [] (y ∷ ys) = false
eqs (x ∷ xs) [] = false
eqs (x ∷ xs) (y ∷ ys) = x == y && eqs xs ys
