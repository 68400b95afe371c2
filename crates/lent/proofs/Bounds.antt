-- Lists whose elements lie below a bound, bytes and words alike, and exclusive or of the numbers that bytes say.
-- By induction on the lists.
-- Assumes nothing.
use Rattle.std.proofs.Common.{◌≡◌, ℕ, zero, suc, ◌+◌, ◌*◌, ◌/◌, ◌%◌, ◌^◌, ◌<◌, List, [], ◌∷◌, ◌++◌, length, get_or, take, drop, sym, refl, arith, get_or-drop, pow_pos}
use native.Mathlib.Decide.{dec_lt}
use lib.Bits.{bit_xor, xor_lt, xor_block}
use lib.ListN.{get_or-eq_default}
use Rattle.lent.specs.Bytes.{part, tab, joined, xors, Bytes}
use Rattle.lent.specs.Word.{le, be, of_le}
use Rattle.lent.proofs.Tabs.{length-tab}
use Rattle.lent.proofs.Arrays.{get_or-tab}

-- every element is below b; `Bytes` is `Below 256`
abbrev pub Below : ℕ → List ℕ → Type 0
Below b l = (i : ℕ) → get_or l i 0 < b

pub below_nil : (b : ℕ) → 0 < b → Below b []
below_nil b h i = h

pub below_cons : (b x : ℕ) (l : List ℕ) → x < b → Below b l → Below b (x ∷ l)
below_cons b x l h k zero = h
below_cons b x l h k (suc i) = k i

pub below_append : (b : ℕ) (xs ys : List ℕ) → Below b xs → Below b ys → Below b (xs ++ ys)
below_append b [] ys h k i = k i
below_append b (x ∷ xs) ys h k zero = h 0
below_append b (x ∷ xs) ys h k (suc i) = below_append b xs ys (λ j. h (suc j)) k i

pub below_drop : (b n : ℕ) (l : List ℕ) → Below b l → Below b (drop n l)
below_drop b n l h i = rw (get_or-drop n l i 0) (h (n + i))

pub below_take : (b n : ℕ) (l : List ℕ) → Below b l → Below b (take n l)
below_take b zero l h i = omega (arith, h 0)
below_take b (suc n) [] h i = h i
below_take b (suc n) (x ∷ l) h zero = h 0
below_take b (suc n) (x ∷ l) h (suc i) = below_take b n l (λ j. h (suc j)) i

pub below_part : (b at n : ℕ) (l : List ℕ) → Below b l → Below b (part at n l)
below_part b at n l h = below_take b n (drop at l) (below_drop b at l h)

pub below_tab : (b n : ℕ) (f : ℕ → ℕ) → 0 < b → ((i : ℕ) → f i < b) → Below b (tab n f)
below_tab b n f pos h i =
    let long : length (tab n f) ≡ n = length-tab n f in
    elim (dec_lt i n) [ yes less ↦ rw (get_or-tab n f i 0 less) (h i) | no past ↦ rw (get_or-eq_default (tab n f) 0 {n = i} (omega arith)) pos ]

pub below_le : (n x : ℕ) → Bytes (le n x)
unfolding le
below_le zero x i = omega arith
below_le (suc n) x zero = omega arith
below_le (suc n) x (suc i) = below_le n (x / 256) i

-- exclusive or needs no digit that neither has
pub below_be : (n x : ℕ) → Bytes (be n x)
unfolding be
below_be zero x = below_nil 256 (omega arith)
below_be (suc n) x = below_append 256 (be n (x / 256)) (x % 256 ∷ []) (below_be n (x / 256)) (below_cons 256 (x % 256) [] (omega arith) (below_nil 256 (omega arith)))

pub below_joined : (b n : ℕ) (f : ℕ → List ℕ) → 0 < b → ((i : ℕ) → Below b (f i)) → Below b (joined n f)
unfolding joined
below_joined b zero f pos h = below_nil b pos
below_joined b (suc n) f pos h = below_append b (joined n f) (f n) (below_joined b n f pos h) (h n)

pub below_xors : (k : ℕ) (xs ys : List ℕ) → Below (2 ^ k) xs → Below (2 ^ k) ys → Below (2 ^ k) (xors xs ys)
unfolding xors
below_xors k [] ys h g i = pow_pos k
below_xors k (x ∷ xs) [] h g i = pow_pos k
below_xors k (x ∷ xs) (y ∷ ys) h g zero = xor_lt k x y (h 0) (g 0)
below_xors k (x ∷ xs) (y ∷ ys) h g (suc i) = below_xors k xs ys (λ j. h (suc j)) (λ j. g (suc j)) i

-- the number that bytes say goes by exclusive or as the bytes do
pub of_le-xors : (xs ys : List ℕ) → length xs ≡ length ys → Bytes xs → Bytes ys → of_le (xors xs ys) ≡ bit_xor (of_le xs) (of_le ys)
unfolding of_le xors
of_le-xors [] [] e h g = refl
of_le-xors [] (y ∷ ys) e h g = absurd (omega arith)
of_le-xors (x ∷ xs) [] e h g = absurd (omega arith)
of_le-xors (x ∷ xs) (y ∷ ys) e h g =
    let rest = of_le-xors xs ys (omega arith) (λ i. h (suc i)) (λ i. g (suc i)) in
    let byte : (b w : ℕ) → b + 256 * w ≡ w * 2 ^ 8 + b = λ b w. omega arith in
    rw (rest, byte x (of_le xs), byte y (of_le ys), byte (bit_xor x y) (bit_xor (of_le xs) (of_le ys))) (sym (xor_block 8 (of_le xs) (of_le ys) x y (h 0) (g 0)))
