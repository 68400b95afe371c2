-- Laws of words in bytes, over the width.
-- Assumes nothing.
use Rattle.std.proofs.Common.{◌≡◌, ℕ, zero, suc, ◌+◌, ◌-◌, ◌*◌, ◌/◌, ◌%◌, ◌^◌, ◌<◌, ◌≤◌, List, [], ◌∷◌, ◌++◌, length, get_or, drop, sym, refl, ap, ap₂, ◌∙◌, append_assoc, append-nil, add-zero, add-suc, mul_comm, pow-suc, div-one, add-one, arith, length-append, length-drop}
use native.Mathlib.Nat.{div-div-eq-div-mul, one-le-pow}
use lib.Arith.{mod-mul}
use lib.Seq.{take-length}
use Rattle.lent.specs.Bytes.{Bytes, part, tab}
use Rattle.std.specs.Int.{w32, rotate_left, rotate_right, byte_at, bytes_low_first, bytes_high_first}
use Rattle.lent.specs.Word.{rotl, rotr, le, be, of_le}
use Rattle.lent.proofs.Tabs.{tab-part}

pub length-le : (n x : ℕ) → length (le n x) ≡ n
unfolding le
length-le zero x = refl
length-le (suc n) x = ap suc (length-le n (x / 256))

pub length-be : (n x : ℕ) → length (be n x) ≡ n
unfolding be
length-be zero x = refl
length-be (suc n) x = rw (length-append, length-be n (x / 256), add-one)

-- the number that bytes say is below 256 to their count
pub of_le_lt : (l : List ℕ) → Bytes l → of_le l < 256 ^ length l
unfolding of_le
of_le_lt [] h = omega arith
of_le_lt (b ∷ l) h =
    let head : b < 256 = h 0 in
    let rest : of_le l < 256 ^ length l = of_le_lt l (λ i. h (suc i)) in
    rw (pow-suc 256 (length l)) (omega arith)

-- what is written reads back as written
pub of_le-le : (n x : ℕ) → x < 256 ^ n → of_le (le n x) ≡ x
unfolding of_le le
of_le-le zero x h = omega arith
of_le-le (suc n) x h =
    let k : x < 256 ^ n * 256 = rw (pow-suc 256 n) at h in
    rw (of_le-le n (x / 256) (omega arith)) (omega arith)

-- bytes that are read and written again are the same bytes
pub le-of_le : (l : List ℕ) → Bytes l → le (length l) (of_le l) ≡ l
unfolding of_le le
le-of_le [] h = refl
le-of_le (b ∷ l) h =
    let head : b < 256 = h 0 in
    let low : (b + 256 * of_le l) % 256 ≡ b = omega arith in
    let high : (b + 256 * of_le l) / 256 ≡ of_le l = omega arith in
    rw (low, high, le-of_le l (λ i. h (suc i)))

-- a word in two pieces, the higher bytes first
pub be-split : (m n x : ℕ) → be (m + n) x ≡ be m (x / 256 ^ n) ++ be n (x % 256 ^ n)
unfolding be
be-split m zero x = rw (add-zero, div-one, append-nil)
be-split m (suc n) x =
    let digits : x % (256 ^ n * 256) ≡ x / 256 % 256 ^ n * 256 + x % 256 = mod-mul x (one-le-pow n 256 (omega arith)) (omega arith) in
    let high : (x / 256 % 256 ^ n * 256 + x % 256) / 256 ≡ x / 256 % 256 ^ n = omega arith in
    let low : (x / 256 % 256 ^ n * 256 + x % 256) % 256 ≡ x % 256 = omega arith in
    let above : x / (256 ^ n * 256) ≡ x / 256 / 256 ^ n = ap (λ (k : ℕ). x / k) (mul_comm (256 ^ n) 256) ∙ sym (div-div-eq-div-mul x 256 (256 ^ n)) in
    rw (add-suc, pow-suc 256 n, digits, high, low, above, be-split m n (x / 256), append_assoc)

-- four bytes, one by one
pub part_four : (l : List ℕ) (at : ℕ) → at + 4 ≤ length l → part at 4 l ≡ get_or l at 0 ∷ get_or l (at + 1) 0 ∷ get_or l (at + 2) 0 ∷ get_or l (at + 3) 0 ∷ []
unfolding tab
part_four l at h =
    let room : 4 ≤ length (drop at l) = simp length-drop (omega arith) in
    sym (tab-part at 4 l 0 room) ∙ ap (λ (k : ℕ). get_or l k 0 ∷ get_or l (at + 1) 0 ∷ get_or l (at + 2) 0 ∷ get_or l (at + 3) 0 ∷ []) (add-zero at)

-- bytes in two pieces: the second counts from where the first ends
pub of_le-append : (a b : List ℕ) → of_le (a ++ b) ≡ of_le a + 256 ^ length a * of_le b
unfolding of_le
of_le-append [] b = omega arith
of_le-append (x ∷ a) b = rw (of_le-append a b, pow-suc 256 (length a)) (omega arith)

-- a list of four
pub four : (l : List ℕ) → length l ≡ 4 → l ≡ get_or l 0 0 ∷ get_or l 1 0 ∷ get_or l 2 0 ∷ get_or l 3 0 ∷ []
four l h = sym (rw h at (take-length l)) ∙ part_four l 0 (omega arith)

-- the library's rotations are the paper's, by fewer bits than the word has
pub rotl_is : (n x : ℕ) → 0 < n → n < 32 → rotate_left w32 x n ≡ rotl n x
rotl_is n x h k = let e : n % 32 ≡ n = omega arith in let d : (32 - n) % 32 ≡ 32 - n = omega arith in rw (e, d) refl

pub rotr_is : (n x : ℕ) → 0 < n → n < 32 → rotate_right w32 x n ≡ rotr n x
rotr_is n x h k = let e : n % 32 ≡ n = omega arith in let d : (32 - n) % 32 ≡ 32 - n = omega arith in rw (e, d) refl

-- the library's bytes of a number, in either order, are the papers', for every width
byte_is : (i n : ℕ) → byte_at i n ≡ n / 256 ^ i % 256
byte_is zero n = ap (λ (k : ℕ). k % 256) (sym (div-one n))
byte_is (suc i) n = refl

low_from : (k i n : ℕ) → bytes_low_first i k n ≡ le k (n / 256 ^ i)
unfolding le
low_from zero i n = refl
low_from (suc k) i n =
    let deeper : n / 256 ^ suc i ≡ n / 256 ^ i / 256 = rw (pow-suc 256 i) (sym (div-div-eq-div-mul n (256 ^ i) 256)) in
    ap₂ ◌∷◌ (byte_is i n) (low_from k (suc i) n ∙ ap (le k) deeper)

pub low_first : (k n : ℕ) → bytes_low_first 0 k n ≡ le k n
low_first k n = low_from k 0 n ∙ ap (le k) (div-one n)

be-front : (k n : ℕ) → be (suc k) n ≡ n / 256 ^ k % 256 ∷ be k n
unfolding be
be-front zero n = ap (λ (m : ℕ). m % 256 ∷ []) (sym (div-one n))
be-front (suc k) n =
    let deeper : n / 256 / 256 ^ k ≡ n / 256 ^ suc k = div-div-eq-div-mul n 256 (256 ^ k) ∙ ap (λ (m : ℕ). n / m) (mul_comm 256 (256 ^ k) ∙ sym (pow-suc 256 k)) in
    rw (be-front k (n / 256), deeper) refl

pub high_first : (k n : ℕ) → bytes_high_first k n ≡ be k n
unfolding be
high_first zero n = refl
high_first (suc k) n = ap₂ ◌∷◌ (byte_is k n) (high_first k n) ∙ sym (be-front k n)
