-- Words in bytes and back, over the count of the words: lengths, bounds, both round trips, and exclusive or.
-- By induction on the words, four bytes at a time.
-- Assumes nothing.
use mathlib.Core.Path.{◌≡◌, refl, sym, ap, ◌∙◌}
use mathlib.Core.List.{List, [], ◌∷◌, ◌++◌, append_assoc, append-nil}
use Prim.Native.Nat.{ℕ, zero, suc, ◌+◌, ◌*◌, ◌^◌, ◌≤◌, ◌<◌}
use native.Mathlib.Omega.{arith}
use lib.Bits.{bit_xor}
use lib.ListN.{length, get_or, take, drop, length-append, length-drop, take-append-drop, drop_of_length-le}
use lib.Seq.{take_at, drop_at, drop-drop, take_all, take-suc, length-take-le}
use Rattle.lent.specs.Bytes.{part, tab, joined, xors, Bytes}
use Rattle.lent.specs.Word.{le, of_le}
use Rattle.lent.proofs.Parts.{part-part}
use Rattle.lent.proofs.Tabs.{tab-front, tab_ext}
use Rattle.lent.proofs.Words.{length-le, of_le_lt, of_le-le, le-of_le}
use Rattle.lent.proofs.Bounds.{below_nil, below_cons, below_append, below_le, below_take, below_drop, of_le-xors}
use Rattle.salsa.specs.Salsa.{words, bytes, Words}

pub words_none : (b : List ℕ) → words 0 b ≡ []
unfolding words tab
words_none b = refl

-- one word more, from the front
pub words-front : (n : ℕ) (b : List ℕ) → words (suc n) b ≡ of_le (take 4 b) ∷ words n (drop 4 b)
unfolding words
words-front n b =
    tab-front n (λ i. of_le (part (4 * i) 4 b))
    ∙ ap (λ (l : List ℕ). of_le (take 4 b) ∷ l) (tab_ext n (λ i. of_le (part (4 * suc i) 4 b)) (λ i. of_le (part (4 * i) 4 (drop 4 b))) next)
  where
    next : (i : ℕ) → i < n → of_le (part (4 * suc i) 4 b) ≡ of_le (part (4 * i) 4 (drop 4 b))
    next i h = let e : 4 * suc i ≡ 4 + 4 * i = omega arith in rw (drop-drop (4 * i) 4 b, e)

-- the words of a part, read where they lie
pub words-part : (n m at : ℕ) (s : List ℕ) → 4 * n ≤ m → words n (part at m s) ≡ tab n (λ i. of_le (part (at + 4 * i) 4 s))
unfolding words
words-part n m at s h = tab_ext n _ _ (λ i k. ap of_le (part-part (4 * i) 4 at m s (omega arith)))

pub length-bytes : (x : List ℕ) → length (bytes x) ≡ 4 * length x
unfolding bytes
length-bytes [] = refl
length-bytes (w ∷ x) = rw (length-append, length-le, length-bytes x) (omega arith)

pub bytes-append : (x y : List ℕ) → bytes (x ++ y) ≡ bytes x ++ bytes y
unfolding bytes
bytes-append [] y = refl
bytes-append (w ∷ x) y = rw (bytes-append x y, append_assoc)

pub bytes_are_bytes : (x : List ℕ) → Bytes (bytes x)
unfolding bytes
bytes_are_bytes [] = below_nil 256 (omega arith)
bytes_are_bytes (w ∷ x) = below_append 256 (le 4 w) (bytes x) (below_le 4 w) (bytes_are_bytes x)

-- four bytes from the front, of bytes that hold a word more
front : (n : ℕ) (b : List ℕ) → length b ≡ 4 * suc n → length (take 4 b) ≡ 4
front n b h = length-take-le 4 b (omega arith)

rest : (n : ℕ) (b : List ℕ) → length b ≡ 4 * suc n → length (drop 4 b) ≡ 4 * n
rest n b h = rw length-drop (omega arith)

pub words_are_words : (n : ℕ) (b : List ℕ) → length b ≡ 4 * n → Bytes b → Words (words n b)
words_are_words zero b h k = rw words_none (below_nil (2 ^ 32) (omega arith))
words_are_words (suc n) b h k =
    rw words-front
    (below_cons (2 ^ 32) (of_le (take 4 b)) (words n (drop 4 b)) (rw (front n b h) at (of_le_lt (take 4 b) (below_take 256 4 b k))) (words_are_words n (drop 4 b) (rest n b h) (below_drop 256 4 b k)))

-- what is written reads back as written
pub words-bytes : (x : List ℕ) → Words x → words (length x) (bytes x) ≡ x
unfolding bytes
words-bytes [] h = words_none []
words-bytes (w ∷ x) h =
    rw (words-front, take_at (le 4 w) (bytes x) 4 (length-le 4 w), drop_at (le 4 w) (bytes x) 4 (length-le 4 w), of_le-le 4 w (h 0), words-bytes x (λ i. h (suc i)))

-- bytes that are read and written again are the same bytes
pub bytes-words : (n : ℕ) (b : List ℕ) → length b ≡ 4 * n → Bytes b → bytes (words n b) ≡ b
unfolding bytes
bytes-words zero b h k = rw words_none (sym (drop_of_length-le b {i = 0} (omega arith)))
bytes-words (suc n) b h k =
    let again : le 4 (of_le (take 4 b)) ≡ take 4 b = rw (front n b h) at (le-of_le (take 4 b) (below_take 256 4 b k)) in
    rw (words-front, again, bytes-words n (drop 4 b) (rest n b h) (below_drop 256 4 b k), take-append-drop)

take-xors : (n : ℕ) (a b : List ℕ) → take n (xors a b) ≡ xors (take n a) (take n b)
unfolding xors
take-xors zero a b = refl
take-xors (suc n) [] b = refl
take-xors (suc n) (x ∷ a) [] = refl
take-xors (suc n) (x ∷ a) (y ∷ b) = ap (λ (l : List ℕ). bit_xor x y ∷ l) (take-xors n a b)

drop-xors : (n : ℕ) (a b : List ℕ) → length a ≡ length b → drop n (xors a b) ≡ xors (drop n a) (drop n b)
unfolding xors
drop-xors zero a b h = refl
drop-xors (suc n) [] [] h = refl
drop-xors (suc n) [] (y ∷ b) h = absurd (omega arith)
drop-xors (suc n) (x ∷ a) [] h = absurd (omega arith)
drop-xors (suc n) (x ∷ a) (y ∷ b) h = drop-xors n a b (omega arith)

-- exclusive or goes by words as by bytes
pub words-xors : (n : ℕ) (a b : List ℕ) → length a ≡ 4 * n → length b ≡ 4 * n → Bytes a → Bytes b → words n (xors a b) ≡ xors (words n a) (words n b)
unfolding xors
words-xors zero a b h g k l = rw (words_none (xors a b), words_none a)
words-xors (suc n) a b h g k l =
    rw (words-front n (xors a b), words-front n a, words-front n b, take-xors 4 a b, drop-xors 4 a b (h ∙ sym g), of_le-xors (take 4 a) (take 4 b) (front n a h ∙ sym (front n b g)) (below_take 256 4 a k) (below_take 256 4 b l), words-xors n (drop 4 a) (drop 4 b) (rest n a h) (rest n b g) (below_drop 256 4 a k) (below_drop 256 4 b l))

-- the words written one behind the other
joined-take : (x : List ℕ) (n : ℕ) → n ≤ length x → joined n (λ i. le 4 (get_or x i 0)) ≡ bytes (take n x)
unfolding joined bytes
joined-take x zero h = refl
joined-take x (suc n) h = rw (joined-take x n (omega arith), take-suc x n 0 (omega arith), bytes-append, append-nil)

pub joined-bytes : (x : List ℕ) → joined (length x) (λ i. le 4 (get_or x i 0)) ≡ bytes x
joined-bytes x = joined-take x (length x) (omega arith) ∙ ap bytes (take_all (length x) x (omega arith))
