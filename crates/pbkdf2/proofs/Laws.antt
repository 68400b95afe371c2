-- Laws of HMAC and PBKDF2: what is made from saved hash values is what the RFCs say; a shorter key is the start of a longer one;
-- a passphrase of at most 63 bytes and the same with a zero byte added give one key.
-- Assumes nothing.
use Rattle.std.proofs.Common.{◌≡◌, ℕ, zero, suc, ◌+◌, ◌-◌, ◌*◌, ◌/◌, ◌≤◌, ◌<◌, List, [], ◌∷◌, ◌++◌, length, take, drop, replicate, refl, sym, ap, ◌∙◌, append_assoc, add-zero, add-suc, arith, length-append, length-take-le, take-append-drop, take_all, take-take, take_at}
use native.Mathlib.Nat.{add_assoc}
use native.Mathlib.Decide.{dec_le}
use borrow.Author.Tests.{le-leb, lt-leb}
use lib.ListN.{length-replicate}
use lib.Seq.{sets, take-append-le, take-append-add}
use Rattle.lent.specs.Bytes.{Bytes, zeros, joined}
use Rattle.lent.specs.Word.{be}
use Rattle.lent.proofs.Parts.{sets-front, sets_all, take-sets}
use Rattle.lent.proofs.Tabs.{length-xors}
use Rattle.lent.proofs.Words.{length-be}
use Rattle.lent.proofs.Bounds.{below_take, below_joined}
use Rattle.sha256.specs.Sha256.{H₀, absorb, closed, sha256}
use Rattle.sha256.proofs.Laws.{absorb_whole, sha_split, closed-append, length-absorb, length-closed, length-sha256, bytes-sha256}
use Rattle.pbkdf2.specs.Hmac.{ipad, opad, shortened, block, masked, hmac}
use Rattle.pbkdf2.specs.Pbkdf2.{F, Ts, derived, pbkdf2}
use Rattle.pbkdf2.specs.Saved.{twice, piece}

-- ---- the key's block

pub block_short : (K : List ℕ) → length K ≤ 64 → block K ≡ K ++ zeros (64 - length K)
unfolding block shortened
block_short K h = rw (le-leb (length K) 64 h)

pub block_long : (K : List ℕ) → 64 < length K → block K ≡ sha256 K ++ zeros 32
unfolding block shortened
block_long K h = rw (lt-leb (length K) 64 h, length-sha256)

pub length-block : (K : List ℕ) → length (block K) ≡ 64
length-block K =
    elim (dec_le (length K) 64) [
      | yes h ↦ rw (block_short K h, length-append, length-replicate) (omega arith)
      | no h ↦ rw (block_long K (omega arith), length-append, length-sha256)
    ]

length-masked : (K : List ℕ) (pad : ℕ) → length (masked (block K) pad) ≡ 64
unfolding masked
length-masked K pad = length-xors (block K) (replicate 64 pad) (length-block K ∙ sym (length-replicate 64 pad)) ∙ length-block K

-- zeros follow a key of less than a block, so one zero byte more in the key changes nothing
block_zero : (K : List ℕ) → length K < 64 → block (K ++ (0 ∷ [])) ≡ block K
block_zero K h =
    let more : length (K ++ (0 ∷ [])) ≤ 64 = rw length-append (omega arith) in
    let left : 64 - length K ≡ suc (63 - length K) = omega arith in
    let fewer : 64 - (length K + 1) ≡ 63 - length K = omega arith in
    rw (block_short (K ++ (0 ∷ [])) more, block_short K (omega arith), length-append, append_assoc, left, fewer)

-- ---- from saved hash values

abbrev pub keyed : List ℕ → ℕ → List ℕ
keyed K pad = absorb H₀ (masked (block K) pad)

length-keyed : (K : List ℕ) (pad : ℕ) → length (keyed K pad) ≡ 8
unfolding H₀
length-keyed K pad = length-absorb H₀ (masked (block K) pad) refl

pub hmac-twice : (K text : List ℕ) → hmac K text ≡ twice (keyed K opad) (keyed K ipad) 64 text
unfolding hmac twice
hmac-twice K text =
    rw (
      sha_split 1 (masked (block K) ipad) text (length-masked K ipad),
      length-masked K ipad,
      sha_split 1 (masked (block K) opad) (closed (keyed K ipad) text (64 + length text)) (length-masked K opad),
      length-masked K opad,
      length-closed (keyed K ipad) text (64 + length text) (length-keyed K ipad),
    )

pub length-twice : (outer inner : List ℕ) (before : ℕ) (s : List ℕ) → length outer ≡ 8 → length (twice outer inner before s) ≡ 32
unfolding twice
length-twice outer inner before s h = length-closed outer (closed inner s (before + length s)) 96 h

pub length-piece : (outer inner : List ℕ) (before : ℕ) (s : List ℕ) → length outer ≡ 8 → (i : ℕ) → length (piece outer inner before s i) ≡ 32
unfolding piece
length-piece outer inner before s h i = length-twice outer inner before (s ++ be 4 i) h

-- whole blocks go into the inner hash first
twice-append : (k : ℕ) (outer inner : List ℕ) (before : ℕ) (xs ys : List ℕ) → length xs ≡ 64 * k → twice outer (absorb inner xs) (before + 64 * k) ys ≡ twice outer inner before (xs ++ ys)
unfolding twice
twice-append k outer inner before xs ys h = rw (length-append, h, ← add_assoc, closed-append k inner xs ys (before + 64 * k + length ys) h)

-- so a piece made from the values after the key's block, and after it and whole blocks xs of a salt xs ++ ys, is the RFC's
pub piece_is : (k : ℕ) (P xs ys : List ℕ) → length xs ≡ 64 * k → (i : ℕ) → piece (keyed P opad) (absorb (keyed P ipad) xs) (64 + 64 * k) ys i ≡ F P (xs ++ ys) i
unfolding piece
piece_is k P xs ys h i =
    twice-append k (keyed P opad) (keyed P ipad) 64 xs (ys ++ be 4 i) h ∙ rw (← append_assoc, ← hmac-twice)

-- a piece's number behind what is left of the salt, as the code writes it into a room
pub numbered : (room : ℕ) (s : List ℕ) (i : ℕ) → length s + 4 ≤ room → take (length s + 4) (sets (s ++ zeros (room - length s)) (length s) (be 4 i)) ≡ s ++ be 4 i
numbered room s i h =
    let four = length-be 4 i in
    rw four at (take-sets (s ++ zeros (room - length s)) (length s) (be 4 i) (rw (length-append, length-replicate, four) (omega arith))) ∙ rw (take_at s (zeros (room - length s)) (length s) refl) refl

-- ---- pieces joined

pub Ts_ext : (f g : ℕ → List ℕ) → ((i : ℕ) → f i ≡ g i) → (l : ℕ) → Ts f l ≡ Ts g l
unfolding joined
Ts_ext f g h zero = refl
Ts_ext f g h (suc l) = rw (Ts_ext f g h l, h (suc l))

pub derived_ext : (f g : ℕ → List ℕ) → ((i : ℕ) → f i ≡ g i) → (n : ℕ) → derived f n ≡ derived g n
unfolding derived
derived_ext f g h n = rw (Ts_ext f g h ((n + 31) / 32))

-- so what the pieces make that start from a salt's whole blocks is the RFC's key
pub pbkdf2-pieces : (P S : List ℕ) (n : ℕ) → derived (piece (keyed P opad) (absorb (keyed P ipad) S) (64 + length S / 64 * 64) (drop (length S / 64 * 64) S)) n ≡ pbkdf2 P S n
unfolding pbkdf2
pbkdf2-pieces P S n =
    let k = length S / 64 in
    let place : k * 64 ≡ 64 * k = omega arith in
    let whole : length (take (64 * k) S) ≡ 64 * k = length-take-le (64 * k) S (omega arith) in
    rw (place, absorb_whole (keyed P ipad) S k refl)
    (derived_ext _ (F P S) (λ i. piece_is k P (take (64 * k) S) (drop (64 * k) S) whole i ∙ ap (λ (l : List ℕ). F P l i) (take-append-drop (64 * k) S)) n)

module _ (f : ℕ → List ℕ) (long : (i : ℕ) → length (f i) ≡ 32) where
  pub length-Ts : (l : ℕ) → length (Ts f l) ≡ 32 * l
  unfolding joined
  length-Ts zero = refl
  length-Ts (suc l) = rw (length-append, length-Ts l, long (suc l)) (omega arith)

  pub length-derived : (n : ℕ) → length (derived f n) ≡ n
  unfolding derived
  length-derived n = length-take-le n (Ts f ((n + 31) / 32)) (rw length-Ts (omega arith))

  -- pieces past the first n bytes do not touch these
  take-Ts : (n l d : ℕ) → n ≤ 32 * l → take n (Ts f (l + d)) ≡ take n (Ts f l)
  unfolding joined
  take-Ts n l zero h = rw add-zero
  take-Ts n l (suc d) h =
      let room : n ≤ length (Ts f (l + d)) = rw length-Ts (omega arith) in
      rw (add-suc, take-append-le n (Ts f (l + d)) (f (suc (l + d))) room, take-Ts n l d h)

  take-derived : (n m : ℕ) → n ≤ m → take n (derived f m) ≡ derived f n
  unfolding derived
  take-derived n m h =
      let l = (n + 31) / 32 in
      let d = (m + 31) / 32 - l in
      let more : (m + 31) / 32 ≡ l + d = omega arith in
      rw (take-take n m (Ts f ((m + 31) / 32)) h, more, take-Ts n l d (omega arith))

  -- pieces laid out one after the other, as far as there is room: one more, and all
  pub laid_more : (l : List ℕ) (i : ℕ) → 32 * i < length l → sets (sets l 0 (take (length l) (Ts f i))) (32 * i) (take (length l - 32 * i) (f (suc i))) ≡ sets l 0 (take (length l) (Ts f (suc i)))
  unfolding joined
  laid_more l i h =
      let n = length-Ts i in
      let room : length l ≡ length (Ts f i) + (length l - 32 * i) = omega arith in
      let fits : length (Ts f i) ≤ length l = omega arith in
      let last : take (length l) (Ts f i ++ f (suc i)) ≡ Ts f i ++ take (length l - 32 * i) (f (suc i)) =
      ap (λ (k : ℕ). take k (Ts f i ++ f (suc i))) room ∙ take-append-add (Ts f i) (f (suc i)) (length l - 32 * i) in
      rw (take_all (length l) (Ts f i) fits, sets-front l (Ts f i) (take (length l - 32 * i) (f (suc i))) (32 * i) n, last)

  pub laid_all : (l : List ℕ) (i : ℕ) → length l ≤ 32 * i → i ≤ (length l + 31) / 32 → sets l 0 (take (length l) (Ts f i)) ≡ derived f (length l)
  unfolding derived
  laid_all l i h k =
      let all : i ≡ (length l + 31) / 32 = omega arith in
      rw all (sets_all l (derived f (length l)) (length-derived (length l)))

-- ---- for readers

length-F : (P S : List ℕ) (i : ℕ) → length (F P S i) ≡ 32
unfolding hmac
length-F P S i = length-sha256 (masked (block P) opad ++ sha256 (masked (block P) ipad ++ (S ++ be 4 i)))

pub length-pbkdf2 : (P S : List ℕ) (n : ℕ) → length (pbkdf2 P S n) ≡ n
unfolding pbkdf2
length-pbkdf2 P S n = length-derived (F P S) (length-F P S) n

bytes-F : (P S : List ℕ) (i : ℕ) → Bytes (F P S i)
unfolding hmac
bytes-F P S i = bytes-sha256 _

pub bytes-pbkdf2 : (P S : List ℕ) (n : ℕ) → Bytes (pbkdf2 P S n)
unfolding pbkdf2 derived
bytes-pbkdf2 P S n = below_take 256 n (Ts (F P S) ((n + 31) / 32)) (below_joined 256 ((n + 31) / 32) (λ i. F P S (suc i)) (omega arith) (λ i. bytes-F P S (suc i)))

-- a shorter key is the start of a longer one
pub pbkdf2_start : (P S : List ℕ) (n m : ℕ) → n ≤ m → take n (pbkdf2 P S m) ≡ pbkdf2 P S n
unfolding pbkdf2
pbkdf2_start P S n m h = take-derived (F P S) (length-F P S) n m h

-- a passphrase of at most 63 bytes and the same with a zero byte added give one key
pub pbkdf2_zero : (P S : List ℕ) (n : ℕ) → length P ≤ 63 → pbkdf2 (P ++ (0 ∷ [])) S n ≡ pbkdf2 P S n
unfolding pbkdf2 hmac
pbkdf2_zero P S n h = derived_ext (F (P ++ (0 ∷ [])) S) (F P S) (λ i. rw (block_zero P (omega arith))) n
