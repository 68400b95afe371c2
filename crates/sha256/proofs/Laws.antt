-- Laws of FIPS 180-4's definitions: how the schedule grows, and how a hash splits after whole blocks.
-- Assumes nothing.
use Rattle.std.proofs.Common.{◌≡◌, ℕ, zero, suc, ◌+◌, ◌-◌, ◌*◌, ◌/◌, ◌%◌, ◌≤◌, ◌<◌, List, [], ◌∷◌, ◌++◌, length, get_or, set, take, drop, refl, sym, ap, ◌∙◌, append_assoc, append-nil, add-one, add-zero, add-suc, one-add, arith, length-append, length-drop, length-take-le, take-append-drop, take-take, take-suc, take_all, get_or-take, get_or-set_same}
use native.Mathlib.Decide.{dec_le}
use Rattle.std.specs.List.{fold}
use Rattle.std.specs.Simd.{first_chunks}
use borrow.Author.Tests.{lt-ltb, le-ltb}
use lib.ListN.{length-replicate}
use lib.Seq.{take-suc-set, take-append-le, sets}
use Rattle.lent.specs.Bytes.{Bytes, part, zeros, joined}
use Rattle.lent.specs.Word.{be}
use Rattle.lent.proofs.Parts.{part-front, part_back, part-sets_same, sets-front, sets_follow, sets_over_copies, sets_all}
use Rattle.lent.proofs.Tabs.{length-tab}
use Rattle.lent.proofs.Bounds.{below_append, below_be}
use Rattle.lent.proofs.Words.{length-be}
use Rattle.sha256.specs.Sha256.{M, Wt, H₀, padding, schedule, compress, blocks, absorb, bytes, closed, sha256}

-- ---- the schedule, filled in place: its first sixteen words are the block's, each later one follows from those before

module _ (b w : List ℕ) (t : ℕ) (fits : t < length w) (front : take t w ≡ schedule b t) where
  pub schedule_load : t < 16 → take (t + 1) (set w t (M b t)) ≡ schedule b (t + 1)
  unfolding schedule
  schedule_load h = rw (add-one, take-suc-set w t (M b t) fits, front, lt-ltb t 16 h)

  pub schedule-next : 16 ≤ t → take (t + 1) (set w t (Wt w t)) ≡ schedule b (t + 1)
  unfolding schedule
  schedule-next h =
      rw (
        add-one,
        take-suc-set w t (Wt w t) fits,
        ← front,
        le-ltb t 16 h,
        get_or-take t w (t - 2) 0 (omega arith),
        get_or-take t w (t - 7) 0 (omega arith),
        get_or-take t w (t - 15) 0 (omega arith),
        get_or-take t w (t - 16) 0 (omega arith),
      )

-- for readers: each word of the whole schedule is what section 6.2.2 says

length-schedule : (b : List ℕ) (n : ℕ) → length (schedule b n) ≡ n
unfolding schedule
length-schedule b zero = refl
length-schedule b (suc n) = rw (length-append, length-schedule b n, add-one)

schedule-front : (b : List ℕ) (n t : ℕ) → t ≤ n → take t (schedule b n) ≡ schedule b t
unfolding schedule
schedule-front b zero t h = let none : t ≡ 0 = omega arith in rw none
schedule-front b (suc n) t h =
    let long = length-schedule b n in
    let all = length-schedule b (suc n) in
    elim (dec_le t n) [
      | yes k ↦ take-append-le t (schedule b n) _ (omega arith) ∙ schedule-front b n t k
      | no k ↦ let last : t ≡ suc n = omega arith in rw last (take_all (suc n) (schedule b (suc n)) (omega arith))
    ]

module _ (b : List ℕ) (n t : ℕ) (h : t < n) where
  abbrev W : List ℕ
  W = schedule b n

  long : length W ≡ n
  long = length-schedule b n

  word : (v : ℕ) → take (t + 1) (set W t v) ≡ schedule b (t + 1) → get_or W t 0 ≡ v
  word v e =
      sym (get_or-take (t + 1) W t 0 (omega arith))
      ∙ ap (λ (l : List ℕ). get_or l t 0) (schedule-front b n (t + 1) (omega arith) ∙ sym e)
      ∙ get_or-take (t + 1) (set W t v) t 0 (omega arith)
      ∙ get_or-set_same W t v 0 (omega (arith, long))

  pub schedule-first : t < 16 → get_or W t 0 ≡ M b t
  schedule-first k = word (M b t) (schedule_load b W t (omega (arith, long)) (schedule-front b n t (omega arith)) k)

  pub schedule_recurs : 16 ≤ t → get_or W t 0 ≡ Wt W t
  schedule_recurs k = word (Wt W t) (schedule-next b W t (omega (arith, long)) (schedule-front b n t (omega arith)) k)

-- ---- blocks: those of the first of two strings, and those of both where the first has whole blocks

pub blocks-front : (n : ℕ) (xs ys H : List ℕ) → 64 * n ≤ length xs → blocks n (xs ++ ys) H ≡ blocks n xs H
unfolding blocks
blocks-front zero xs ys H h = refl
blocks-front (suc n) xs ys H h = rw (blocks-front n xs ys H (omega arith), part-front (64 * n) 64 xs ys (omega arith))

blocks_add : (m n : ℕ) (xs ys H : List ℕ) → length xs ≡ 64 * m → blocks (m + n) (xs ++ ys) H ≡ blocks n ys (blocks m xs H)
unfolding blocks
blocks_add m zero xs ys H h = rw (add-zero, blocks-front m xs ys H (omega arith))
blocks_add m (suc n) xs ys H h =
    let place : 64 * (m + n) ≡ length xs + 64 * n = omega arith in
    rw (add-suc, blocks_add m n xs ys H h, place, part_back (64 * n) 64 xs ys)

-- a string of whole blocks is absorbed first, what follows it after it
pub absorb-append : (k : ℕ) (H xs ys : List ℕ) → length xs ≡ 64 * k → absorb H (xs ++ ys) ≡ absorb (absorb H xs) ys
unfolding absorb
absorb-append k H xs ys h =
    let first : length xs / 64 ≡ k = omega arith in
    let both : (length xs + length ys) / 64 ≡ k + length ys / 64 = omega arith in
    rw (length-append, both, first, blocks_add k (length ys / 64) xs ys H h)

-- less than a block has nothing to absorb
absorb_short : (H s : List ℕ) → length s < 64 → absorb H s ≡ H
unfolding absorb blocks
absorb_short H s h = let none : length s / 64 ≡ 0 = omega arith in rw none

-- so what follows the whole blocks of s is no part of it
pub absorb_whole : (H s : List ℕ) (k : ℕ) → k ≡ length s / 64 → absorb H s ≡ absorb H (take (64 * k) s)
absorb_whole H s k h =
    let long : length (take (64 * k) s) ≡ 64 * k = length-take-le (64 * k) s (omega arith) in
    let short : length (drop (64 * k) s) < 64 = rw length-drop (omega arith) in
    ap (absorb H) (sym (take-append-drop (64 * k) s))
    ∙ absorb-append k H (take (64 * k) s) (drop (64 * k) s) long
    ∙ absorb_short (absorb H (take (64 * k) s)) (drop (64 * k) s) short

-- and is absorbed with what comes after
pub absorb_rest : (H s ys : List ℕ) → absorb (absorb H s) (drop (length s / 64 * 64) s ++ ys) ≡ absorb H (s ++ ys)
absorb_rest H s ys =
    let k = length s / 64 in
    let place : k * 64 ≡ 64 * k = omega arith in
    let xs = take (64 * k) s in
    let rest = drop (64 * k) s in
    rw (place, absorb_whole H s k refl)
    (sym (absorb-append k H xs (rest ++ ys) (length-take-le (64 * k) s (omega arith)))
    ∙ ap (absorb H) (sym (append_assoc xs rest ys) ∙ ap (λ (l : List ℕ). l ++ ys) (take-append-drop (64 * k) s)))

-- so the blocks are absorbed one after the other, from the first
blocks-front_first : (n : ℕ) (s H : List ℕ) → 64 * suc n ≤ length s → blocks (1 + n) s H ≡ blocks n (drop 64 s) (compress H (take 64 s))
unfolding blocks
blocks-front_first n s H h =
    let long : length (take 64 s) ≡ 64 * 1 = length-take-le 64 s (omega arith) in
    let first : part 0 64 (take 64 s) ≡ take 64 s = take-take 64 64 s (omega arith) in
    ap (λ (l : List ℕ). blocks (1 + n) l H) (sym (take-append-drop 64 s))
    ∙ blocks_add 1 n (take 64 s) (drop 64 s) H long
    ∙ ap (λ (l : List ℕ). blocks n (drop 64 s) (compress H l)) first

fold-blocks : (n : ℕ) (s H : List ℕ) → 64 * n ≤ length s → fold compress H (first_chunks 64 n s) ≡ blocks n s H
unfolding blocks
fold-blocks zero s H h = refl
fold-blocks (suc n) s H h =
    let room : 64 * n ≤ length (drop 64 s) = rw length-drop (omega arith) in
    fold-blocks n (drop 64 s) (compress H (take 64 s)) room ∙ sym (blocks-front_first n s H h) ∙ rw one-add refl

pub absorb_folds : (H s : List ℕ) → fold compress H (first_chunks 64 (length s / 64) s) ≡ absorb H s
unfolding absorb
absorb_folds H s = fold-blocks (length s / 64) s H (omega arith)

-- a hash closed from the value after a string of whole blocks
pub closed-append : (k : ℕ) (H xs ys : List ℕ) (n : ℕ) → length xs ≡ 64 * k → closed H (xs ++ ys) n ≡ closed (absorb H xs) ys n
unfolding closed
closed-append k H xs ys n h = rw (append_assoc, absorb-append k H xs (ys ++ padding n) h)

-- so a whole hash splits there
pub sha_split : (k : ℕ) (xs ys : List ℕ) → length xs ≡ 64 * k → sha256 (xs ++ ys) ≡ closed (absorb H₀ xs) ys (length xs + length ys)
unfolding sha256
sha_split k xs ys h = rw (length-append, closed-append k H₀ xs ys (length xs + length ys) h)

-- ---- the digest

pub length-compress : (H b : List ℕ) → length (compress H b) ≡ 8
unfolding compress
length-compress H b = length-tab 8 _

length-blocks : (n : ℕ) (s H : List ℕ) → length H ≡ 8 → length (blocks n s H) ≡ 8
unfolding blocks
length-blocks zero s H h = h
length-blocks (suc n) s H h = length-compress (blocks n s H) (part (64 * n) 64 s)

pub length-absorb : (H s : List ℕ) → length H ≡ 8 → length (absorb H s) ≡ 8
unfolding absorb
length-absorb H s h = length-blocks (length s / 64) s H h

pub length-bytes : (xs : List ℕ) → length (bytes xs) ≡ 4 * length xs
unfolding bytes
length-bytes [] = refl
length-bytes (x ∷ xs) = rw (length-append, length-be, length-bytes xs) (omega arith)

pub length-closed : (H s : List ℕ) (n : ℕ) → length H ≡ 8 → length (closed H s n) ≡ 32
unfolding closed
length-closed H s n h = rw (length-bytes, length-absorb H (s ++ padding n) h)

pub length-sha256 : (m : List ℕ) → length (sha256 m) ≡ 32
unfolding sha256 H₀
length-sha256 m = length-closed H₀ m (length m) refl

bytes_join : (xs ys : List ℕ) → bytes (xs ++ ys) ≡ bytes xs ++ bytes ys
unfolding bytes
bytes_join [] ys = refl
bytes_join (x ∷ xs) ys = rw (bytes_join xs ys, append_assoc)

bytes-bytes : (xs : List ℕ) → Bytes (bytes xs)
unfolding bytes
bytes-bytes [] i = omega arith
bytes-bytes (x ∷ xs) i = below_append 256 (be 4 x) (bytes xs) (below_be 4 x) (bytes-bytes xs) i

pub bytes-sha256 : (m : List ℕ) → Bytes (sha256 m)
unfolding sha256 closed
bytes-sha256 m = bytes-bytes (absorb H₀ (m ++ padding (length m)))

-- as they are written, word by word
pub bytes-more : (h : List ℕ) (j : ℕ) → j < length h → bytes (take (j + 1) h) ≡ bytes (take j h) ++ be 4 (get_or h j 0)
unfolding bytes
bytes-more h j k = rw (add-one, take-suc h j 0 k, bytes_join, append-nil)

bytes-take : (h : List ℕ) (n : ℕ) → n ≤ length h → bytes (take n h) ≡ joined n (λ i. be 4 (get_or h i 0))
unfolding bytes joined
bytes-take h zero k = refl
bytes-take h (suc n) k = rw (← add-one n, bytes-more h n (omega arith), bytes-take h n (omega arith))

pub bytes_stored : (room h : List ℕ) → length room ≡ 32 → length h ≡ 8 → sets room 0 (joined 8 (λ i. be 4 (get_or h i 0))) ≡ bytes h
bytes_stored room h n k =
    let all : bytes h ≡ joined 8 (λ i. be 4 (get_or h i 0)) = ap bytes (sym (take_all 8 h (omega arith))) ∙ bytes-take h 8 (omega arith) in
    let long : length (bytes h) ≡ length room = rw length-bytes (omega arith) in
    rw (← all) (sets_all room (bytes h) long)

-- ---- padding, as the code writes it behind the last bytes m of a message, over zeros

module _ (room : ℕ) (m : List ℕ) (total : ℕ) (wide : 128 ≤ room) (short : length m < 64) (same : total % 64 ≡ length m) where
  abbrev end : ℕ
  end = 64 * ((length m + 72) / 64)

  abbrev z : ℕ
  z = (119 - total % 64) % 64

  abbrev front : List ℕ
  front = (m ++ (128 ∷ [])) ++ zeros z

  length_front : length front ≡ end - 8
  length_front = rw (length-append, length-append, length-replicate) (omega arith)

  pub laid_out : take end (sets (set (m ++ zeros (room - length m)) (length m) 128) (end - 8) (be 8 (8 * total))) ≡ m ++ padding total
  unfolding padding
  laid_out =
      let blank = zeros room in
      let bit = m ++ (128 ∷ []) in
      let bits : length bit ≡ length m + 1 = rw length-append in
      let whole = front ++ be 8 (8 * total) in
      let all : length whole ≡ end = rw (length-append, length_front, length-be) (omega arith) in
      let within : 0 + length whole ≤ length blank = rw (all, length-replicate) (omega arith) in
      rw (
        ← sets_over_copies room 0 m (omega arith),
        sets-front blank m (128 ∷ []) (length m) refl,
        sets_follow room z 0 bit (omega arith),
        sets-front blank front (be 8 (8 * total)) (end - 8) length_front,
      )
      (ap (λ (k : ℕ). take k (sets blank 0 whole)) (sym all) ∙ part-sets_same blank 0 whole within ∙ simp append_assoc)
