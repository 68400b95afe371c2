-- Laws of parts and places: `part at n l` reads, `sets l at vs` writes. By induction on what is written, from `lib.Seq`'s laws of one store.
-- Assumes nothing.
use Rattle.std.proofs.Common.{◌≡◌, ℕ, zero, suc, ◌+◌, ◌-◌, ◌<◌, ◌≤◌, List, [], ◌∷◌, ◌++◌, length, get_or, take, drop, set, replicate, sym, refl, ap, ◌∙◌, append_assoc, append-nil, add-zero, add-suc, suc-add, zero-add, arith, length-append, length-drop, length-set, take-append-drop, drop_of_length-le, length-take-le, get_or-drop, get_or-set_other, get_or-take, take-take, drop-drop, take_at, drop-set-lt, take-add, drop_at, set-set}
use native.Mathlib.Decide.{dec_le}
use lib.ListN.{length-replicate, replicate-append-replicate}
use Rattle.std.proofs.lemmas.Slice.{put_mid-paste}
use borrow.Rule.Slice.PartMut.{put_mid}
use lib.Seq.{take-length, paste, sets, sets-eq, length-sets, set_comm, take-set-le, drop-set-add, take-append_seam, drop-append-le, drop-append-add, take-append-le}
use Rattle.lent.specs.Bytes.{part, Apart}

module _ {A : Type 0} where
  -- ---- reading

  pub length-part : (at n : ℕ) (l : List A) → at + n ≤ length l → length (part at n l) ≡ n
  length-part at n l h = length-take-le n (drop at l) (simp length-drop (omega arith))

  pub get_or-part : (at n : ℕ) (l : List A) (i : ℕ) (d : A) → i < n → get_or (part at n l) i d ≡ get_or l (at + i) d
  get_or-part at n l i d h = get_or-take n (drop at l) i d h ∙ get_or-drop at l i d

  part-take : (a n m : ℕ) (l : List A) → a + n ≤ m → part a n (take m l) ≡ part a n l
  part-take zero n m l h = take-take n m l (omega arith)
  part-take (suc a) n zero l h = absurd (omega arith)
  part-take (suc a) n (suc m) [] h = refl
  part-take (suc a) n (suc m) (x ∷ l) h = part-take a n m l (omega arith)

  -- a part of a part
  pub part-part : (a n b m : ℕ) (l : List A) → a + n ≤ m → part a n (part b m l) ≡ part (b + a) n l
  part-part a n b m l h = part-take a n m (drop b l) h ∙ ap (take n) (drop-drop a b l)

  -- a part in two pieces
  pub part_add : (at n m : ℕ) (l : List A) → part at (n + m) l ≡ part at n l ++ part (at + n) m l
  part_add at n m l = take-add n m (drop at l) ∙ ap (λ (t : List A). part at n l ++ take m t) (drop-drop n at l)

  -- a part of the first of two lists, and one of the second
  pub part-front : (at n : ℕ) (xs ys : List A) → at + n ≤ length xs → part at n (xs ++ ys) ≡ part at n xs
  part-front at n xs ys h =
      let room : n ≤ length (drop at xs) = simp length-drop (omega arith) in
      rw (drop-append-le at xs ys (omega arith), take-append-le n (drop at xs) ys room)

  pub part_back : (at n : ℕ) (xs ys : List A) → part (length xs + at) n (xs ++ ys) ≡ part at n ys
  part_back at n xs ys = ap (take n) (drop-append-add xs ys at)

  -- a part of copies of one element
  pub part-replicate : (at n m : ℕ) (a : A) → at + n ≤ m → part at n (replicate m a) ≡ replicate n a
  part-replicate at n m a h =
      let e : at + (n + (m - at - n)) ≡ m = omega arith in
      rw (← e, ← replicate-append-replicate at (n + (m - at - n)) a, ← replicate-append-replicate n (m - at - n) a, drop_at (replicate at a) (replicate n a ++ replicate (m - at - n) a) at (length-replicate at a), take_at (replicate n a) (replicate (m - at - n) a) n (length-replicate n a))

  -- ---- writing

  part-set_before : (at n : ℕ) (l : List A) (i : ℕ) (a : A) → at + n ≤ i → part at n (set l i a) ≡ part at n l
  part-set_before at n l i a h =
      let e : at + (i - at) ≡ i = omega arith in
      let k : n ≤ i - at = omega arith in
      ap (λ (j : ℕ). take n (drop at (set l j a))) (sym e) ∙ ap (take n) (drop-set-add at l (i - at) a) ∙ take-set-le n (drop at l) (i - at) a k

  -- a part before the place that is written
  pub part-sets_before : (at n : ℕ) (l : List A) (i : ℕ) (vs : List A) → at + n ≤ i → part at n (sets l i vs) ≡ part at n l
  part-sets_before at n l i [] h = refl
  part-sets_before at n l i (a ∷ vs) h = part-sets_before at n (set l i a) (suc i) vs (omega arith) ∙ part-set_before at n l i a h

  drop-sets : (at : ℕ) (l : List A) (i : ℕ) (vs : List A) → i + length vs ≤ at → drop at (sets l i vs) ≡ drop at l
  drop-sets at l i [] h = refl
  drop-sets at l i (a ∷ vs) h = drop-sets at (set l i a) (suc i) vs (omega arith) ∙ drop-set-lt at l i a (omega arith)

  -- a part after it
  pub part-sets-after : (at n : ℕ) (l : List A) (i : ℕ) (vs : List A) → i + length vs ≤ at → part at n (sets l i vs) ≡ part at n l
  part-sets-after at n l i vs h = ap (take n) (drop-sets at l i vs h)

  -- the place itself
  pub part-sets_same : (l : List A) (i : ℕ) (vs : List A) → i + length vs ≤ length l → part i (length vs) (sets l i vs) ≡ vs
  part-sets_same l i vs h =
      rw (sets-eq vs l i h, append_assoc, drop_at (take i l) (vs ++ drop (i + length vs) l) i (length-take-le i l (omega arith)), take-append_seam)

  set-sets : (l : List A) (i : ℕ) (a : A) (j : ℕ) (b : List A) → i < j → sets (set l i a) j b ≡ set (sets l j b) i a
  set-sets l i a j [] h = refl
  set-sets l i a j (x ∷ b) h =
      ap (λ (m : List A). sets m (suc j) b) (set_comm l i j a x (omega arith)) ∙ set-sets (set l j x) i a (suc j) b (omega arith)

  -- writes at two places apart commute
  pub sets_comm : (l : List A) (i : ℕ) (a : List A) (j : ℕ) (b : List A) → i + length a ≤ j → sets (sets l i a) j b ≡ sets (sets l j b) i a
  sets_comm l i [] j b h = refl
  sets_comm l i (x ∷ a) j b h =
      sets_comm (set l i x) (suc i) a j b (omega arith) ∙ ap (λ (m : List A). sets m (suc i) a) (set-sets l i x j b (omega arith))

  -- a later write of the same place or more covers an earlier one
  pub sets_over : (l : List A) (i : ℕ) (a b : List A) → length a ≤ length b → sets (sets l i a) i b ≡ sets l i b
  sets_over l i [] b h = refl
  sets_over l i (x ∷ a) [] h = absurd (omega arith)
  sets_over l i (x ∷ a) (y ∷ b) h =
      ap (λ (m : List A). sets m (suc i) b) (sym (set-sets (set l i x) i y (suc i) a (omega arith)) ∙ ap (λ (m : List A). sets m (suc i) a) (set-set l i x y))
      ∙ sets_over (set l i y) (suc i) a b (omega arith)

  -- a write in two pieces
  pub sets-append : (l : List A) (i : ℕ) (a b : List A) → sets l i (a ++ b) ≡ sets (sets l i a) (i + length a) b
  sets-append l i [] b = ap (λ (k : ℕ). sets l k b) (sym (add-zero i))
  sets-append l i (x ∷ a) b = sets-append (set l i x) (suc i) a b ∙ ap (λ (k : ℕ). sets (sets (set l i x) (suc i) a) k b) (suc-add i (length a) ∙ sym (add-suc i (length a)))

  -- what is written right after what stands in front
  pub sets-front : (l xs ys : List A) (k : ℕ) → length xs ≡ k → sets (sets l 0 xs) k ys ≡ sets l 0 (xs ++ ys)
  sets-front l xs ys k h = rw (sets-append, zero-add, h)

  -- all up to the end of what is written
  pub take-sets : (l : List A) (i : ℕ) (vs : List A) → i + length vs ≤ length l → take (i + length vs) (sets l i vs) ≡ take i l ++ vs
  take-sets l i vs h =
      let front : length (take i l) ≡ i = length-take-le i l (omega arith) in
      rw (sets-eq vs l i h, take_at (take i l ++ vs) (drop (i + length vs) l) (i + length vs) (rw (length-append, front)))

  -- one element more: what a turn of a loop that stores does
  pub sets_snoc : (l : List A) (i : ℕ) (vs : List A) (n : ℕ) (a : A) → length vs ≡ n → set (sets l i vs) (i + n) a ≡ sets l i (vs ++ (a ∷ []))
  sets_snoc l i vs n a h = ap (λ (k : ℕ). set (sets l i vs) (i + k) a) (sym h) ∙ sym (sets-append l i vs (a ∷ []))

  -- writing what is there changes nothing
  pub sets-part : (l : List A) (i n : ℕ) → i + n ≤ length l → sets l i (part i n l) ≡ l
  sets-part l i n h =
      let k : length (part i n l) ≡ n = length-part i n l h in
      rw (sets-eq (part i n l) l i (omega arith), k, ← drop-drop n i l, append_assoc, take-append-drop n (drop i l), take-append-drop i l)

  -- writing all of it
  pub sets_all : (l vs : List A) → length vs ≡ length l → sets l 0 vs ≡ vs
  sets_all l vs h =
      let past : length l ≤ 0 + length vs = omega arith in
      let none : drop (0 + length vs) l ≡ [] = drop_of_length-le l past in
      sets-eq vs l 0 (omega arith) ∙ ap (λ (t : List A). vs ++ t) none ∙ append-nil vs

  -- copies of one element that follow what was written over such copies are there already
  pub sets_follow : (n z : ℕ) (a : A) (xs : List A) → length xs + z ≤ n → sets (replicate n a) 0 xs ≡ sets (replicate n a) 0 (xs ++ replicate z a)
  sets_follow n z a xs h =
      let l = sets (replicate n a) 0 xs in
      let long : length l ≡ n = length-sets (replicate n a) 0 xs ∙ length-replicate n a in
      let there : part (length xs) z l ≡ replicate z a = part-sets-after (length xs) z (replicate n a) 0 xs (omega arith) ∙ part-replicate (length xs) z n a h in
      sym (sets-part l (length xs) z (omega arith)) ∙ rw (there, sets-front (replicate n a) xs (replicate z a) (length xs) refl)

  pub sets_over_copies : (n : ℕ) (a : A) (xs : List A) → length xs ≤ n → sets (replicate n a) 0 xs ≡ xs ++ replicate (n - length xs) a
  sets_over_copies n a xs h =
      let all : length (xs ++ replicate (n - length xs) a) ≡ length (replicate n a) = rw (length-append, length-replicate, length-replicate) (omega arith) in
      sets_follow n (n - length xs) a xs (omega arith) ∙ sets_all (replicate n a) (xs ++ replicate (n - length xs) a) all

  -- what the library's copy of a list over a place has left, and what a callee has left that was lent that place
  pub paste-sets : (l : List A) (i : ℕ) (vs : List A) (n : ℕ) → n ≤ length vs → i + n ≤ length l → paste l i vs n ≡ sets l i (take n vs)
  paste-sets l i vs n h k =
      let long : length (take n vs) ≡ n = length-take-le n vs h in
      rw (sets-eq (take n vs) l i (omega arith), long) refl

  pub put_mid-sets : (i n : ℕ) (l vs ws : List A) → vs ≡ ws → n ≡ length ws → i + length ws ≤ length l → put_mid i n l vs ≡ sets l i ws
  put_mid-sets i n l vs ws e h k =
      put_mid-paste i n l vs ws n e refl h ∙ paste-sets l i ws n (omega arith) (omega arith) ∙ ap (sets l i) (ap (λ (m : ℕ). take m ws) h ∙ take-length ws)

  sets-set : (l : List A) (i : ℕ) (a : List A) (j : ℕ) (x : A) → j < length a → sets l i (set a j x) ≡ set (sets l i a) (i + j) x
  sets-set l i [] j x h = absurd (omega arith)
  sets-set l i (y ∷ a) zero x h =
      ap (λ (m : List A). sets m (suc i) a) (sym (set-set l i y x))
      ∙ set-sets (set l i y) i x (suc i) a (omega arith)
      ∙ ap (λ (k : ℕ). set (sets (set l i y) (suc i) a) k x) (sym (add-zero i))
  sets-set l i (y ∷ a) (suc j) x h =
      sets-set (set l i y) (suc i) a j x (omega arith)
      ∙ ap (λ (k : ℕ). set (sets (set l i y) (suc i) a) k x) (suc-add i j ∙ sym (add-suc i j))

  -- a write of what was itself written into
  pub sets-sets : (l : List A) (i : ℕ) (a : List A) (j : ℕ) (b : List A) → j + length b ≤ length a → sets l i (sets a j b) ≡ sets (sets l i a) (i + j) b
  sets-sets l i a j [] h = refl
  sets-sets l i a j (x ∷ b) h =
      sets-sets l i (set a j x) (suc j) b (simp length-set (omega arith))
      ∙ ap (λ (m : List A). sets m (i + suc j) b) (sets-set l i a j x (omega arith))
      ∙ ap (λ (k : ℕ). sets (set (sets l i a) (i + j) x) k b) (add-suc i j)

  -- and the front
  pub sets_prefix : (l vs : List A) (n : ℕ) → length vs ≡ n → n ≤ length l → vs ++ drop n l ≡ sets l 0 vs
  sets_prefix l vs n e h = let k : n ≡ 0 + length vs = omega arith in ap (λ (m : ℕ). vs ++ drop m l) k ∙ sym (sets-eq vs l 0 (omega arith))

  -- a part of what was written there
  pub part-written : (l vs : List A) (at n : ℕ) → at + n ≤ length vs → length vs ≤ length l → part at n (sets l 0 vs) ≡ part at n vs
  part-written l vs at n h k =
      let there : part 0 (length vs) (sets l 0 vs) ≡ vs = part-sets_same l 0 vs (omega arith) in
      let same : 0 + at ≡ at = omega arith in
      ap (λ (m : ℕ). part m n (sets l 0 vs)) (sym same) ∙ sym (part-part at n 0 (length vs) (sets l 0 vs) h) ∙ ap (part at n) there

  -- a write into a part, said of the whole
  pub sets-within : (l : List A) (i n j : ℕ) (vs : List A) → i + n ≤ length l → j + length vs ≤ n → sets l i (sets (part i n l) j vs) ≡ sets l (i + j) vs
  sets-within l i n j vs h k =
      let e : length (part i n l) ≡ n = length-part i n l h in
      sets-sets l i (part i n l) j vs (omega arith) ∙ ap (λ (m : List A). sets m (i + j) vs) (sets-part l i n h)

  -- an element that is not written
  pub get_or-sets_before : (l : List A) (i : ℕ) (vs : List A) (j : ℕ) (d : A) → j < i → get_or (sets l i vs) j d ≡ get_or l j d
  get_or-sets_before l i [] j d h = refl
  get_or-sets_before l i (a ∷ vs) j d h = get_or-sets_before (set l i a) (suc i) vs j d (omega arith) ∙ get_or-set_other l i j a d (omega arith)

  pub get_or-sets_after : (l : List A) (i : ℕ) (vs : List A) (j : ℕ) (d : A) → i + length vs ≤ j → get_or (sets l i vs) j d ≡ get_or l j d
  get_or-sets_after l i [] j d h = refl
  get_or-sets_after l i (a ∷ vs) j d h = get_or-sets_after (set l i a) (suc i) vs j d (omega arith) ∙ get_or-set_other l i j a d (omega arith)

  -- one that lies in a place apart from the place that is being written
  pub get_or-sets_apart : (l : List A) (n from to : ℕ) (vs : List A) (i : ℕ) (d : A) → Apart n from to → i < n → length vs ≤ i → get_or (sets l to vs) (from + i) d ≡ get_or l (from + i) d
  get_or-sets_apart l n from to vs i d apart h k =
      elim (dec_le to from) [ yes below ↦ get_or-sets_after l to vs (from + i) d (omega arith) | no above ↦ get_or-sets_before l to vs (from + i) d (omega arith) ]

  -- places of n elements apart, in either order: a read inside the one and a write inside the other, and two writes
  pub part-sets_apart : (n from to : ℕ) (l : List A) (a m b : ℕ) (vs : List A) → Apart n from to
      → (from ≤ a) × (a + m ≤ from + n) → (to ≤ b) × (b + length vs ≤ to + n) → part a m (sets l b vs) ≡ part a m l
  part-sets_apart n from to l a m b vs apart reads writes =
      elim (dec_le to from) [ yes below ↦ part-sets-after a m l b vs (omega arith) | no above ↦ part-sets_before a m l b vs (omega arith) ]

  pub sets_apart : (n : ℕ) (l : List A) (i : ℕ) (a : List A) (j : ℕ) (b : List A) → length a ≡ n → length b ≡ n → Apart n i j → sets (sets l i a) j b ≡ sets (sets l j b) i a
  sets_apart n l i a j b e f apart =
      elim (dec_le j i) [ yes below ↦ sym (sets_comm l j b i a (omega arith)) | no above ↦ sets_comm l i a j b (omega arith) ]
