-- A trailer's numbers and its bytes say each other, over the edition.
-- Assumes nothing.
use mathlib.Core.Path.{◌≡◌, refl, sym, ap, ◌∙◌}
use mathlib.Core.List.{List, ◌∷◌, ◌++◌}
use Prim.Native.Nat.{ℕ, suc, ◌+◌, ◌^◌, ◌≤◌, ◌<◌}
use native.Mathlib.Omega.{arith}
use lib.ListN.{length, get_or, take, drop, length-append, take-append-drop}
use lib.Seq.{drop-append-add, drop-cons, drop-drop, get_or-drop, get_or-append-add, take-append_seam}
use Rattle.lent.specs.Bytes.{part, Bytes}
use Rattle.lent.specs.Word.{le, of_le}
use native.Mathlib.Nat.{zero-add}
use Rattle.lent.proofs.Parts.{length-part}
use Rattle.lent.proofs.Bounds.{below_part}
use Rattle.lent.proofs.Words.{of_le-le, le-of_le}
use Rattle.card.specs.Layout.{Edition, Trailer, trailer_bytes, trailer_length, trailer_in}

-- a trailer that an edition can write: what stands between has its count, and each distance fits its two bytes
pub record Sound (E : Edition) (t : Trailer) : Type 0 where
  pub own : length t.between ≡ E.between
  pub salt : t.salt_distance < 256 ^ 2
  pub key : t.key_distance < 256 ^ 2

pub trailer_ext : {a b c e f g : ℕ} {d : List ℕ} (t : Trailer) → a ≡ t.salt_distance → b ≡ t.key_distance → c ≡ t.edition → d ≡ t.between → e ≡ t.exponent → f ≡ t.r → g ≡ t.p
    → record { salt_distance = a; key_distance = b; edition = c; between = d; exponent = e; r = f; p = g } ≡ t
trailer_ext t ha hb hc hd he hf hg = rw (ha, hb, hc, hd, he, hf, hg)

module _ (E : Edition) where
  pub length_trailer : (t : Trailer) → length t.between ≡ E.between → length (trailer_bytes E t) ≡ trailer_length E
  unfolding trailer_bytes le
  length_trailer t h = simp length-append (omega arith)

  -- what was written is read
  pub trailer_read : (t : Trailer) → Sound E t → trailer_in E 0 (trailer_bytes E t) ≡ t
  unfolding trailer_in trailer_bytes le
  trailer_read t h =
      let n = length t.between in
      let rest = t.exponent ∷ t.r ∷ t.p ∷ E.mark in
      let tail = t.between ++ rest in
      let at : (k : ℕ) → get_or (trailer_bytes E t) (0 + (5 + k + E.between)) 0 ≡ get_or rest k 0 = λ k.
      let e : 0 + (5 + k + E.between) ≡ 5 + (n + k) = omega (arith, h.own) in
      ap (λ (i : ℕ). get_or (trailer_bytes E t) i 0) e ∙ sym (get_or-drop 5 (trailer_bytes E t) (n + k) 0) ∙ get_or-append-add t.between rest k 0 in
      trailer_ext t (of_le-le 2 t.salt_distance h.salt) (of_le-le 2 t.key_distance h.key) refl (ap (λ (k : ℕ). take k tail) (sym h.own) ∙ take-append_seam t.between rest) (at 0) (at 1) (at 2)

  -- what is read says the bytes that were read
  pub trailer_only : (l : List ℕ) → length l ≡ trailer_length E → drop (8 + E.between) l ≡ E.mark → Bytes l → trailer_bytes E (trailer_in E 0 l) ≡ l
  unfolding trailer_in trailer_bytes
  trailer_only l long ending bytes =
      let b = E.between in
      let two : (at : ℕ) → at + 2 ≤ length l → le 2 (of_le (part at 2 l)) ≡ part at 2 l = λ at h.
      ap (λ (n : ℕ). le n (of_le (part at 2 l))) (sym (length-part at 2 l h)) ∙ le-of_le (part at 2 l) (below_part 256 at 2 l bytes) in
      let one : (i : ℕ) → i < length l → get_or l i 0 ∷ drop (suc i) l ≡ drop i l = λ i h. sym (drop-cons l i 0 h) in
      let o5 : 0 + (5 + b) ≡ 5 + b = omega arith in
      let o6 : 0 + (6 + b) ≡ suc (5 + b) = omega arith in
      let o7 : 0 + (7 + b) ≡ suc (suc (5 + b)) = omega arith in
      let o8 : 8 + b ≡ suc (suc (suc (5 + b))) = omega arith in
      rw (two 0 (omega arith), two 2 (omega arith), ← ending, o5, o6, o7, o8, one (suc (suc (5 + b))) (omega arith), one (suc (5 + b)) (omega arith), one (5 + b) (omega arith), ← drop-drop b 5 l, take-append-drop b (drop 5 l), one 4 (omega arith), ← drop-drop 2 2 l, take-append-drop 2 (drop 2 l), take-append-drop 2 l)

  -- a trailer further on
  pub trailer_drop : (at : ℕ) (l : List ℕ) → trailer_in E at l ≡ trailer_in E 0 (drop at l)
  unfolding trailer_in
  trailer_drop at l =
      let zero_off : (k : ℕ) → get_or (drop at l) (0 + k) 0 ≡ get_or l (at + k) 0 = λ k. ap (λ (n : ℕ). get_or (drop at l) n 0) (zero-add k) ∙ get_or-drop at l k 0 in
      rw (zero_off 4, zero_off (5 + E.between), zero_off (6 + E.between), zero_off (7 + E.between), drop-drop 2 at l, drop-drop 5 at l)

  -- what stands after the numbers is the ending
  pub trailer_ending : (t : Trailer) → length t.between ≡ E.between → drop (8 + E.between) (trailer_bytes E t) ≡ E.mark
  unfolding trailer_bytes le
  trailer_ending t h =
      let n = length t.between in
      let e : 8 + E.between ≡ 5 + (n + 3) = omega (arith, h) in
      ap (λ (k : ℕ). drop k (trailer_bytes E t)) e
      ∙ sym (drop-drop (n + 3) 5 (trailer_bytes E t))
      ∙ drop-append-add t.between (t.exponent ∷ t.r ∷ t.p ∷ E.mark) 3
