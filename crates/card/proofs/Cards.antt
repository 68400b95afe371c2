-- Reading and writing undo each other, over the edition: a card that is written reads as what was written, and a card that is accepted is the one that
-- writing what it says would make.
-- Assumes nothing.
use mathlib.Core.Path.{◌≡◌, refl, sym, ap, ◌∙◌}
use mathlib.Core.Bool.{true, false, and-false, and-eq-true_iff}
use mathlib.Core.List.{List, ◌++◌, append_assoc}
use Prim.Native.Nat.{ℕ, ◌+◌, ◌-◌, ◌≤◌, ◌<◌}
use native.Mathlib.Omega.{arith}
use lib.Dec.{leb, eqb, lit<}
use lib.ListN.{length, take, drop, length-append, length-drop, take-append-drop}
use lib.Seq.{drop_at, drop-drop, drop-append-add, drop-append_seam, take-append_seam, take-add, length-take-le}
use borrow.Author.Tests.{leb-true, eqb-true, eq-eqb}
use Rattle.lent.specs.Bytes.{part, Bytes, eqs}
use Rattle.lent.proofs.Parts.{length-part}
use Rattle.lent.proofs.Bounds.{below_drop}
use Rattle.lent.proofs.Picks.{pick-passed}
use Rattle.lent.proofs.Tabs.{eqs_refl, eqs_true}
use Rattle.card.specs.Layout.{Edition, Trailer, trailer_bytes, trailer_length, trailer_saying, card_bytes, ends_in, trailer_in, trailer_of}
use Rattle.card.specs.Refusals.{from_to, ok_lengths, ok_costs, Reading, refused, accepted, meant_of, judged, read_as}
use Rattle.card.proofs.Trailers.{length_trailer, trailer_read, trailer_only, trailer_drop, trailer_ext, trailer_ending}

-- ---- 24 and 25

pub from_to_means : (low high x : ℕ) → from_to low high x ≡ true → (low ≤ x) × (x ≤ high)
from_to_means low high x h = let both = (and-eq-true_iff (leb low x) (leb x high)).0 h in (leb-true low x both.0, leb-true x high both.1)

pub lengths_mean : (salt key : ℕ) → ok_lengths salt key ≡ true → (8 ≤ salt) × (salt ≤ 64) × (16 ≤ key) × (key ≤ 64)
lengths_mean salt key h =
    let both = (and-eq-true_iff (from_to 16 64 key) (from_to 8 64 salt)).0 h in
    let k = from_to_means 16 64 key both.0 in
    let s = from_to_means 8 64 salt both.1 in
    (s.0, s.1, k.0, k.1)

abbrev pub number : Reading → ℕ
number x = x.refusal

-- numbers that are accepted
pub record Meant (salt key e r p : ℕ) : Type 0 where
  pub lengths : ok_lengths salt key ≡ true
  pub costs : ok_costs e r p ≡ true

pub meant_good : {salt key e r p : ℕ} → Meant salt key e r p → meant_of salt key e r p ≡ accepted salt key e r p
unfolding meant_of
meant_good h = rw (h.lengths, h.costs)

pub meant_means : (salt key e r p : ℕ) → (meant_of salt key e r p).refusal ≡ 0 → Meant salt key e r p
unfolding meant_of
meant_means salt key e r p h =
    let lengths = pick-passed number (ok_lengths salt key) _ (refused 24) (lit< tt) h in
    let costs = pick-passed number (ok_costs e r p) _ (refused 25) (lit< tt) lengths.1 in
    record { lengths = lengths.0; costs = costs.0 }

pub lengths_none : (salt key : ℕ) → salt ≡ 0 → ok_lengths salt key ≡ false
lengths_none salt key h = rw h (and-false (from_to 16 64 key))

-- a salt that would begin inside the key
pub meant_none : (back key e r p : ℕ) → back < key → meant_of (back - key) key e r p ≡ refused 24
unfolding meant_of
meant_none back key e r p h = rw (lengths_none (back - key) key (omega arith))

-- ---- 23 to 25, by the trailer

pub record Judged (E : Edition) (n : ℕ) (t : Trailer) : Type 0 where
  pub edition : t.edition ≡ E.byte
  pub long : t.salt_distance + trailer_length E ≡ n
  pub meant : Meant (t.salt_distance - t.key_distance) t.key_distance t.exponent t.r t.p

pub judged_good : {E : Edition} {n : ℕ} {t : Trailer} → Judged E n t → judged E n t ≡ accepted (t.salt_distance - t.key_distance) t.key_distance t.exponent t.r t.p
unfolding judged
judged_good h = rw (eq-eqb _ _ h.edition, eq-eqb _ _ h.long) (meant_good h.meant)

pub judged_means : (E : Edition) (n : ℕ) (t : Trailer) → (judged E n t).refusal ≡ 0 → Judged E n t
unfolding judged
judged_means E n t h =
    let edition = pick-passed number (eqb t.edition E.byte) _ (refused 23) (lit< tt) h in
    let long = pick-passed number (eqb (t.salt_distance + trailer_length E) n) _ (refused 24) (lit< tt) edition.1 in
    record { edition = eqb-true _ _ edition.0; long = eqb-true _ _ long.0; meant = meant_means _ _ _ _ _ long.1 }

-- ---- what stands at the end

-- the last n bytes
drop-end : (front tail : List ℕ) (n : ℕ) → length tail ≡ n → drop (length (front ++ tail) - n) (front ++ tail) ≡ tail
drop-end front tail n h =
    let e : length front ≡ length (front ++ tail) - n = omega (arith, length-append front tail) in
    drop_at front tail _ e

module _ (E : Edition) where
  -- the ending of a card is its trailer's
  ending_at : (card : List ℕ) (at : ℕ) → at + trailer_length E ≡ length card → drop (length card - length E.mark) card ≡ drop (8 + E.between) (drop at card)
  ending_at card at h =
      let e : length card - length E.mark ≡ at + (8 + E.between) = omega arith in
      ap (λ (k : ℕ). drop k card) e ∙ sym (drop-drop (8 + E.between) at card)

  -- what stands before a card is not looked at for its trailer
  pub trailer_behind : (front card : List ℕ) → trailer_length E ≤ length card → trailer_of E (front ++ card) ≡ trailer_of E card
  trailer_behind front card h =
      let k = length card - trailer_length E in
      let e : length (front ++ card) - trailer_length E ≡ length front + k = omega (arith, length-append front card) in
      ap (λ (at : ℕ). trailer_in E at (front ++ card)) e
      ∙ trailer_drop E (length front + k) (front ++ card)
      ∙ ap (trailer_in E 0) (drop-append-add front card k)
      ∙ sym (trailer_drop E k card)

  -- ---- a card that is written

  module _ (between salt key : List ℕ) (e r p : ℕ) (own : length between ≡ E.between) where
    pub length-card : length (card_bytes E between salt key e r p) ≡ length salt + length key + trailer_length E
    unfolding card_bytes
    length-card = simp (length-append, length_trailer E (trailer_saying E between (length salt + length key) (length key) e r p) own)

    written_trailer : drop (length (card_bytes E between salt key e r p) - trailer_length E) (card_bytes E between salt key e r p) ≡ trailer_bytes E (trailer_saying E between (length salt + length key) (length key) e r p)
    unfolding card_bytes
    written_trailer = let t = trailer_saying E between (length salt + length key) (length key) e r p in drop-end (salt ++ key) (trailer_bytes E t) (trailer_length E) (length_trailer E t own)

    -- it ends as its edition's cards do
    pub written_ends : ends_in E.mark (card_bytes E between salt key e r p) ≡ true
    unfolding ends_in
    written_ends =
        let card = card_bytes E between salt key e r p in
        let at : (length card - trailer_length E) + trailer_length E ≡ length card = omega (arith, length-card) in
        ap (λ (l : List ℕ). eqs l E.mark) (ending_at card _ at ∙ ap (drop (8 + E.between)) written_trailer ∙ trailer_ending E (trailer_saying E between (length salt + length key) (length key) e r p) own)
        ∙ eqs_refl E.mark

    -- and reads as what was written
    pub written_reads : Meant (length salt) (length key) e r p → read_as E (card_bytes E between salt key e r p) ≡ accepted (length salt) (length key) e r p
    written_reads h =
        let card = card_bytes E between salt key e r p in
        let t = trailer_saying E between (length salt + length key) (length key) e r p in
        let small = lengths_mean (length salt) (length key) h.lengths in
        let is : trailer_of E card ≡ t =
        trailer_drop E (length card - trailer_length E) card ∙ ap (trailer_in E 0) written_trailer ∙ trailer_read E t (record { own = own; salt = omega arith; key = omega arith }) in
        let back : length salt + length key - length key ≡ length salt = omega arith in
        rw (is, length-card) (judged_good (record { edition = refl; long = refl; meant = rw back h }) ∙ rw back)

    pub written-salt : take (length salt) (card_bytes E between salt key e r p) ≡ salt
    unfolding card_bytes
    written-salt = rw append_assoc (take-append_seam salt (key ++ trailer_bytes E (trailer_saying E between (length salt + length key) (length key) e r p)))

    pub written-key : part (length salt) (length key) (card_bytes E between salt key e r p) ≡ key
    unfolding card_bytes
    written-key =
        let tail = trailer_bytes E (trailer_saying E between (length salt + length key) (length key) e r p) in
        rw (append_assoc, drop-append_seam salt (key ++ tail), take-append_seam key tail)

  -- ---- a card that is accepted

  -- it is the one that writing what it says would make
  pub accepted_only : (card : List ℕ) → trailer_length E ≤ length card → ends_in E.mark card ≡ true → Bytes card → Judged E (length card) (trailer_of E card)
      → let t = trailer_of E card in card ≡ card_bytes E t.between (take (t.salt_distance - t.key_distance) card) (part (t.salt_distance - t.key_distance) t.key_distance card) t.exponent t.r t.p
  unfolding card_bytes ends_in
  accepted_only card room ends bytes h =
      let t = trailer_of E card in
      let at = length card - trailer_length E in
      let k = t.key_distance in
      let s = t.salt_distance - k in
      let some = lengths_mean s k h.meant.lengths in
      let whole : at + trailer_length E ≡ length card = omega arith in
      let both : at ≡ s + k = omega (arith, h.long) in
      let ending : drop (8 + E.between) (drop at card) ≡ E.mark = sym (ending_at card at whole) ∙ eqs_true _ _ ends in
      let tail : trailer_bytes E t ≡ drop at card =
      ap (trailer_bytes E) (trailer_drop E at card) ∙ trailer_only E (drop at card) (simp length-drop (omega arith)) ending (below_drop 256 at card bytes) in
      let salt_long : length (take s card) ≡ s = length-take-le s card (omega arith) in
      let key_long : length (part s k card) ≡ k = length-part s k card (omega arith) in
      let same : trailer_saying E t.between (length (take s card) + length (part s k card)) (length (part s k card)) t.exponent t.r t.p ≡ t = trailer_ext t (omega (arith, h.long)) key_long (sym h.edition) refl refl refl refl in
      rw (same, tail, ← take-add s k card, ← both, take-append-drop at card)
