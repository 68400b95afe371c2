-- Cards of edition 1: what is written reads back, and what is accepted is the only card with its meaning.
-- Each is the law over the edition, at the first.
-- Assumes nothing.
use mathlib.Core.Path.{◌≡◌, refl, sym, ap, ◌∙◌}
use mathlib.Core.Logic.{◌↔◌}
use mathlib.Core.Bool.{Bool, true, false}
use mathlib.Core.List.{List, [], ◌++◌}
use Prim.Native.Nat.{ℕ, ◌+◌, ◌-◌, ◌≤◌, ◌<◌}
use native.Mathlib.Decide.{dec_le}
use native.Mathlib.Omega.{arith}
use lib.Dec.{leb, eqb, lit<}
use lib.ListN.{length, take, drop}
use lib.Seq.{sets, length-take-le}
use borrow.Author.Tests.{leb-true, le-leb, lt-leb, eqb-true, eqb-false}
use Rattle.lent.specs.Bytes.{pick, Bytes}
use Rattle.lent.proofs.Picks.{pick-passed}
use Rattle.lent.proofs.Parts.{length-part, part-sets_same}
use Rattle.card.specs.Layout.{Edition, first, Trailer, trailer_length, trailer_bytes, trailer_saying, card_bytes, ends_in, trailer_in, trailer_of}
use Rattle.card.specs.Refusals.{ok_lengths, ok_costs, Reading, refused, accepted, meant_of, judged, read_as, read_of, salt_of, key_of, Writing, kept, placed, write_of}
use Rattle.card.specs.declared.Reason.{Reason}
use Rattle.card.specs.Paper.{reason_no}
use Rattle.card.proofs.Answers.{number_not_zero}
use Rattle.card.proofs.Trailers.{trailer_drop}
use Rattle.card.proofs.Cards.{number, Meant, meant_good, meant_means, Judged, judged_good, judged_means, lengths_mean, length-card, written_ends, written_reads, written-salt, written-key, accepted_only}

-- ---- what is accepted

-- an accepted card has a trailer, with the ending and the numbers that the table asks for
pub record Accepted (card : List ℕ) : Type 0 where
  pub room : trailer_length first ≤ length card
  pub ends : ends_in first.mark card ≡ true
  pub judged : Judged first (length card) (trailer_of first card)

read_as_lem : {card : List ℕ} → Accepted card → read_of card ≡ read_as first card
unfolding read_of
read_as_lem h = rw (le-leb _ _ h.room, h.ends)

-- a card that has its ending says what its last bytes say
pub read_marked : (card : List ℕ) → trailer_length first ≤ length card → ends_in first.mark card ≡ true → read_of card ≡ judged first (length card) (trailer_in first 0 (drop (length card - trailer_length first) card))
unfolding read_of
read_marked card room ends = rw (le-leb _ _ room, ends, trailer_drop first (length card - trailer_length first) card)

pub accepted_means : (card : List ℕ) → (read_of card).refusal ≡ 0 → Accepted card
unfolding read_of
accepted_means card h =
    let room = pick-passed number (leb (trailer_length first) (length card)) _ (refused 21) (lit< tt) h in
    let ends = pick-passed number (ends_in first.mark card) _ (refused 22) (lit< tt) room.1 in
    record { room = leb-true _ _ room.0; ends = ends.0; judged = judged_means first (length card) (trailer_of first card) ends.1 }

-- the numbers read are those that its trailer says
pub accepted_is : {card : List ℕ} → Accepted card
    → let t = trailer_of first card in read_of card ≡ accepted (t.salt_distance - t.key_distance) t.key_distance t.exponent t.r t.p
accepted_is h = read_as_lem h ∙ judged_good h.judged

pub accepted_meant : (card : List ℕ) → (read_of card).refusal ≡ 0 → let x = read_of card in Meant x.salt x.key x.exponent x.r x.p
accepted_meant card h = let a = accepted_means card h in rw (accepted_is a) a.judged.meant

pub accepted_long : (card : List ℕ) → (read_of card).refusal ≡ 0 → (read_of card).salt + (read_of card).key + trailer_length first ≡ length card
accepted_long card h =
    let a = accepted_means card h in
    let t = trailer_of first card in
    let some = lengths_mean (t.salt_distance - t.key_distance) t.key_distance a.judged.meant.lengths in
    rw (accepted_is a) (omega (arith, a.judged.long))

-- ---- what is refused

-- beside a refusal every number is 0
abbrev Bare : Reading → Type 0
Bare x = (x.refusal ≡ 0 → ⊥) → x ≡ refused x.refusal

bare_row : (b : Bool) (x : Reading) (n : ℕ) → Bare x → Bare (pick b x (refused n))
bare_row true x n h = h
bare_row false x n h = λ k. refl

bare_judged : (E : Edition) (n : ℕ) (t : Trailer) → Bare (judged E n t)
unfolding judged meant_of
bare_judged E n t =
    bare_row (eqb t.edition E.byte) _ 23
    (bare_row (eqb (t.salt_distance + trailer_length E) n) _ 24
    (bare_row (ok_lengths (t.salt_distance - t.key_distance) t.key_distance) _ 24
    (bare_row (ok_costs t.exponent t.r t.p) _ 25 (λ k. absurd (k refl)))))

pub refused_bare : (card : List ℕ) → ((read_of card).refusal ≡ 0 → ⊥) → read_of card ≡ refused (read_of card).refusal
unfolding read_of
refused_bare card =
    bare_row (leb (trailer_length first) (length card)) _ 21 (bare_row (ends_in first.mark card) _ 22 (bare_judged first (length card) (trailer_of first card)))

-- and both parts are empty
pub refused_empty : (card : List ℕ) → ((read_of card).refusal ≡ 0 → ⊥) → (salt_of card ≡ []) × (key_of card ≡ [])
unfolding salt_of key_of
refused_empty card h = rw (refused_bare card h) (refl, refl)

-- so both parts lie within the card, refused or not
pub within : (card : List ℕ) → (read_of card).salt + (read_of card).key ≤ length card
within card =
    elim (dec_le (read_of card).refusal 0) [
      | yes good ↦ (let zero : (read_of card).refusal ≡ 0 = omega arith in omega (arith, accepted_long card zero))
      | no bad ↦ rw (refused_bare card (λ z. bad (omega arith))) (omega arith)
    ]

-- what bounds them
pub ruleset bounds = (within, length-take-le)

pub length-salt : (card : List ℕ) → length (salt_of card) ≡ (read_of card).salt
unfolding salt_of
length-salt card = length-take-le (read_of card).salt card (omega (arith, within card))

pub length-key : (card : List ℕ) → length (key_of card) ≡ (read_of card).key
unfolding key_of
length-key card = length-part (read_of card).salt (read_of card).key card (within card)

-- ---- what is written reads back

module _ (salt key : List ℕ) (e r p : ℕ) (h : Meant (length salt) (length key) e r p) where
  pub read_written : read_of (card_bytes first [] salt key e r p) ≡ accepted (length salt) (length key) e r p
  unfolding read_of
  read_written =
      let long = length-card first [] salt key e r p refl in
      let room : trailer_length first ≤ length (card_bytes first [] salt key e r p) = omega arith in
      rw (le-leb _ _ room, written_ends first [] salt key e r p refl) (written_reads first [] salt key e r p refl h)

  pub salt-written : salt_of (card_bytes first [] salt key e r p) ≡ salt
  unfolding salt_of
  salt-written = rw read_written (written-salt first [] salt key e r p refl)

  pub key-written : key_of (card_bytes first [] salt key e r p) ≡ key
  unfolding key_of
  key-written = rw read_written (written-key first [] salt key e r p refl)

-- ---- each card that is accepted is the only one with its meaning

pub only_card : (card : List ℕ) → Bytes card → (read_of card).refusal ≡ 0
    → let x = read_of card in card ≡ card_bytes first [] (salt_of card) (key_of card) x.exponent x.r x.p
unfolding salt_of key_of trailer_in
only_card card bytes h =
    let a = accepted_means card h in
    rw (accepted_is a) (accepted_only first card a.room a.ends bytes a.judged)

abbrev pub SameMeaning : List ℕ → List ℕ → Type 0
SameMeaning a b = (read_of a ≡ read_of b) × (salt_of a ≡ salt_of b) × (key_of a ≡ key_of b)

-- equal meaning and equal bytes go together
pub same_card : (a b : List ℕ) → Bytes a → Bytes b → (read_of a).refusal ≡ 0 → SameMeaning a b ↔ (a ≡ b)
same_card a b bytes_a bytes_b good = (
  λ same.
      let good_b : (read_of b).refusal ≡ 0 = ap number (sym same.0) ∙ good in
      only_card a bytes_a good ∙ rw (same.0, same.1, same.2) (sym (only_card b bytes_b good_b)),
  λ e. (ap read_of e, ap salt_of e, ap key_of e),
)

-- ---- the writer

-- a card that is written: its numbers pass, and it fits the room
pub record Placed (salt key : List ℕ) (e r p : ℕ) (room : List ℕ) : Type 0 where
  pub meant : Meant (length salt) (length key) e r p
  pub fits : length (card_bytes first [] salt key e r p) ≤ length room

abbrev pub wrote : List ℕ → List ℕ → Writing
wrote card room = record { refusal = 0; long = length card; room = sets room 0 card }

pub write_good : {salt key : List ℕ} {e r p : ℕ} {room : List ℕ} → Placed salt key e r p room → write_of salt key e r p room ≡ wrote (card_bytes first [] salt key e r p) room
unfolding write_of
write_good h = rw (meant_good h.meant, le-leb _ _ h.fits)

pub write_means : (salt key : List ℕ) (e r p : ℕ) (room : List ℕ) → (write_of salt key e r p room).refusal ≡ 0 → Placed salt key e r p room
unfolding write_of
write_means salt key e r p room h =
    let card = card_bytes first [] salt key e r p in
    let given : Writing → ℕ = λ x. x.refusal in
    let numbers = (meant_of (length salt) (length key) e r p).refusal in
    let passed = go numbers (eqb numbers 0) refl h in
    let fits = pick-passed given (leb (length card) (length room)) (wrote card room) (kept 26 room) (lit< tt) passed.1 in
    record { meant = meant_means _ _ _ _ _ passed.0; fits = leb-true _ _ fits.0 }
  where
    go : (n : ℕ) (b : Bool) → eqb n 0 ≡ b → (pick b (placed (card_bytes first [] salt key e r p) room) (kept n room)).refusal ≡ 0
        → (n ≡ 0) × ((placed (card_bytes first [] salt key e r p) room).refusal ≡ 0)
    go n true zero k = (eqb-true n 0 zero, k)
    go n false other k = absurd (eqb-false n 0 other k)

-- the three ways out of `card::write`: the numbers do not pass, the room is too short, or the card is laid over its front
pub write_refused : (salt key : List ℕ) (e r p : ℕ) (room : List ℕ) (why : Reason) → refused (reason_no why) ≡ meant_of (length salt) (length key) e r p
    → write_of salt key e r p room ≡ kept (reason_no why) room
unfolding write_of
write_refused salt key e r p room why h = rw (← h) (number_not_zero why _ _)

module _ (salt key : List ℕ) (e r p : ℕ) (room : List ℕ) (passed : (meant_of (length salt) (length key) e r p).refusal ≡ 0) where
  pub write_short : length room < length salt + length key + trailer_length first → write_of salt key e r p room ≡ kept 26 room
  unfolding write_of
  write_short h = rw (passed, length-card first [] salt key e r p refl, lt-leb _ _ h)

  pub write_laid : length salt + length key + trailer_length first ≤ length room
      → write_of salt key e r p room ≡ record { refusal = 0; long = length salt + length key + trailer_length first; room = sets room 0 (salt ++ key ++ trailer_bytes first (trailer_saying first [] (length salt + length key) (length key) e r p)) }
  unfolding write_of card_bytes
  write_laid h = rw (passed, length-card first [] salt key e r p refl, le-leb _ _ h)

-- what is written reads back: the front of the room, as long as was answered, is a card that says what was given
pub write_reads : (salt key : List ℕ) (e r p : ℕ) (room : List ℕ) → let w = write_of salt key e r p room in w.refusal ≡ 0
    → let card = take w.long w.room in (read_of card ≡ accepted (length salt) (length key) e r p) × (salt_of card ≡ salt) × (key_of card ≡ key)
write_reads salt key e r p room h =
    let placed = write_means salt key e r p room h in
    let card = card_bytes first [] salt key e r p in
    let front : take (length card) (sets room 0 card) ≡ card = part-sets_same room 0 card (omega (arith, placed.fits)) in
    rw (write_good placed, front) (
      read_written salt key e r p placed.meant,
      salt-written salt key e r p placed.meant,
      key-written salt key e r p placed.meant,
    )

-- and what is read writes the same bytes again
pub read_writes : (card : List ℕ) (room : List ℕ) → Bytes card → (read_of card).refusal ≡ 0 → length card ≤ length room
    → let x = read_of card in write_of (salt_of card) (key_of card) x.exponent x.r x.p room ≡ wrote card room
read_writes card room bytes h fits =
    let x = read_of card in
    let is = only_card card bytes h in
    let meant : Meant (length (salt_of card)) (length (key_of card)) x.exponent x.r x.p = rw (length-salt card, length-key card) (accepted_meant card h) in
    write_good (record { meant = meant; fits = rw (← is) fits }) ∙ rw (← is)
