-- Cards one behind the other: the last says how long it is, and the part of that length reads as the trailer at the end says, whatever stands before it.
-- Assumes nothing.
use mathlib.Core.Path.{◌≡◌, sym, ap, ◌∙◌}
use mathlib.Core.List.{List, ◌++◌}
use Prim.Native.Nat.{ℕ, ◌+◌, ◌-◌, ◌≤◌, ◌<◌}
use native.Mathlib.Omega.{arith}
use lib.Dec.{eqb}
use lib.ListN.{length, take, drop, length-append, length-drop, take-append-drop}
use lib.Seq.{drop-append-add}
use borrow.Author.Tests.{le-leb, eq-eqb, ne_eqb}
use Rattle.lent.specs.Bytes.{pick}
use Rattle.card.specs.Layout.{first, trailer_length, ends_in, trailer_of, claimed_of}
use Rattle.card.specs.Refusals.{Reading, refused, meant_of, judged, read_of}
use Rattle.card.proofs.Cards.{trailer_behind}
use Rattle.card.proofs.Meanings.{accepted_means}

claimed_says : (bytes : List ℕ) → trailer_length first ≤ length bytes → claimed_of bytes ≡ (trailer_of first bytes).salt_distance + trailer_length first
unfolding claimed_of
claimed_says bytes h = rw (le-leb _ _ h)

-- an accepted card says how long it is, whatever it stands behind
pub claimed_is : (front card : List ℕ) → (read_of card).refusal ≡ 0 → claimed_of (front ++ card) ≡ length card
claimed_is front card h =
    let a = accepted_means card h in
    let long : trailer_length first ≤ length (front ++ card) = omega (arith, a.room, length-append front card) in
    claimed_says (front ++ card) long ∙ rw (trailer_behind first front card a.room) a.judged.long

ends_behind : (front card mark : List ℕ) → length mark ≤ length card → ends_in mark (front ++ card) ≡ ends_in mark card
unfolding ends_in
ends_behind front card mark h =
    let e : length (front ++ card) - length mark ≡ length front + (length card - length mark) = omega (arith, length-append front card) in
    rw (e, drop-append-add front card (length card - length mark))

-- what the last card of these bytes is refused for, if it lies within them: 22, 23, then 24 and 25 without 24's clause on the length
abbrev pub last_of : List ℕ → Reading → Reading
last_of bytes rest = pick (ends_in first.mark bytes) (pick (eqb (trailer_of first bytes).edition first.byte) rest (refused 23)) (refused 22)

-- it lies within them: the part that it claims reads so
pub claimed_reads : (bytes : List ℕ) → trailer_length first ≤ length bytes → claimed_of bytes ≤ length bytes
    → let t = trailer_of first bytes in
    read_of (drop (length bytes - claimed_of bytes) bytes) ≡ last_of bytes (meant_of (t.salt_distance - t.key_distance) t.key_distance t.exponent t.r t.p)
unfolding read_of judged
claimed_reads bytes room fits =
    let at = length bytes - claimed_of bytes in
    let front = take at bytes in
    let card = drop at bytes in
    let t = trailer_of first bytes in
    let says = claimed_says bytes room in
    let long : length card ≡ claimed_of bytes = omega (arith, length-drop at bytes) in
    let room' : trailer_length first ≤ length card = omega arith in
    let whole : front ++ card ≡ bytes = take-append-drop at bytes in
    let same : trailer_of first card ≡ t = sym (trailer_behind first front card room') ∙ ap (trailer_of first) whole in
    let ends : ends_in first.mark card ≡ ends_in first.mark bytes = sym (ends_behind front card first.mark (omega arith)) ∙ ap (ends_in first.mark) whole in
    rw (le-leb _ _ room', ends, same, eq-eqb _ _ (sym says ∙ sym long))

-- it reaches before the first byte: all of them read so, and 24 is given for that
pub claimed_past : (bytes : List ℕ) → trailer_length first ≤ length bytes → length bytes < claimed_of bytes → read_of bytes ≡ last_of bytes (refused 24)
unfolding read_of judged
claimed_past bytes room past =
    let says = claimed_says bytes room in
    rw (le-leb _ _ room, ne_eqb ((trailer_of first bytes).salt_distance + trailer_length first) (length bytes) (λ e. omega arith))
