-- What a card means, and when it is refused: the table of 21 to 26, each given where it is the first that applies.
use Rattle.std.specs.Prelude.{Bool, ◌&&◌, List, [], ℕ, ◌+◌, ◌-◌, leb, eqb, length, take, is_ok}
use Rattle.std.proofs.lemmas.List.Edits.{sets}
use Rattle.lent.specs.Bytes.{pick, part}
use Rattle.cost.specs.Costs.{checked_exponent}
use Rattle.card.specs.Layout.{Edition, first, Trailer, trailer_length, card_bytes, ends_in, trailer_of}

-- ---- the tests of 24 and 25, which reader and writer share

abbrev pub from_to : ℕ → ℕ → ℕ → Bool
from_to low high x = leb low x && leb x high

-- a key of 16 to 64 bytes, a salt of 8 to 64
abbrev pub ok_lengths : ℕ → ℕ → Bool
ok_lengths salt key = from_to 16 64 key && from_to 8 64 salt

-- an exponent, r and p whose cost is not refused
unfoldable pub ok_costs : ℕ → ℕ → ℕ → Bool
ok_costs e r p = is_ok (checked_exponent (record { 0 = e }) r p)

-- ---- reading

-- What reading a card answers: the refusal's number, 0 for none, then exponent, r and p, and the lengths of salt and key, all 0 beside a refusal.
pub record Reading : Type 0 where
  pub refusal : ℕ
  pub exponent : ℕ
  pub r : ℕ
  pub p : ℕ
  pub salt : ℕ
  pub key : ℕ

abbrev pub refused : ℕ → Reading
refused number = record { refusal = number; exponent = 0; r = 0; p = 0; salt = 0; key = 0 }

abbrev pub accepted : ℕ → ℕ → ℕ → ℕ → ℕ → Reading
accepted salt key e r p = record { refusal = 0; exponent = e; r = r; p = p; salt = salt; key = key }

-- 24 for the lengths, 25 for the costs
unfoldable pub meant_of : ℕ → ℕ → ℕ → ℕ → ℕ → Reading
meant_of salt key e r p = pick (ok_lengths salt key) (pick (ok_costs e r p) (accepted salt key e r p) (refused 25)) (refused 24)

-- 23, and 24 and 25, for a card of n bytes with this trailer. A salt distance below the key distance leaves 0 for the salt's length, which 24 refuses.
unfoldable pub judged : Edition → ℕ → Trailer → Reading
judged E n t =
    pick (eqb t.edition E.byte)
    (pick (eqb (t.salt_distance + trailer_length E) n)
    (meant_of (t.salt_distance - t.key_distance) t.key_distance t.exponent t.r t.p)
    (refused 24))
    (refused 23)

abbrev pub read_as : Edition → List ℕ → Reading
read_as E card = judged E (length card) (trailer_of E card)

-- 21 for a card under 12 bytes, 22 for another ending
unfoldable pub read_of : List ℕ → Reading
read_of card = pick (leb (trailer_length first) (length card)) (pick (ends_in first.mark card) (read_as first card) (refused 22)) (refused 21)

-- the salt is the card's front, the key lies behind it; both are empty where the card is refused
unfoldable pub salt_of : List ℕ → List ℕ
salt_of card = take (read_of card).salt card

unfoldable pub key_of : List ℕ → List ℕ
key_of card = part (read_of card).salt (read_of card).key card

-- ---- writing

-- What writing a card answers: the refusal's number, 0 for none, the card's length, and the room.
pub record Writing : Type 0 where
  pub refusal : ℕ
  pub long : ℕ
  pub room : List ℕ

abbrev pub kept : ℕ → List ℕ → Writing
kept number room = record { refusal = number; long = 0; room = room }

-- the card over the front of the room, or 26 where it is longer than the room
abbrev pub placed : List ℕ → List ℕ → Writing
placed card room = pick (leb (length card) (length room)) (record { refusal = 0; long = length card; room = sets room 0 card }) (kept 26 room)

-- 24 and 25 as for a card that is read, then 26. Only the card's own bytes change, and none where it is refused.
unfoldable pub write_of : List ℕ → List ℕ → ℕ → ℕ → ℕ → List ℕ → Writing
write_of salt key e r p room =
    let numbers = (meant_of (length salt) (length key) e r p).refusal in
    pick (eqb numbers 0) (placed (card_bytes first [] salt key e r p) room) (kept numbers room)
