-- The paper's whole card, both ways, by computation.
-- Assumes nothing.
use mathlib.Core.Path.{◌≡◌, refl}
use mathlib.Core.List.{List, [], ◌∷◌, ◌++◌}
use Prim.Native.Nat.{ℕ}
use Rattle.lent.specs.Bytes.{eqs}
use Rattle.lent.specs.Word.{le, of_le}
use Rattle.cost.specs.Limits.{is_power, ok_power}
use Rattle.cost.specs.Costs.{checked, power_of, checked_exponent}
use Rattle.card.specs.Layout.{first, trailer_bytes, card_bytes, ends_in, trailer_in}
use Rattle.card.specs.Refusals.{ok_costs, accepted, meant_of, judged, read_of, salt_of, key_of}

abbrev salt : List ℕ
salt = 0x01 ∷ 0x02 ∷ 0x03 ∷ 0x04 ∷ 0x05 ∷ 0x06 ∷ 0x07 ∷ 0x08 ∷ []

abbrev key : List ℕ
key = 0x10 ∷ 0x11 ∷ 0x12 ∷ 0x13 ∷ 0x14 ∷ 0x15 ∷ 0x16 ∷ 0x17 ∷ 0x18 ∷ 0x19 ∷ 0x1A ∷ 0x1B ∷ 0x1C ∷ 0x1D ∷ 0x1E ∷ 0x1F ∷ []

-- N = 16, r = 1, p = 1
abbrev card : List ℕ
card = salt ++ key ++ (0x18 ∷ 0x00 ∷ 0x10 ∷ 0x00 ∷ 0x01 ∷ 0x04 ∷ 0x01 ∷ 0x01 ∷ 0x52 ∷ 0x54 ∷ 0x4B ∷ 0x43 ∷ [])

writes : card_bytes first [] salt key 4 1 1 ≡ card
unfolding card_bytes trailer_bytes le
writes = refl

reads : (read_of card ≡ accepted 8 16 4 1 1) × (salt_of card ≡ salt) × (key_of card ≡ key)
unfolding read_of judged meant_of ends_in trailer_in of_le eqs ok_costs checked_exponent power_of checked ok_power is_power salt_of key_of
reads = (refl, refl, refl)
