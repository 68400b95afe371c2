-- The card's bytes, from the front: salt, key, and a trailer that points back to them.
-- What an edition has of its own is a parameter, so that all else is said once for every edition.
use Rattle.std.specs.Prelude.{Bool, List, [], ◌∷◌, ◌++◌, ℕ, ◌+◌, ◌-◌, leb, length, get_or, drop}
use Rattle.lent.specs.Bytes.{pick, part, eqs}
use Rattle.lent.specs.Word.{le, of_le}

-- What an edition has of its own: its edition byte, how many bytes stand between that byte and the exponent, and its ending.
pub record Edition : Type 0 where
  pub byte : ℕ
  pub between : ℕ
  pub mark : List ℕ

-- edition 1: nothing stands between, and the card ends in "RTKC"
abbrev pub first : Edition
first = record { byte = 1; between = 0; mark = 0x52 ∷ 0x54 ∷ 0x4B ∷ 0x43 ∷ [] }

-- What a trailer says. A distance goes from the trailer's first byte back to the first byte of the salt or the key, so the key's is also its length.
pub record Trailer : Type 0 where
  pub salt_distance : ℕ
  pub key_distance : ℕ
  pub edition : ℕ
  pub between : List ℕ
  pub exponent : ℕ
  pub r : ℕ
  pub p : ℕ

-- the trailer's bytes: the distances, 2 bytes each, little-endian; the edition, and what stands between; exponent, r and p, a byte each; the ending
unfoldable pub trailer_bytes : Edition → Trailer → List ℕ
trailer_bytes E t =
    le 2 t.salt_distance ++ (le 2 t.key_distance ++ (t.edition ∷ (t.between ++ (t.exponent ∷ t.r ∷ t.p ∷ E.mark))))

-- how many they are: 12 in edition 1
abbrev pub trailer_length : Edition → ℕ
trailer_length E = 8 + E.between + length E.mark

-- what the trailer of an edition's card says: its distances, the key's being the key's length; what stands between; exponent, r and p
abbrev pub trailer_saying : Edition → List ℕ → ℕ → ℕ → ℕ → ℕ → ℕ → Trailer
trailer_saying E between salt key e r p =
    record { salt_distance = salt; key_distance = key; edition = E.byte; between = between; exponent = e; r = r; p = p }

-- the card: salt, key, and the trailer that points back to them
unfoldable pub card_bytes : Edition → List ℕ → List ℕ → List ℕ → ℕ → ℕ → ℕ → List ℕ
card_bytes E between salt key e r p = salt ++ key ++ trailer_bytes E (trailer_saying E between (length salt + length key) (length key) e r p)

-- ---- the same places, read

-- whether the last bytes are the ending
unfoldable pub ends_in : List ℕ → List ℕ → Bool
ends_in mark card = eqs (drop (length card - length mark) card) mark

-- what a trailer that begins at place `at` says
unfoldable pub trailer_in : Edition → ℕ → List ℕ → Trailer
trailer_in E at card =
    record {
      salt_distance = of_le (part at 2 card);
      key_distance = of_le (part (at + 2) 2 card);
      edition = get_or card (at + 4) 0;
      between = part (at + 5) E.between card;
      exponent = get_or card (at + (5 + E.between)) 0;
      r = get_or card (at + (6 + E.between)) 0;
      p = get_or card (at + (7 + E.between)) 0;
    }

-- the trailer at the end
abbrev pub trailer_of : Edition → List ℕ → Trailer
trailer_of E card = trailer_in E (length card - trailer_length E) card

-- how long the card at the end of these bytes says it is, and 0 where they hold no trailer
unfoldable pub claimed_of : List ℕ → ℕ
claimed_of bytes = pick (leb (trailer_length first) (length bytes)) ((trailer_of first bytes).salt_distance + trailer_length first) 0
