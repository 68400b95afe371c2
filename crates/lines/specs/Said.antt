-- What is written to standard output of bytes.
use Rattle.std.specs.Prelude.{ℕ, Bool, ◌/◌, ◌%◌, false, List, [], ◌∷◌, ◌==◌, if◌then◌else◌, length, codes, flat_map}
use Rattle.std.specs.List.{list_all}
use Rattle.std.specs.Fmt.{digit_glyph}

-- a byte's two digits in lower hexadecimal, the higher first
unfoldable pub digit_pair : ℕ → List ℕ
digit_pair b = digit_glyph false (b / 16) ∷ digit_glyph false (b % 16) ∷ []

-- two digits a byte
abbrev pub hex : List ℕ → List ℕ
hex bytes = flat_map digit_pair bytes

-- a dash for no byte, and else two digits a byte
abbrev pub hex_text : List ℕ → List ℕ
hex_text bytes = if length bytes == 0 then codes "-" else hex bytes

-- whether every byte is b, as it is of no byte
abbrev pub full_of : ℕ → List ℕ → Bool
full_of b bytes = list_all (λ x. x == b) bytes

-- what became of a buffer that was full of a5: every byte is zero, each is kept, or else the bytes that it has now; the first holds of no byte too
abbrev pub left_text : List ℕ → List ℕ
left_text bytes =
    if full_of 0 bytes then codes "zero"
    else (if full_of 0xa5 bytes then codes "kept" else hex bytes)
