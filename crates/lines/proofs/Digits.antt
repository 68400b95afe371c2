-- What the formatter writes of a byte.
use Rattle.std.proofs.Common.{◌≡◌, ℕ, ◌<◌, ◌-◌, ◌^◌, false, []}
use Rattle.std.proofs.lemmas.Fmt.{hex_byte}
use Rattle.std.specs.Fmt.{digits, format_spec, padded_integral}
use Rattle.lines.specs.Said.{digit_pair}

-- `{b:02x}` writes its two digits
pub written : (b : ℕ) → b < 256 → padded_integral (format_spec 32 0 4 2 (2 ^ 64 - 1)) false [] (digits 16 false b) ≡ digit_pair b
unfolding digit_pair
written b small = hex_byte false b small
