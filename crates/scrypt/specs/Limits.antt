-- The limits on lengths, each in one place.
use Rattle.std.specs.Prelude.{ℕ}

abbrev pub longest_passphrase : ℕ
longest_passphrase = 1024

abbrev pub longest_salt : ℕ
longest_salt = 1024

abbrev pub longest_key : ℕ
longest_key = 256
