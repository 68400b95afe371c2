-- Words of 32 bits, and words in bytes.
-- The operations are those of FIPS 180-4 sections 2.2.2 and 3.2, which RFC 7914 section 3 shares; the byte orders are over the width.
use Rattle.std.specs.Prelude.{ℕ, zero, suc, ◌+◌, ◌-◌, ◌*◌, ◌/◌, ◌%◌, ◌^◌, List, [], ◌∷◌, ◌++◌, bit_or}

-- addition modulo 2^32
abbrev pub plus : ℕ → ℕ → ℕ
plus x y = (x + y) % 2 ^ 32

-- ROTL^n(x) = (x << n) ∨ (x >> 32 - n)
abbrev pub rotl : ℕ → ℕ → ℕ
rotl n x = bit_or (x * 2 ^ n % 2 ^ 32) (x / 2 ^ (32 - n))

-- ROTR^n(x) = (x >> n) ∨ (x << 32 - n)
abbrev pub rotr : ℕ → ℕ → ℕ
rotr n x = bit_or (x / 2 ^ n) (x * 2 ^ (32 - n) % 2 ^ 32)

-- x as n bytes, the lowest first
unfoldable pub le : ℕ → ℕ → List ℕ
le zero x = []
le (suc n) x = x % 256 ∷ le n (x / 256)

-- x as n bytes, the highest first
unfoldable pub be : ℕ → ℕ → List ℕ
be zero x = []
be (suc n) x = be n (x / 256) ++ (x % 256 ∷ [])

-- the number that bytes say, the lowest first
unfoldable pub of_le : List ℕ → ℕ
of_le [] = 0
of_le (b ∷ bs) = b + 256 * of_le bs

-- the number that bytes say after `high`, the highest first
unfoldable pub of_be_from : ℕ → List ℕ → ℕ
of_be_from high [] = high
of_be_from high (b ∷ bs) = of_be_from (256 * high + b) bs

-- the number that bytes say, the highest first
unfoldable pub of_be : List ℕ → ℕ
unfolding of_be_from
of_be bs = of_be_from 0 bs
