-- scrypt, RFC 7914 section 6, in its letters: P the passphrase, S the salt, and the mixings that it takes with one block in k stored.
use Rattle.std.specs.Prelude.{List, ℕ, ◌*◌}
use Rattle.lent.specs.Bytes.{part, joined}
use Rattle.pbkdf2.specs.Pbkdf2.{pbkdf2}
use Rattle.romix.specs.ROMix.{ro_mix, sum, mixings}

-- step 1: B[0] || B[1] || .. || B[p - 1] = PBKDF2-HMAC-SHA256 (P, S, 1, p * 128 * r)
unfoldable pub lanes : List ℕ → List ℕ → ℕ → ℕ → List ℕ
lanes P S r p = pbkdf2 P S (p * (128 * r))

-- B[i]
unfoldable pub lane : List ℕ → List ℕ → ℕ → ℕ → ℕ → List ℕ
unfolding lanes
lane P S r p i = part (i * (128 * r)) (128 * r) (lanes P S r p)

-- step 2: B[i] = scryptROMix (r, B[i], N)
unfoldable pub mixed_lanes : List ℕ → List ℕ → ℕ → ℕ → ℕ → List ℕ
unfolding lane
mixed_lanes P S N r p = joined p (λ i. ro_mix r N (lane P S r p i))

-- step 3: DK = PBKDF2-HMAC-SHA256 (P, B[0] || B[1] || .. || B[p - 1], 1, dkLen)
unfoldable pub scrypt : List ℕ → List ℕ → ℕ → ℕ → ℕ → ℕ → List ℕ
unfolding mixed_lanes
scrypt P S N r p dkLen = pbkdf2 P (mixed_lanes P S N r p) dkLen

-- the sum over the lanes of 2N plus j mod k at the places j that section 5 names
unfoldable pub all_mixings : ℕ → List ℕ → List ℕ → ℕ → ℕ → ℕ → ℕ
unfolding lane
all_mixings k P S N r p = sum p (λ i. mixings k r N (lane P S r p i))
