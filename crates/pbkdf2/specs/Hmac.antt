-- HMAC with SHA-256, RFC 2104 section 2: H is SHA-256, its blocks have B = 64 bytes and its digests L = 32.
use Rattle.std.specs.Prelude.{List, ◌++◌, ℕ, ◌-◌, leb, length, replicate}
use Rattle.lent.specs.Bytes.{pick, zeros, xors}
use Rattle.sha256.specs.Sha256.{sha256}

-- the bytes that ipad and opad repeat B times
abbrev pub ipad : ℕ
ipad = 0x36

abbrev pub opad : ℕ
opad = 0x5c

-- a key longer than B bytes is hashed first
unfoldable pub shortened : List ℕ → List ℕ
shortened K = pick (leb (length K) 64) K (sha256 K)

-- step 1: zeros make a B byte string of it
unfoldable pub block : List ℕ → List ℕ
block K = shortened K ++ zeros (64 - length (shortened K))

-- K XOR ipad, K XOR opad
unfoldable pub masked : List ℕ → ℕ → List ℕ
masked K pad = xors K (replicate 64 pad)

-- H(K XOR opad, H(K XOR ipad, text))
unfoldable pub hmac : List ℕ → List ℕ → List ℕ
hmac K text = sha256 (masked (block K) opad ++ sha256 (masked (block K) ipad ++ text))
