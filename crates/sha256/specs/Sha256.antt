-- SHA-256 as FIPS 180-4 has it, in its order and letters. A message is a list of bytes, a word a number below 2^32.
-- `plus` is addition modulo 2^32 and `rotr n` ROTR^n of its section 3.2; `be` and `of_be` are its big-endian words in bytes (section 3.1).
use Rattle.std.specs.Prelude.{List, [], ◌∷◌, ◌++◌, ℕ, zero, suc, ◌-◌, ◌*◌, ◌/◌, ◌%◌, ◌^◌, ltb, length, get_or}
use Rattle.std.specs.Int.Bits.{bit_and, bit_xor}
use Rattle.lent.specs.Bytes.{pick, part, zeros, tab}
use Rattle.lent.specs.Word.{plus, rotr, be, of_be}

-- ---- 4.1.2 functions

abbrev pub Ch : ℕ → ℕ → ℕ → ℕ
Ch x y z = bit_xor (bit_and x y) (bit_and (2 ^ 32 - 1 - x) z)

abbrev pub Maj : ℕ → ℕ → ℕ → ℕ
Maj x y z = bit_xor (bit_xor (bit_and x y) (bit_and x z)) (bit_and y z)

abbrev pub Σ₀ : ℕ → ℕ
Σ₀ x = bit_xor (bit_xor (rotr 2 x) (rotr 13 x)) (rotr 22 x)

abbrev pub Σ₁ : ℕ → ℕ
Σ₁ x = bit_xor (bit_xor (rotr 6 x) (rotr 11 x)) (rotr 25 x)

abbrev pub σ₀ : ℕ → ℕ
σ₀ x = bit_xor (bit_xor (rotr 7 x) (rotr 18 x)) (x / 2 ^ 3)

abbrev pub σ₁ : ℕ → ℕ
σ₁ x = bit_xor (bit_xor (rotr 17 x) (rotr 19 x)) (x / 2 ^ 10)

-- ---- 4.2.2 constants

unfoldable pub K : List ℕ
K =
    0x428a2f98 ∷ 0x71374491 ∷ 0xb5c0fbcf ∷ 0xe9b5dba5 ∷ 0x3956c25b ∷ 0x59f111f1 ∷ 0x923f82a4 ∷ 0xab1c5ed5 ∷
    0xd807aa98 ∷ 0x12835b01 ∷ 0x243185be ∷ 0x550c7dc3 ∷ 0x72be5d74 ∷ 0x80deb1fe ∷ 0x9bdc06a7 ∷ 0xc19bf174 ∷
    0xe49b69c1 ∷ 0xefbe4786 ∷ 0x0fc19dc6 ∷ 0x240ca1cc ∷ 0x2de92c6f ∷ 0x4a7484aa ∷ 0x5cb0a9dc ∷ 0x76f988da ∷
    0x983e5152 ∷ 0xa831c66d ∷ 0xb00327c8 ∷ 0xbf597fc7 ∷ 0xc6e00bf3 ∷ 0xd5a79147 ∷ 0x06ca6351 ∷ 0x14292967 ∷
    0x27b70a85 ∷ 0x2e1b2138 ∷ 0x4d2c6dfc ∷ 0x53380d13 ∷ 0x650a7354 ∷ 0x766a0abb ∷ 0x81c2c92e ∷ 0x92722c85 ∷
    0xa2bfe8a1 ∷ 0xa81a664b ∷ 0xc24b8b70 ∷ 0xc76c51a3 ∷ 0xd192e819 ∷ 0xd6990624 ∷ 0xf40e3585 ∷ 0x106aa070 ∷
    0x19a4c116 ∷ 0x1e376c08 ∷ 0x2748774c ∷ 0x34b0bcb5 ∷ 0x391c0cb3 ∷ 0x4ed8aa4a ∷ 0x5b9cca4f ∷ 0x682e6ff3 ∷
    0x748f82ee ∷ 0x78a5636f ∷ 0x84c87814 ∷ 0x8cc70208 ∷ 0x90befffa ∷ 0xa4506ceb ∷ 0xbef9a3f7 ∷ 0xc67178f2 ∷ []

-- ---- 5.1.1 padding: what follows a message of n bytes. The bit 1, the fewest zero bits that fill the blocks, the length in bits as 8 bytes

unfoldable pub padding : ℕ → List ℕ
padding n = (128 ∷ zeros ((119 - n % 64) % 64)) ++ be 8 (8 * n)

-- ---- 5.2.1 parsing: word t of a block of 64 bytes, M_t

abbrev pub M : List ℕ → ℕ → ℕ
M b t = of_be (part (4 * t) 4 b)

-- ---- 5.3.3 the initial hash value, H(0)

unfoldable pub H₀ : List ℕ
H₀ = 0x6a09e667 ∷ 0xbb67ae85 ∷ 0x3c6ef372 ∷ 0xa54ff53a ∷ 0x510e527f ∷ 0x9b05688c ∷ 0x1f83d9ab ∷ 0x5be0cd19 ∷ []

-- ---- 6.2.2 hash computation

-- step 1: W_t for t of 16 and more, from the words before it
abbrev pub Wt : List ℕ → ℕ → ℕ
Wt W t = plus (plus (plus (σ₁ (get_or W (t - 2) 0)) (get_or W (t - 7) 0)) (σ₀ (get_or W (t - 15) 0))) (get_or W (t - 16) 0)

-- the message schedule of the block b as far as W_(t-1); all of it is `schedule b 64`
unfoldable pub schedule : List ℕ → ℕ → List ℕ
schedule b zero = []
schedule b (suc t) = schedule b t ++ (pick (ltb t 16) (M b t) (Wt (schedule b t) t) ∷ [])

-- step 3, one round: v holds the working variables a, b, c, d, e, f, g, h
unfoldable pub round : ℕ → ℕ → List ℕ → List ℕ
round k w v =
    let a = get_or v 0 0 in
    let b = get_or v 1 0 in
    let c = get_or v 2 0 in
    let d = get_or v 3 0 in
    let e = get_or v 4 0 in
    let f = get_or v 5 0 in
    let g = get_or v 6 0 in
    let h = get_or v 7 0 in
    let T₁ = plus (plus (plus (plus h (Σ₁ e)) (Ch e f g)) k) w in
    let T₂ = plus (Σ₀ a) (Maj a b c) in
    plus T₁ T₂ ∷ a ∷ b ∷ c ∷ plus d T₁ ∷ e ∷ f ∷ g ∷ []

-- the working variables after t rounds
unfoldable pub rounds : ℕ → List ℕ → List ℕ → List ℕ
rounds zero W v = v
rounds (suc t) W v = round (get_or K t 0) (get_or W t 0) (rounds t W v)

-- steps 1 to 4: the hash value after H, from the block b
unfoldable pub compress : List ℕ → List ℕ → List ℕ
compress H b = tab 8 (λ j. plus (get_or (rounds 64 (schedule b 64) H) j 0) (get_or H j 0))

-- the hash value after the first i blocks of s
unfoldable pub blocks : ℕ → List ℕ → List ℕ → List ℕ
blocks zero s H = H
blocks (suc i) s H = compress (blocks i s H) (part (64 * i) 64 s)

-- and after all of its whole blocks
unfoldable pub absorb : List ℕ → List ℕ → List ℕ
absorb H s = blocks (length s / 64) s H

-- the message digest: the words of a hash value, one after the other
unfoldable pub bytes : List ℕ → List ℕ
bytes [] = []
bytes (x ∷ xs) = be 4 x ++ bytes xs

-- What is left to do from the hash value H with the last bytes s of a message of n bytes; from H(0), with all of it, the hash.
unfoldable pub closed : List ℕ → List ℕ → ℕ → List ℕ
closed H s n = bytes (absorb H (s ++ padding n))

unfoldable pub sha256 : List ℕ → List ℕ
sha256 m = closed H₀ m (length m)
