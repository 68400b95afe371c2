-- scryptBlockMix: RFC 7914 section 4, in its letters. B is 2 * r pieces of 64 bytes, B[0] .. B[2 * r - 1].
use Rattle.std.specs.Prelude.{List, ◌++◌, ℕ, zero, suc, ◌+◌, ◌-◌, ◌*◌}
use Rattle.lent.specs.Bytes.{part, xors, joined}
use Rattle.salsa.specs.Salsa.{salsa_bytes}

-- B[i]
unfoldable pub piece : ℕ → List ℕ → List ℕ
piece i B = part (64 * i) 64 B

-- X before turn i. Step 1: X = B[2 * r - 1]. Step 2: T = X xor B[i], X = Salsa (T)
unfoldable pub X : ℕ → List ℕ → ℕ → List ℕ
X r B zero = piece (2 * r - 1) B
X r B (suc i) = salsa_bytes 8 (xors (X r B i) (piece i B))

-- Step 2: Y[i] = X, after the turn
unfoldable pub Y : ℕ → List ℕ → ℕ → List ℕ
Y r B i = X r B (suc i)

-- Step 3: B' = (Y[0], Y[2], .. Y[2 * r - 2], Y[1], Y[3], .. Y[2 * r - 1])
unfoldable pub block_mix : ℕ → List ℕ → List ℕ
block_mix r B = joined r (λ i. Y r B (2 * i)) ++ joined r (λ i. Y r B (2 * i + 1))
