-- The Salsa20 core, over the number of rounds: RFC 7914 section 3, and sections 3 to 8 of the public Salsa20 specification.
-- A block is sixteen 32-bit words, x[0] .. x[15], as a list.
use Rattle.std.specs.Prelude.{List, [], ◌∷◌, ◌++◌, ℕ, zero, suc, ◌*◌, ◌/◌, ◌^◌, ◌<◌, get_or, set}
use Rattle.std.specs.Int.Bits.{bit_xor}
use Rattle.lent.specs.Bytes.{part, tab}
use Rattle.lent.specs.Word.{plus, rotl, le, of_le}

-- every element is a word; past the end `get_or` answers 0, so no bound on the index is wanted
abbrev pub Words : List ℕ → Type 0
Words x = (i : ℕ) → get_or x i 0 < 2 ^ 32

-- x[d] ^= R(x[a] + x[b], k)
unfoldable pub step : List ℕ → ℕ → ℕ → ℕ → ℕ → List ℕ
step x d a b k = set x d (bit_xor (get_or x d 0) (rotl k (plus (get_or x a 0) (get_or x b 0))))

-- x[b] ^= R(x[a] + x[d], 7), x[c] ^= R(x[b] + x[a], 9), x[d] ^= R(x[c] + x[b], 13), x[a] ^= R(x[d] + x[c], 18): the quarter round
unfoldable pub quarter : List ℕ → ℕ → ℕ → ℕ → ℕ → List ℕ
quarter x a b c d = step (step (step (step x b a d 7) c b a 9) d c b 13) a d c 18

-- the column round: down each column of the square of words, from the diagonal on
unfoldable pub columns : List ℕ → List ℕ
columns x = quarter (quarter (quarter (quarter x 0 4 8 12) 5 9 13 1) 10 14 2 6) 15 3 7 11

-- the row round: along each row, from the diagonal on
unfoldable pub rows : List ℕ → List ℕ
rows x = quarter (quarter (quarter (quarter x 0 1 2 3) 5 6 7 4) 10 11 8 9) 15 12 13 14

-- n double rounds, each a column round and then a row round
unfoldable pub doubles : ℕ → List ℕ → List ℕ
doubles zero x = x
doubles (suc n) x = doubles n (rows (columns x))

-- out[i] = x[i] + in[i]
unfoldable pub added : List ℕ → List ℕ → List ℕ
added x input = tab 16 (λ i. plus (get_or x i 0) (get_or input i 0))

-- the core with an even number of rounds; Salsa20/8 is `salsa 8`
unfoldable pub salsa : ℕ → List ℕ → List ℕ
salsa rounds x = added (doubles (rounds / 2) x) x

-- n little-endian words from 4 * n bytes
unfoldable pub words : ℕ → List ℕ → List ℕ
words n b = tab n (λ i. of_le (part (4 * i) 4 b))

-- words as little-endian bytes
unfoldable pub bytes : List ℕ → List ℕ
bytes [] = []
bytes (x ∷ xs) = le 4 x ++ bytes xs

-- the core on 64 bytes
unfoldable pub salsa_bytes : ℕ → List ℕ → List ℕ
salsa_bytes rounds b = bytes (salsa rounds (words 16 b))
