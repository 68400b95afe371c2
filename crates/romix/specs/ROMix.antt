-- scryptROMix, RFC 7914 section 5, in its letters; and how many mixings it takes where one block in k is stored.
use Rattle.std.specs.Prelude.{ℕ, zero, suc, ◌+◌, ◌-◌, ◌*◌, ◌%◌, List, length, drop}
use Rattle.lent.specs.Bytes.{xors}
use Rattle.lent.specs.Word.{of_le}
use Rattle.mixing.specs.BlockMix.{block_mix}

-- f applied n times
unfoldable pub times : {A : Type 0} → ℕ → (A → A) → A → A
times zero f x = x
times (suc n) f x = f (times n f x)

-- the last 64 bytes of X as a number, the lowest byte first
unfoldable pub integerify : List ℕ → ℕ
integerify X = of_le (drop (length X - 64) X)

-- step 2: V[i] is B mixed i times, and X leaves the step as V[N]
unfoldable pub Vᵢ : ℕ → List ℕ → ℕ → List ℕ
unfolding times
Vᵢ r B i = times i (block_mix r) B

-- step 3: j = Integerify(X) mod N
unfoldable pub place : ℕ → List ℕ → ℕ
unfolding integerify
place N X = integerify X % N

-- step 3: T = X xor V[j]; X = scryptBlockMix(T)
unfoldable pub turn : ℕ → ℕ → List ℕ → List ℕ → List ℕ
turn r N B X = block_mix r (xors X (Vᵢ r B (place N X)))

-- X as it enters turn i of step 3
unfoldable pub entering : ℕ → ℕ → List ℕ → ℕ → List ℕ
unfolding times
entering r N B i = times i (turn r N B) (Vᵢ r B N)

-- B' is X after the N turns of step 3
unfoldable pub ro_mix : ℕ → ℕ → List ℕ → List ℕ
unfolding entering
ro_mix r N B = entering r N B N

-- ---- the count

-- f 0 + f 1 + .. + f (n - 1)
unfoldable pub sum : ℕ → (ℕ → ℕ) → ℕ
sum zero f = 0
sum (suc n) f = sum n f + f n

-- the place j that turn i of step 3 names
unfoldable pub named : ℕ → ℕ → List ℕ → ℕ → ℕ
named r N B i = place N (entering r N B i)

-- with V[0], V[k], V[2k] .. stored, V[j] is j mod k mixings ahead of the nearest stored block at or below it
unfoldable pub mixings : ℕ → ℕ → ℕ → List ℕ → ℕ
unfolding sum named
mixings k r N B = 2 * N + sum N (λ i. named r N B i % k)
