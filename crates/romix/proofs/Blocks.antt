-- Blocks of the scratch by their number: a block lies within it, two blocks lie apart, and what reading after writing gives.
-- Here alone byte places are products; above, a block is a number. Assumes nothing.
use Rattle.std.proofs.Common.{◌≡◌, ℕ, ◌+◌, ◌*◌, ◌/◌, ◌^◌, ◌<◌, ◌≤◌, eqb, ◌≢◌, List, length, sym, ap, ◌∙◌, mul-le-mul_right, div-lt_iff_lt-mul, mul-le-mul_left, arith}
use native.Mathlib.Decide.{dec_le}
use Rattle.lent.specs.Bytes.{part, Apart}
use Rattle.lent.proofs.Parts.{length-part, part-sets_same, part-sets_apart, sets_over, sets_apart}
use Rattle.lent.proofs.Picks.{pick_any}
use Rattle.romix.specs.declared.State.{State}
use Rattle.romix.specs.Machine.{Room, Fit, block, blocks, get, put, at_work, source}

-- n blocks from block i on lie within the scratch
pub blocks_in : {t : State} {long : ℕ} (i n : ℕ) → Room t long → i + n ≤ blocks t → i * block t + n * block t ≤ long
blocks_in {t} i n fits h = omega (arith, mul-le-mul_right (block t) h, fits.room)

-- and so does one
pub block_in : {t : State} {long : ℕ} (i : ℕ) → Room t long → i < blocks t → i * block t + block t ≤ long
block_in {t} i fits h = omega (arith, mul-le-mul_right (block t) h, fits.room)

-- two blocks share no byte
pub block_apart : (t : State) (i j : ℕ) → i ≢ j → Apart (block t) (i * block t) (j * block t)
block_apart t i j h =
    elim (dec_le i j) [
      | yes below ↦ (let next : i + 1 ≤ j = omega arith in omega (arith, mul-le-mul_right (block t) next))
      | no above ↦ (let next : j + 1 ≤ i = omega arith in omega (arith, mul-le-mul_right (block t) next))
    ]

-- where a block begins is a number that 64 bits hold
pub block_at : {t : State} {long : ℕ} (i : ℕ) → Room t long → i < blocks t → long < 2 ^ 64 → (t.r ≤ 64) × (i * block t < 2 ^ 64)
block_at {t} i fits h small = (fits.wide, omega (arith, block_in i fits h))

-- what a read of one block and a write of another want
pub pair_fits : {t : State} {long : ℕ} (i j : ℕ) → Room t long → i < blocks t → j < blocks t → i ≢ j
    → (i * block t + block t ≤ long) × (j * block t + block t ≤ long) × Apart (block t) (i * block t) (j * block t)
pair_fits {t} i j fits h k apart = (block_in i fits h, block_in j fits k, block_apart t i j apart)

pub length-get : {t : State} (i : ℕ) (s : List ℕ) → Room t (length s) → i < blocks t → length (get t i s) ≡ block t
length-get {t} i s fits h = length-part (i * block t) (block t) s (block_in i fits h)

pub get-put_same : {t : State} (i : ℕ) (v s : List ℕ) → Room t (length s) → i < blocks t → length v ≡ block t → get t i (put t i v s) ≡ v
get-put_same {t} i v s fits h e =
    let room = block_in i fits h in
    ap (λ (n : ℕ). part (i * block t) n (put t i v s)) (sym e) ∙ part-sets_same s (i * block t) v (omega arith)

pub get-put_other : (t : State) (i j : ℕ) (v s : List ℕ) → length v ≡ block t → i ≢ j → get t j (put t i v s) ≡ get t j s
get-put_other t i j v s e h =
    part-sets_apart (block t) (j * block t) (i * block t) s (j * block t) (block t) (i * block t) v (block_apart t j i (λ p. h (sym p))) (omega arith) (omega arith)

pub put_over : (t : State) (i : ℕ) (a b s : List ℕ) → length a ≡ block t → length b ≡ block t → put t i b (put t i a s) ≡ put t i b s
put_over t i a b s e f = sets_over s (i * block t) a b (omega arith)

pub put_comm : (t : State) (i j : ℕ) (a b s : List ℕ) → length a ≡ block t → length b ≡ block t → i ≢ j → put t j b (put t i a s) ≡ put t i a (put t j b s)
put_comm t i j a b s e f h = sets_apart (block t) s (i * block t) a (j * block t) b e f (block_apart t i j h)

-- there are no more blocks than bytes
pub blocks_few : {t : State} {long : ℕ} → Room t long → blocks t ≤ long
blocks_few {t} fits =
    let one : 1 ≤ block t = omega (arith, fits.thin) in
    omega (arith, mul-le-mul_left (blocks t) one, fits.room)

-- V[i] below N has its stored block, or one at or below it
pub stored_in : (n w k i : ℕ) → 0 < k → n ≤ w * k → i < n → i / k < w
stored_in n w k i pos held h = (div-lt_iff_lt-mul pos).1 (omega arith)

-- the block from which V[j] is reached lies within the scratch, and is not the working block
pub source_in : {long : ℕ} (t : State) (j : ℕ) → Fit t long → j < t.n → (source t j < blocks t) × (source t j ≢ at_work t)
source_in t j fit h =
    pick_any (λ (i : ℕ). (i < blocks t) × (i ≢ at_work t)) (eqb t.ahead 0) _ _
    (λ _. let low = stored_in t.n t.w t.k j fit.space fit.held h in (omega arith, omega arith))
    (λ _. (omega arith, omega arith))
