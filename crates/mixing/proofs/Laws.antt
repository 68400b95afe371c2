-- What callers of BlockMix cite: its length, and that it makes bytes, whatever it is given.
-- Assumes nothing.
use mathlib.Core.Path.{◌≡◌, ◌∙◌}
use mathlib.Core.List.{List}
use Prim.Native.Nat.{ℕ, ◌+◌, ◌*◌}
use native.Mathlib.Nat.{mul_comm}
use native.Mathlib.Omega.{arith}
use lib.ListN.{length, length-append}
use Rattle.lent.specs.Bytes.{Bytes, joined}
use Rattle.lent.proofs.Tabs.{length-joined}
use Rattle.lent.proofs.Bounds.{below_append, below_joined}
use Rattle.salsa.proofs.Laws.{length-salsa_bytes, salsa_bytes-bytes}
use Rattle.mixing.specs.BlockMix.{X, Y, block_mix}

pub length_pieces : (n : ℕ) (f : ℕ → List ℕ) → ((i : ℕ) → length (f i) ≡ 64) → length (joined n f) ≡ 64 * n
length_pieces n f h = length-joined n 64 f (λ i _. h i) ∙ mul_comm n 64

pub length-Y : (r : ℕ) (B : List ℕ) (i : ℕ) → length (Y r B i) ≡ 64
unfolding X Y
length-Y r B i = length-salsa_bytes _ _

pub Y-bytes : (r : ℕ) (B : List ℕ) (i : ℕ) → Bytes (Y r B i)
unfolding X Y
Y-bytes r B i = salsa_bytes-bytes _ _

pub length-block_mix : (r : ℕ) (B : List ℕ) → length (block_mix r B) ≡ 128 * r
unfolding block_mix
length-block_mix r B =
    let evens = length_pieces r (λ i. Y r B (2 * i)) (λ i. length-Y r B (2 * i)) in
    let odds = length_pieces r (λ i. Y r B (2 * i + 1)) (λ i. length-Y r B (2 * i + 1)) in
    rw length-append (omega arith)

pub block_mix-bytes : (r : ℕ) (B : List ℕ) → Bytes (block_mix r B)
unfolding block_mix
block_mix-bytes r B =
    let evens = below_joined 256 r (λ i. Y r B (2 * i)) (omega arith) (λ i. Y-bytes r B (2 * i)) in
    let odds = below_joined 256 r (λ i. Y r B (2 * i + 1)) (omega arith) (λ i. Y-bytes r B (2 * i + 1)) in
    below_append 256 (joined r (λ i. Y r B (2 * i))) (joined r (λ i. Y r B (2 * i + 1))) evens odds
