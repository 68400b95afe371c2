-- What callers of the core cite, over the number of rounds: lengths and bounds. None looks into a round.
-- Assumes nothing.
use mathlib.Core.Path.{◌≡◌, sym, ap, ◌∙◌}
use mathlib.Core.List.{List}
use Prim.Native.Nat.{ℕ, ◌^◌}
use native.Mathlib.Omega.{arith}
use lib.ListN.{length, get_or}
use Rattle.lent.specs.Bytes.{Bytes}
use Rattle.lent.specs.Word.{plus}
use Rattle.lent.proofs.Tabs.{length-tab}
use Rattle.lent.proofs.Bounds.{below_tab}
use Rattle.salsa.specs.Salsa.{salsa, salsa_bytes, added, words, bytes, Words}
use Rattle.salsa.proofs.Coding.{length-bytes, bytes_are_bytes, words-bytes}

length-added : (x y : List ℕ) → length (added x y) ≡ 16
unfolding added
length-added x y = length-tab 16 (λ i. plus (get_or x i 0) (get_or y i 0))

added-words : (x y : List ℕ) → Words (added x y)
unfolding added
added-words x y = below_tab (2 ^ 32) 16 (λ i. plus (get_or x i 0) (get_or y i 0)) (omega arith) (λ i. omega arith)

pub length-salsa : (rounds : ℕ) (x : List ℕ) → length (salsa rounds x) ≡ 16
unfolding salsa
length-salsa rounds x = length-added _ x

pub salsa-words : (rounds : ℕ) (x : List ℕ) → Words (salsa rounds x)
unfolding salsa
salsa-words rounds x = added-words _ x

pub length-salsa_bytes : (rounds : ℕ) (b : List ℕ) → length (salsa_bytes rounds b) ≡ 64
unfolding salsa_bytes
length-salsa_bytes rounds b = rw (length-bytes, length-salsa)

pub salsa_bytes-bytes : (rounds : ℕ) (b : List ℕ) → Bytes (salsa_bytes rounds b)
unfolding salsa_bytes
salsa_bytes-bytes rounds b = bytes_are_bytes _

-- the bytes of the core, read as words
pub words-salsa_bytes : (rounds : ℕ) (b : List ℕ) → words 16 (salsa_bytes rounds b) ≡ salsa rounds (words 16 b)
unfolding salsa_bytes
words-salsa_bytes rounds b =
    let x = salsa rounds (words 16 b) in
    ap (λ (n : ℕ). words n (bytes x)) (sym (length-salsa rounds (words 16 b))) ∙ words-bytes x (salsa-words rounds (words 16 b))
