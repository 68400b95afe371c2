-- How scratch becomes spacing: the smallest power of two k with N/k + p + 3 at most F, where F is the number of whole blocks in the scratch.
use Rattle.std.specs.Prelude.{Bool, ℕ, zero, suc, ◌+◌, ◌*◌, ◌/◌, leb}
use Rattle.lent.specs.Bytes.{pick}

-- N/k stored blocks, p lanes and 3 working blocks lie within F blocks
abbrev pub fits : ℕ → ℕ → ℕ → ℕ → Bool
fits N p F k = leb (N / k + p + 3) F

-- the first of k, 2k, 4k .. that fits
unfoldable pub first_fit : ℕ → ℕ → ℕ → ℕ → ℕ → ℕ
first_fit zero N p F k = k
first_fit (suc more) N p F k = pick (fits N p F k) k (first_fit more N p F (k * 2))

unfoldable pub spacing : ℕ → ℕ → ℕ → ℕ
unfolding first_fit
spacing N p F = first_fit 64 N p F 1
