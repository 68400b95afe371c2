-- What a sound cost and enough scratch give: the spacing lies from 1 to N and divides it, and no product of the costs leaves 64 bits.
-- Assumes nothing.
use mathlib.Core.Path.{◌≡◌, ap, ◌∙◌}
use Prim.Native.Nat.{ℕ, ◌+◌, ◌-◌, ◌*◌, ◌/◌, ◌^◌, ◌≤◌, ◌<◌}
use native.Mathlib.Nat.{mul-le-mul, div-mul_cancel, dvd-mul_right}
use native.Mathlib.Omega.{arith}
use lib.Pow.{pow_pos, pow_mono, pow-add}
use Rattle.std.proofs.lemmas.Bool.{leb-true}
use Rattle.cost.specs.declared.Cost.{Cost}
use Rattle.cost.specs.Limits.{most_n, most_p}
use Rattle.cost.specs.Spacing.{spacing}
use Rattle.cost.proofs.Goods.{Sound}
use Rattle.cost.proofs.Spacings.{Spaced, spacing_is}
use Rattle.scrypt.specs.Plans.{worst_case}

divides : (N k e i : ℕ) → N ≡ 2 ^ e → k ≡ 2 ^ i → i ≤ e → N / k * k ≡ N
divides N k e i n k' h =
    let sum : e ≡ i + (e - i) = omega arith in
    let split : 2 ^ e ≡ 2 ^ i * 2 ^ (e - i) = ap (λ (d : ℕ). 2 ^ d) sum ∙ pow-add 2 i (e - i) in
    rw (n, k', split) (div-mul_cancel (2 ^ i) (dvd-mul_right (2 ^ i) (2 ^ (e - i))))

module _ (c : Cost) (sound : Sound c) (F : ℕ) (room : c.p + 4 ≤ F) where
  pub spaced : Spaced sound.e c.p F (spacing c.n.0 c.p F)
  spaced = rw sound.power (spacing_is sound.e c.p F sound.few_e room)

  pub some_spacing : 0 < spacing c.n.0 c.p F
  some_spacing = omega (arith, spaced.is, pow_pos spaced.i)

  pub most_spacing : spacing c.n.0 c.p F ≤ c.n.0
  most_spacing = omega (arith, spaced.is, pow_mono spaced.most, sound.power)

  pub worst_small : c.n.0 * (spacing c.n.0 c.p F + 1) ≤ most_n * (most_n + 1)
  worst_small = let more : spacing c.n.0 c.p F + 1 ≤ most_n + 1 = omega (arith, most_spacing, sound.small) in mul-le-mul sound.small more

  pub worst_fits : worst_case c.n.0 c.p (spacing c.n.0 c.p F) ≤ most_p * (most_n * (most_n + 1))
  worst_fits = mul-le-mul sound.few_p worst_small

  -- N/k blocks, each k from the next, are all that are looked up
  pub stored_all : c.n.0 / spacing c.n.0 c.p F * spacing c.n.0 c.p F ≡ c.n.0
  stored_all = divides c.n.0 (spacing c.n.0 c.p F) sound.e spaced.i sound.power spaced.is spaced.most

  -- and lie within the scratch with the lanes and the working room
  pub stored_fit : c.n.0 / spacing c.n.0 c.p F + c.p + 3 ≤ F
  stored_fit = rw sound.power (rw sound.power at (leb-true _ F spaced.fit))

pub ruleset sizes = (some_spacing, most_spacing, worst_small, worst_fits)
