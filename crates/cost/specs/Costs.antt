-- Checked costs: refusals 4 to 7, in their order.
use Rattle.std.specs.Prelude.{ℕ, ◌^◌, Option, Some, None, Result, Ok, Err}
use Rattle.lent.specs.Bytes.{pick}
use Rattle.cost.specs.declared.Exponent.{Exponent}
use Rattle.cost.specs.declared.Power.{Power}
use Rattle.cost.specs.declared.Cost.{Cost}
use Rattle.cost.specs.declared.Flaw.{Flaw}
use Rattle.cost.specs.declared.Flaw.TheVariants.{BlockSize, Lanes, NotPower, TooLarge}
use Rattle.cost.specs.Limits.{ok_r, ok_p, ok_power, ok_size, ok_exponent}

-- the paper's numbers
abbrev pub flaw_no : Flaw → ℕ
flaw_no BlockSize = 4
flaw_no Lanes = 5
flaw_no NotPower = 6
flaw_no TooLarge = 7

-- a cost as it is, or the first of 4 to 7 that applies
unfoldable pub checked : Cost → Result Cost Flaw
checked c =
    pick (ok_r c.r)
    (pick (ok_p c.p)
    (pick (ok_power c.n.0)
    (pick (ok_size c.n.0 c.r) (Ok c) (Err TooLarge))
    (Err NotPower))
    (Err Lanes))
    (Err BlockSize)

-- N is 2 to the exponent, for an exponent from 1 to the greatest
unfoldable pub power_of : Exponent → Option Power
power_of e = pick (ok_exponent e.0) (Some (record { 0 = 2 ^ e.0 })) None

-- an exponent out of range is an N too small or too large: it is refused as 7 is, before anything else
abbrev pub checked_power : Option Power → ℕ → ℕ → Result Cost Flaw
checked_power (Some n) r p = checked (record { n = n; r = r; p = p })
checked_power None r p = Err TooLarge

unfoldable pub checked_exponent : Exponent → ℕ → ℕ → Result Cost Flaw
checked_exponent e r p = checked_power (power_of e) r p
