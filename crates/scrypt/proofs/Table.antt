-- The numbers the desk will try, and the core of zeros: rows of one table, under one claim.
-- "Any" is a variable, and all rows hold for all passphrase, salt and key lengths within the limits. Assumes nothing.
use mathlib.Core.Path.{◌≡◌}
use mathlib.Core.List.{List, [], ◌∷◌, map}
use Prim.Native.Nat.{ℕ, ◌≤◌}
use Rattle.std.specs.Prelude.{Result, Ok, Err}
use Rattle.std.proofs.lemmas.Bool.{le-leb}
use Rattle.lent.specs.Bytes.{zeros}
use Rattle.salsa.specs.Salsa.{salsa_bytes}
use Rattle.salsa.proofs.Vectors.{core_of_zeros}
use Rattle.cost.specs.declared.Cost.{Cost}
use Rattle.cost.specs.Limits.{is_power, ok_power}
use Rattle.cost.specs.Costs.{checked}
use Rattle.cost.specs.Spacing.{first_fit, spacing}
use Rattle.scrypt.specs.declared.Plan.{Plan}
use Rattle.scrypt.specs.declared.Reason.{Reason}
use Rattle.scrypt.specs.Limits.{longest_passphrase, longest_salt, longest_key}
use Rattle.scrypt.specs.Plans.{reason_no, afforded, plan_of}

-- what is asked: N, r, p, scratch bytes and allowance; or the core of n zero bytes
pub data Asked : Type 0 where
  derive : (N r p scratch allowance : ℕ) → Asked
  core : (n : ℕ) → Asked

-- what is answered: the spacing and the stored blocks, a refusal's number, or bytes
pub data Told : Type 0 where
  spaced : (k stored : ℕ) → Told
  refused : (number : ℕ) → Told
  bytes : List ℕ → Told

pub record Row : Type 0 where
  pub asked : Asked
  pub told : Told

module _ (pass salt key : ℕ) (one_pass : pass ≤ longest_passphrase) (one_salt : salt ≤ longest_salt) (some_key : 1 ≤ key) (one_key : key ≤ longest_key) (any any' : ℕ) where
  cost : ℕ → ℕ → ℕ → Cost
  cost N r p = record { n = record { 0 = N }; r = r; p = p }

  said : Result Plan Reason → Told
  said (Ok plan) = spaced plan.spacing plan.stored
  said (Err why) = refused (reason_no why)

  pub answer : Asked → Told
  answer (derive N r p scratch allowance) = said (plan_of pass salt key scratch allowance (cost N r p))
  answer (core n) = bytes (salsa_bytes 8 (zeros n))

  pub table : List Row
  table =
      record { asked = derive 16 1 1 2560 32; told = spaced 1 16 }
      ∷ record { asked = derive 16 1 1 2559 48; told = spaced 2 8 }
      ∷ record { asked = derive 16 1 1 1536 47; told = refused 9 }
      ∷ record { asked = derive 16 1 1 1535 80; told = spaced 4 4 }
      ∷ record { asked = derive 16 1 1 640 272; told = spaced 16 1 }
      ∷ record { asked = derive 16 1 1 639 272; told = refused 8 }
      ∷ record { asked = derive 16 1 1 2560 31; told = refused 9 }
      ∷ record { asked = derive 65536 1 1 any any'; told = refused 7 }
      ∷ record { asked = derive 1000 8 1 any any'; told = refused 6 }
      ∷ record { asked = derive 1 0 1 any any'; told = refused 4 }
      ∷ record { asked = derive 1024 8 16 65536 540672; told = spaced 32 32 }
      ∷ record { asked = derive 16384 8 1 65536 8404992; told = spaced 512 32 }
      ∷ record { asked = core 64; told = bytes (zeros 64) }
      ∷ []

  pub rows : map (λ (r : Row). answer r.asked) table ≡ map (λ (r : Row). r.told) table
  unfolding cost said answer table plan_of afforded checked ok_power is_power spacing first_fit
  rows = rw (le-leb pass longest_passphrase one_pass, le-leb salt longest_salt one_salt, le-leb 1 key some_key, le-leb key longest_key one_key, core_of_zeros)
