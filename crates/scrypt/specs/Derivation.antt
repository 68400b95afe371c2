-- What a derivation answers, and what it leaves of the key buffer and the scratch: one function of all that is lent.
use Rattle.std.specs.Prelude.{List, ℕ, length, Result, Ok, Err}
use Rattle.lent.specs.Bytes.{zeros}
use Rattle.cost.specs.declared.Cost.{Cost}
use Rattle.scrypt.specs.declared.Derived.{Derived}
use Rattle.scrypt.specs.declared.Plan.{Plan}
use Rattle.scrypt.specs.declared.Reason.{Reason}
use Rattle.scrypt.specs.Plans.{reason_no, plan_of}
use Rattle.scrypt.specs.Scrypt.{scrypt, all_mixings}

-- an answer in the paper's numbers: beside a refusal's number all others are 0
pub record Told : Type 0 where
  pub number : ℕ
  pub spacing : ℕ
  pub stored : ℕ
  pub mixings : ℕ

abbrev pub paper : Result Derived Reason → Told
paper (Ok d) = record { number = 0; spacing = d.spacing; stored = d.stored; mixings = d.mixings }
paper (Err why) = record { number = reason_no why; spacing = 0; stored = 0; mixings = 0 }

-- the plan for what is lent: only the lengths count
abbrev pub plan_for : List ℕ → List ℕ → Cost → List ℕ → List ℕ → ℕ → Result Plan Reason
plan_for P S c key scratch allowance = plan_of (length P) (length S) (length key) (length scratch) allowance c

-- the answer, the key buffer and the scratch afterwards
abbrev pub carried : List ℕ → List ℕ → Cost → List ℕ → List ℕ → Result Plan Reason → Told × (List ℕ × List ℕ)
carried P S c key scratch (Ok plan) = (
  record { number = 0; spacing = plan.spacing; stored = plan.stored; mixings = all_mixings plan.spacing P S c.n.0 c.r c.p },
  (scrypt P S c.n.0 c.r c.p (length key), zeros (length scratch)),
)
carried P S c key scratch (Err why) = (record { number = reason_no why; spacing = 0; stored = 0; mixings = 0 }, (key, scratch))

unfoldable pub derivation : List ℕ → List ℕ → Cost → List ℕ → List ℕ → ℕ → Told × (List ℕ × List ℕ)
derivation P S c key scratch allowance = carried P S c key scratch (plan_for P S c key scratch allowance)
