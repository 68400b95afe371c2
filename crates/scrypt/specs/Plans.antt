-- When the derivation says no, and at what spacing it works: refusals 1 to 9 in the table's order.
-- A plan is a function of four lengths, the cost and the allowance: no byte has a part in it.
use Rattle.std.specs.Prelude.{ℕ, ◌+◌, ◌*◌, ◌/◌, leb, Result, Ok, Err}
use Rattle.lent.specs.Bytes.{pick}
use Rattle.cost.specs.declared.Cost.{Cost}
use Rattle.cost.specs.declared.Flaw.{Flaw}
use Rattle.cost.specs.Limits.{within}
use Rattle.cost.specs.Costs.{checked, flaw_no}
use Rattle.cost.specs.Spacing.{spacing}
use Rattle.scrypt.specs.declared.Reason.{Reason}
use Rattle.scrypt.specs.declared.Reason.TheVariants.{Passphrase, Salt, Key, Costs, Scratch, Allowance}
use Rattle.scrypt.specs.declared.Plan.{Plan}
use Rattle.scrypt.specs.Limits.{longest_passphrase, longest_salt, longest_key}

-- the paper's numbers
abbrev pub reason_no : Reason → ℕ
reason_no Passphrase = 1
reason_no Salt = 2
reason_no Key = 3
reason_no (Costs f) = flaw_no f
reason_no Scratch = 8
reason_no Allowance = 9

-- F: the whole blocks in the scratch
abbrev pub whole_blocks : ℕ → ℕ → ℕ
whole_blocks scratch r = scratch / (128 * r)

-- p·N·(k + 1)
abbrev pub worst_case : ℕ → ℕ → ℕ → ℕ
worst_case N p k = p * (N * (k + 1))

-- 8 and 9, for a cost that passed
unfoldable pub afforded : ℕ → ℕ → Cost → Result Plan Reason
afforded scratch allowance c =
    let F = whole_blocks scratch c.r in
    let k = spacing c.n.0 c.p F in
    pick (leb (c.p + 4) F)
    (pick (leb (worst_case c.n.0 c.p k) allowance) (Ok (record { spacing = k; stored = c.n.0 / k })) (Err Allowance))
    (Err Scratch)

abbrev pub priced : ℕ → ℕ → Result Cost Flaw → Result Plan Reason
priced scratch allowance (Ok c) = afforded scratch allowance c
priced scratch allowance (Err f) = Err (Costs f)

unfoldable pub plan_of : ℕ → ℕ → ℕ → ℕ → ℕ → Cost → Result Plan Reason
plan_of pass salt key scratch allowance c =
    pick (leb pass longest_passphrase)
    (pick (leb salt longest_salt)
    (pick (within longest_key key) (priced scratch allowance (checked c)) (Err Key))
    (Err Salt))
    (Err Passphrase)
