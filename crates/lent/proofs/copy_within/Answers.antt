-- `lent::copy_within` meets its contract.
use Rattle.std.proofs.Common.{◌≡◌, ◌+◌, ◌-◌, ◌≤◌, drop, length, ◌∙◌, arith, length-drop}
use Rattle.lent.proofs.Parts.{paste-sets}
use Rattle.lent.proofs.copy_within.Goals as goal

pub returns : goal.returns
returns c =
    let a = c.args in
    let n : a.from + a.n - a.from ≡ a.n = omega arith in
    let room : a.n ≤ length (drop a.from a.s.now) = rw length-drop (omega arith) in
    rw n at c.copy_within.ensures.after ∙ paste-sets a.s.now a.to (drop a.from a.s.now) a.n room (omega arith)
