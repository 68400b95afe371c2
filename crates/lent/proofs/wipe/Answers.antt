-- `lent::wipe` meets its contract: the place is the part that is lent to the library's `fill`.
use Rattle.std.proofs.Common.{rules, ◌≡◌, ◌+◌, ◌-◌, ◌≤◌, length, arith}
use lib.ListN.{length-replicate}
use Rattle.lent.specs.Bytes.{zeros}
use Rattle.lent.proofs.Parts.{put_mid-sets}
use Rattle.lent.proofs.wipe.Goals as goal

pub returns : goal.returns
returns c =
    let a = c.args in
    let long : length (zeros a.n) ≡ a.n = length-replicate a.n 0 in
    let n : a.at + a.n - a.at ≡ length (zeros a.n) = omega arith in
    let room : a.at + length (zeros a.n) ≤ length a.s.now = omega arith in
    put_mid-sets a.at _ a.s.now _ (zeros a.n) (search rules) n room
