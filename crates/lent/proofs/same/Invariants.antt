-- `lent::same` meets its contract: what is gathered, and whether the pairs still to come are alike, together say whether all are.
use Rattle.std.proofs.Common.{◌≡◌, ◌&&◌, eqb, length}
use Rattle.lent.specs.Bytes.{eqs}
use Rattle.lent.proofs.same.Given as goal

abbrev pub invariant-loop-x : goal.invariant-loop-x
invariant-loop-x l =
    (length l.x-iterator.a.rest.now ≡ length l.x-iterator.b.rest.now)
    × (eqb l.d 0 && eqs l.x-iterator.a.rest.now l.x-iterator.b.rest.now ≡ eqs l.a l.b)
