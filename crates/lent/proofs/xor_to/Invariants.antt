-- `lent::xor_to` meets its contract: the loop stores exclusive ors of bytes of places that it never writes.
use Rattle.std.proofs.Common.{◌+◌, get_or}
use lib.Bits.{bit_xor}
use Rattle.lent.proofs.Tabs.{Filled}
use Rattle.lent.proofs.xor_to.Given as goal

abbrev pub invariant-loop-i : goal.invariant-loop-i
invariant-loop-i l = Filled l.initial.s l.to l.n (λ j. bit_xor (get_or l.initial.s (l.a + j) 0) (get_or l.initial.s (l.b + j) 0)) l.s l.i
