-- `pbkdf2::masked` meets its contract: the loop stores the masked bytes in order.
use Rattle.std.proofs.Common.{get_or}
use lib.Bits.{bit_xor}
use Rattle.lent.proofs.Tabs.{Filled}
use Rattle.pbkdf2.proofs.masked.Given as goal

abbrev pub invariant-loop-i : goal.invariant-loop-i
invariant-loop-i l = Filled l.initial.b 0 64 (λ j. bit_xor (get_or l.k j 0) l.pad) l.b l.i
