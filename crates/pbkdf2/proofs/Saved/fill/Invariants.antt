-- `pbkdf2::Saved::fill` meets its contract: after i turns the first i pieces are laid out, as far as there is room.
use Rattle.std.proofs.Common.{◌≡◌, length, take}
use lib.Seq.{sets}
use Rattle.pbkdf2.specs.Pbkdf2.{Ts}
use Rattle.pbkdf2.specs.Saved.{piece}
use Rattle.pbkdf2.proofs.Saved.fill.Given as goal

abbrev pub invariant-loop-i : goal.invariant-loop-i
invariant-loop-i l =
    (length l.out ≡ length l.initial.out)
    × (l.out ≡ sets l.initial.out 0 (take (length l.initial.out) (Ts (piece l.self.outer l.self.inner l.self.before l.rest) l.i)))
