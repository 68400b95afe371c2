use Rattle.std.proofs.Common.{take}
use Rattle.std.specs.Fmt.{HasWritten, IsPlainFormatter}
use Rattle.lines.specs.Said.{hex}
use Rattle.lines.proofs.say.HexDisplay.fmt.Given as goal

-- so far, the digits of the bytes that are done
abbrev pub invariant-loop-b : goal.invariant-loop-b
invariant-loop-b g l = IsPlainFormatter l.fn.f → HasWritten g.W.Write.write_str_gives l.fn.f (hex (take l.b-index l.b-items)) l.f
