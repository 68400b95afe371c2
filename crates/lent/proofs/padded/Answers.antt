use Rattle.std.proofs.Common.{◌∙◌}
use Rattle.lent.proofs.Parts.{sets_over_copies}
use Rattle.lent.proofs.padded.Goals as goal

pub returns : goal.returns
returns g c = c.copy.ensures ∙ sets_over_copies g.row.N 0 c.args.s.now c.requires
