use Rattle.std.proofs.Common.{◌∙◌}
use Rattle.lent.proofs.Words.{high_first}
use Rattle.lent.proofs.BigEndianOrder.four.Goals as goal

pub returns : goal.returns
returns c = c.to_be_bytes.ensures ∙ high_first 4 c.args.x
