use Rattle.std.proofs.Common.{◌∙◌}
use Rattle.lent.proofs.Words.{low_first}
use Rattle.lent.proofs.LittleEndianOrder.four.Goals as goal

pub returns : goal.returns
returns c = c.to_le_bytes.ensures ∙ low_first 4 c.args.x
