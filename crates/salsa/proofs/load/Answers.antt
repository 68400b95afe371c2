-- `salsa::load` meets its contract: the words of a part are those that are read where they lie.
use Rattle.std.proofs.Common.{sym, ◌∙◌, arith}
use Rattle.salsa.proofs.Coding.{words-part}
use Rattle.salsa.proofs.load.Goals as goal

pub returns : goal.returns
returns c = c.load.ensures ∙ sym (words-part 16 64 _ _ (omega arith))
