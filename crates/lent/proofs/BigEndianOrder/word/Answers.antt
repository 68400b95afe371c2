-- the library's sum of the four bytes, each at its worth, is the paper's
use Rattle.std.proofs.Common.{◌≡◌, length, arith}
use Rattle.lent.specs.Word.{of_be, of_be_from}
use Rattle.lent.proofs.Words.{four}
use Rattle.lent.proofs.BigEndianOrder.word.Goals as goal

pub returns : goal.returns
unfolding of_be of_be_from
returns c = let long : length c.args.b ≡ 4 = omega arith in rw (four c.args.b long) (omega (arith, c.from_be_bytes.ensures))
