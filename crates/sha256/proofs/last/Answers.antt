-- `sha256::last` meets its contract: the writes lay the padded message out from the front.
use Rattle.std.proofs.Common.{◌≡◌, ◌*◌, ◌∙◌, ap, arith}
use Rattle.lent.specs.Word.{be}
use Rattle.sha256.specs.Sha256.{absorb}
use Rattle.lent.proofs.Words.{high_first}
use Rattle.sha256.proofs.Laws.{laid_out}
use Rattle.sha256.proofs.last.Goals as goal

pub returns : goal.returns
returns c =
    let a = c.args in
    let m = a.rest.now in
    let bits : c.to_be_bytes.result ≡ be 8 (8 * a.total) = c.to_be_bytes.ensures ∙ high_first 8 (8 * a.total) in
    rw (c.absorb.ensures, c.copy.ensures, bits, c.padded-b.ensures) (ap (absorb a.h) (laid_out 128 m a.total (omega arith) c.requires.0 c.requires.1))
