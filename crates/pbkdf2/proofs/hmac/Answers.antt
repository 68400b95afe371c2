-- `pbkdf2::hmac` meets its contract: both hashes are closed from the values after the key's block.
use Rattle.pbkdf2.proofs.Laws.{hmac-twice}
use Rattle.pbkdf2.proofs.hmac.Goals as goal

pub returns : goal.returns
returns c = rw (c.twice.ensures, c.new.ensures.outer, c.new.ensures.inner, c.new.ensures.before, hmac-twice c.args.key.now c.args.text.now)
