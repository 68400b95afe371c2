-- `pbkdf2::pbkdf2` meets its contract: each piece made from the saved values is the RFC's.
use Rattle.std.proofs.Common.{length}
use Rattle.pbkdf2.specs.Pbkdf2.{pbkdf2}
use Rattle.pbkdf2.proofs.Laws.{pbkdf2-pieces}
use Rattle.pbkdf2.proofs.pbkdf2.Goals as goal

pub returns : goal.returns
unfolding pbkdf2
returns c =
    let a = c.args in
    let n = c.new.ensures in
    let s = c.salted.ensures in
    rw (c.fill.ensures, s.outer, s.inner, s.before, n.outer, n.inner, n.before, c.as_chunks.ensures.back) (pbkdf2-pieces a.pass.now a.salt.now (length a.out.now))
