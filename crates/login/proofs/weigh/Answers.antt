-- `login::weigh` meets its contract: each answer of the derivation is one way out.
use Rattle.std.proofs.lemmas.Result.{err_from_is_err_and}
use Rattle.card.specs.Refusals.{salt_of, key_of}
use Rattle.login.proofs.Desks.{weighed_refused, weighed_answered}
use Rattle.login.proofs.weigh.Goals as goal

pub returns-in_err-derive : goal.returns-in_err-derive
returns-in_err-derive c =
    let v = c.args in
    let d = c.derive in
    let p = err_from_is_err_and c.from_residual.result c.from_residual.ensures.1 in
    rw (p.1, p.2) (weighed_refused v.password.now c.salt.result.now (salt_of v.card.now) (key_of v.card.now) v.c v.key.now v.scratch.now v.allowance d.new.key d.new.scratch _ c.salt.ensures c.in_err-derive.ensures)

pub returns : goal.returns
returns c =
    let v = c.args in
    let d = c.derive in
    weighed_answered v.password.now c.salt.result.now (salt_of v.card.now) (key_of v.card.now) v.c v.key.now v.scratch.now v.allowance d.new.key d.new.scratch _ c.same.result c.key.result.now c.salt.ensures c.key.ensures c.in_ok-derive.ensures c.same.ensures
