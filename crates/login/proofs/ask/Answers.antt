-- `login::ask` meets its contract: the three desks, each asked whole before the next.
use Rattle.std.proofs.Common.{List, ℕ, sym, ap, ◌∙◌}
use Rattle.std.proofs.lemmas.Result.{err_from_is_err_and}
use Rattle.text.specs.Login.{Reading}
use Rattle.card.specs.Refusals.{read_of, salt_of, key_of}
use Rattle.login.specs.Login.{cost_on, weighed}
use Rattle.login.proofs.Desks.{text_refuses, asks_derivation}
use Rattle.login.proofs.ask.Goals as goal

pub returns-in_err-read : goal.returns-in_err-read
returns-in_err-read c =
    let v = c.args in
    let p = err_from_is_err_and c.from_residual-in_err-read.result c.from_residual-in_err-read.ensures.1 in
    let good = c.in_ok-m.ensures in
    rw (p.1, p.2) (text_refuses v.text.now v.card.now v.scratch.now v.allowance c.in_ok-m.m good _ (c.in_err-read.ensures))

pub returns : goal.returns
returns c =
    let v = c.args in
    let good = c.in_ok-m.ensures in
    let split = ap (λ (y : Reading). y.refusal) (c.in_ok-read.ensures) in
    c.unlock.ensures
    ∙ ap (λ (w : List ℕ). weighed w (salt_of v.card.now) (key_of v.card.now) (cost_on v.card.now) (read_of v.card.now).key v.scratch.now v.allowance) c.password.ensures
    ∙ asks_derivation v.text.now v.card.now v.scratch.now v.allowance c.in_ok-m.m good (sym split)
