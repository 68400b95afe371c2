-- `login::unlock` meets its contract: a card that was read has costs that pass, and a key that fits the room.
use Rattle.std.proofs.Common.{rules, ◌≡◌, ℕ, sym, ap₂, ◌∙◌, length, take, arith, length-take-le, Result, Ok}
use Rattle.lent.specs.Bytes.{zeros}
use Rattle.cost.specs.declared.Cost.{Cost}
use Rattle.cost.specs.declared.Flaw.{Flaw}
use Rattle.card.specs.Refusals.{salt_of, key_of}
use Rattle.login.specs.Login.{cost_on, weighed}
use Rattle.login.proofs.Desks.{read_passes, ok_same}
use Rattle.login.proofs.unlock.Goals as goal

pub slice_bounds-weigh-end : goal.slice_bounds-weigh-end
slice_bounds-weigh-end c =
    let passes = read_passes c.args.card.now c.args.m c.requires in
    sym (length-take-le c.args.m.key (zeros 64) (omega (arith, passes.0)))

pub returns : goal.returns
returns c =
    let v = c.args in
    let passes = read_passes v.card.now v.m c.requires in
    let told : ◌≡◌ {A = Result Cost Flaw} (Ok c.in_ok-c.c) (Ok (cost_on v.card.now)) = search (rules, passes.2) in
    let same : c.in_ok-c.c ≡ cost_on v.card.now = ok_same told in
    let long : length (take v.m.key (zeros 64)) ≡ v.m.key = length-take-le v.m.key (zeros 64) (omega (arith, passes.0)) in
    c.weigh.ensures
    ∙ ap₂ (λ (d : Cost) (n : ℕ). weighed v.password.now (salt_of v.card.now) (key_of v.card.now) d n v.scratch.now v.allowance) same (long ∙ passes.1)
