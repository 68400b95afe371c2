-- `romix::State::run` meets its contract: each turn makes one mixing of those that are left.
use Rattle.std.proofs.Common.{◌≡◌, ℕ, suc, ◌+◌, ◌-◌, sym, ap, ◌∙◌, arith}
use Rattle.romix.proofs.Steps.{running_more, after_done}
use Rattle.romix.specs.Machine.{after, clean}
use Rattle.romix.proofs.State.run.Goals as goal

pub returns-then-u : goal.returns-then-u
returns-then-u c = sym (after_done _ c.loop.u _ c.if-u.true) ∙ c.loop.invariant.rest

pub loop-preserved : goal.loop-preserved
loop-preserved c =
    let a = c.args in
    let at = c.loop in
    let one : a.allowance - at.counter ≡ suc (a.allowance - (at.counter + 1)) = omega (arith, c.loop-test.true) in
    running_more a.self a.s.now a.allowance at.u at.s _ _ _ (rw one at at.invariant) c.if-u.false c.step-u.auto.s c.step-u.ensures

pub returns : goal.returns
unfolding after
returns c =
    let at = c.loop in
    let none : c.args.allowance - at.counter ≡ 0 = omega (arith, c.loop-test.false) in
    sym (ap (λ (m : ℕ). after m at.u (clean c.args.self at.s)) none) ∙ at.invariant.rest
