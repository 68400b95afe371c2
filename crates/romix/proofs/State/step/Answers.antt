-- `romix::State::step` meets its contract: a case of `next` for each way out.
use Rattle.std.proofs.Common.{ℕ, List, sym, ap, ◌∙◌, ap₂, arith}
use Rattle.romix.proofs.Clean.{get-clean}
use Rattle.romix.proofs.Steps.{next-first, next-forward, next-second, next-finished, clean-finished}
use Rattle.romix.specs.ROMix.{place}
use Rattle.romix.specs.declared.State.{State}
use Rattle.romix.specs.Machine.{clean, second, finished}
use Rattle.romix.proofs.State.step.Goals as goal

pub returns-then-self : goal.returns-then-self
returns-then-self c = c.pass_one.ensures ∙ sym (next-first c.args.self (clean c.args.self c.args.s.now) c.if-self.true)

pub returns-then-self-j : goal.returns-then-self-j
returns-then-self-j c =
    let t = c.args.self in
    let s = c.args.s.now in
    let named = ap (place t.n) (get-clean t t.p s (omega arith)) ∙ sym c.look-j.ensures.0 in
    c.step_forward.ensures ∙ sym (next-forward t (clean t s) c.look-j.result named c.if-self.false c.if-self-j.true)

pub returns-then-self-2 : goal.returns-then-self-2
returns-then-self-2 c =
    let t = c.args.self in
    let s = c.args.s.now in
    let named = ap (place t.n) (get-clean t t.p s (omega arith)) ∙ sym c.look-j.ensures.0 in
    c.pass_two-u.ensures ∙ sym (next-second t (clean t s) c.look-j.result named c.if-self.false c.if-self-j.false c.if-self-2.true)

pub returns : goal.returns
unfolding second
returns c =
    let t = c.args.self in
    let s = c.args.s.now in
    let two = c.pass_two-u in
    let j = c.look-j.result in
    let named = ap (place t.n) (get-clean t t.p s (omega arith)) ∙ sym c.look-j.ensures.0 in
    let ended = c.finish.ensures in
    let made = ap (λ (d : State × List ℕ). d.0.made) two.ensures in
    let bytes = ap (λ (d : State × List ℕ). d.1) two.ensures in
    ap (λ (d : State × List ℕ). (d.0, clean t d.1)) ended
    ∙ clean-finished t two.new.s two.result.made (rw two.auto.s c.requires.0.within) c.requires.1
    ∙ ap₂ (finished t) made bytes
    ∙ sym (next-finished t (clean t s) j named c.if-self.false c.if-self-j.false c.if-self-2.false)
