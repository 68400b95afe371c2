-- `lent::same` meets its contract.
use Rattle.std.proofs.Common.{rules, ◌≡◌, ◌∷◌, eqb, length, ◌∙◌, ap, ap₂, sym, arith, inl, inr}
use Rattle.lent.specs.Bytes.{eqs}
use Rattle.lent.proofs.Tabs.{gathered_more, gathered_all, eqs_lengths}
use Rattle.lent.proofs.same.Goals as goal

pub returns-then-a-b : goal.returns-then-a-b
returns-then-a-b c = sym (eqs_lengths _ _ c.if-a-b.true)

pub loop-x-init : goal.loop-x-init
loop-x-init c =
    let fa : c.into_iter-x-iterator.result.a.rest.now ≡ c.args.a.now = search rules in
    let fb : c.into_iter-x-iterator.result.b.rest.now ≡ c.args.b.now = search rules in
    (ap length fa ∙ c.if-a-b.false ∙ sym (ap length fb), ap₂ eqs fa fb)

pub loop-x-preserved : goal.loop-x-preserved
unfolding eqs
loop-x-preserved c =
    let s = c.in-Some.ensures.steps in
    let x = c.in-Some.x.now in
    let y = c.in-Some.y.now in
    let ra = c.next.new.self.a.rest.now in
    let rb = c.next.new.self.b.rest.now in
    let ea : c.loop-x.x-iterator.a.rest.now ≡ x ∷ ra = s.0 in
    let eb : c.loop-x.x-iterator.b.rest.now ≡ y ∷ rb = s.1 in
    let n : length (x ∷ ra) ≡ length (y ∷ rb) = rw (ea, eb) at c.loop-x.invariant.0 in
    (omega arith, gathered_more c.loop-x.d x y (eqs ra rb) ∙ (rw (ea, eb) at c.loop-x.invariant.1))

pub returns : goal.returns
returns c =
    let even = c.loop-x.invariant.0 in
    let none : length c.loop-x.x-iterator.a.rest.now ≡ 0 = elim c.in-None.ensures.steps [ inl e ↦ e.1.0 | inr e ↦ even ∙ e.1.0 ] in
    sym (gathered_all (eqb c.loop-x.d 0) _ _ none (sym even ∙ none)) ∙ c.loop-x.invariant.1
