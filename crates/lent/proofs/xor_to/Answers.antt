-- `lent::xor_to` meets its contract: the loop stores exclusive ors of bytes of places that it never writes.
use Rattle.std.proofs.Common.{ℕ, ◌+◌, get_or, ◌∙◌, arith}
use lib.Bits.{bit_xor}
use Rattle.lent.specs.Bytes.{tab}
use Rattle.lent.proofs.Parts.{get_or-sets_apart}
use Rattle.lent.proofs.Tabs.{filled_none, filled_more, filled_all, tab_xor_parts, length-tab}
use Rattle.lent.proofs.xor_to.Goals as goal

pub loop-i-init : goal.loop-i-init
loop-i-init c = filled_none _ _ _ _

pub loop-i-preserved : goal.loop-i-preserved
loop-i-preserved c =
    let v = c.args in
    let i = c.loop-i.i in
    let f : ℕ → ℕ = λ j. bit_xor (get_or v.s.now (v.a + j) 0) (get_or v.s.now (v.b + j) 0) in
    let long = length-tab i f in
    let less = c.loop-i-test.true in
    let apart = c.requires in
    filled_more _ c.loop-i.invariant less
    (rw (c.loop-i.invariant.is, get_or-sets_apart v.s.now v.n v.a v.to (tab i f) i 0 apart.3 less (omega arith), get_or-sets_apart v.s.now v.n v.b v.to (tab i f) i 0 apart.4 less (omega arith)))

pub returns : goal.returns
returns c =
    let v = c.args in
    filled_all c.loop-i.invariant c.loop-i-test.false ∙ rw (tab_xor_parts v.s.now v.a v.b v.n (omega arith) (omega arith))
