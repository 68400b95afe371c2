-- `mixing::xored` meets its contract: the loop stores the words in order, each an exclusive or of two.
use Rattle.std.proofs.Common.{rules, ◌≡◌, length, ℕ, refl, sym, ap, ◌∙◌, get_or}
use lib.Bits.{bit_xor}
use Rattle.lent.specs.Bytes.{tab}
use Rattle.lent.proofs.Tabs.{filled_none, tab-xors}
use Rattle.lent.proofs.Arrays.{filled_next, filled_whole}
use Rattle.mixing.proofs.xored.Goals as goal

pub loop-j-init : goal.loop-j-init
loop-j-init c = filled_none _ _ _ _

pub loop-j-preserved : goal.loop-j-preserved
loop-j-preserved c = filled_next _ c.loop-j.invariant c.loop-j-test.true refl

pub returns : goal.returns
returns c =
    let y = c.args.y in
    let z = c.args.z in
    let long : length y ≡ 16 = search rules in
    let as_long : length z ≡ 16 = search rules in
    filled_whole c.loop-j.invariant c.loop-j-test.false refl
    ∙ ap (λ (n : ℕ). tab n (λ i. bit_xor (get_or y i 0) (get_or z i 0))) (sym long)
    ∙ tab-xors y z (long ∙ sym as_long)
