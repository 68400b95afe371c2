-- `pbkdf2::masked` meets its contract: the loop stores the masked bytes in order.
use Rattle.std.proofs.Common.{rules, ◌≡◌, length, refl, sym, ap, ◌∙◌, get_or, replicate}
use lib.Bits.{bit_xor}
use lib.ListN.{get_or-replicate}
use Rattle.lent.specs.Bytes.{tab}
use Rattle.lent.proofs.Tabs.{filled_none, tab_ext, tab-xors}
use Rattle.lent.proofs.Arrays.{filled_next, filled_whole}
use Rattle.pbkdf2.specs.Hmac.{masked}
use Rattle.pbkdf2.proofs.masked.Goals as goal

pub loop-i-init : goal.loop-i-init
loop-i-init c = filled_none _ _ _ _

pub loop-i-preserved : goal.loop-i-preserved
loop-i-preserved c = filled_next _ c.loop-i.invariant c.loop-i-test.true refl

pub returns : goal.returns
unfolding masked
returns c =
    let k = c.args.k in
    let pad = c.args.pad in
    let pads = replicate 64 pad in
    let long : length k ≡ 64 = search rules in
    let made : tab 64 (λ j. bit_xor (get_or k j 0) pad) ≡ tab (length k) (λ j. bit_xor (get_or k j 0) (get_or pads j 0)) =
    rw long (tab_ext 64 _ _ (λ j h. ap (bit_xor (get_or k j 0)) (sym (get_or-replicate 64 j pad 0 h)))) in
    filled_whole c.loop-i.invariant c.loop-i-test.false refl ∙ made ∙ tab-xors k pads long
