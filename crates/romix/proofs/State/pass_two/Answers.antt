-- `romix::State::pass_two` meets its contract: X xor V[j] goes by way of the working block.
use Rattle.std.proofs.Common.{ℕ, ◌+◌, List, length, ap, ◌∙◌, ap₂}
use lib.Seq.{length-sets}
use Rattle.lent.specs.Bytes.{xors}
use Rattle.romix.proofs.Blocks.{source_in}
use Rattle.romix.proofs.Clean.{made_xored, clean-settled}
use Rattle.romix.specs.declared.State.{State}
use Rattle.romix.specs.Machine.{Room, clean, second, settled, source, mixed, put, get, moved}
use Rattle.romix.proofs.State.pass_two.Goals as goal

pub returns : goal.returns
unfolding second
returns c =
    let t = c.args.self in
    let lies = source_in t c.args.j c.requires.0 c.requires.1 in
    let s = c.args.s.now in
    let made = c.mix-made.ensures in
    let xored = c.xor_blocks.ensures ∙ ap (λ (i : ℕ). put t (t.p + 2) (xors (get t t.p s) (get t i s)) s) c.reach-from.ensures in
    let whole = c.settle.ensures ∙ ap (settled t) (made.1 ∙ ap (mixed t (t.p + 2) t.p) xored) in
    let fits : Room t (length (mixed t (t.p + 2) t.p (put t (t.p + 2) (xors (get t t.p s) (get t (source t c.args.j) s)) s))) = rw (length-sets, length-sets) c.requires.0.within in
    ap₂ (λ (u : State) (l : List ℕ). (u, l)) (c.moved.ensures ∙ ap (moved t t.lane (t.pos + 1) 0) made.0)
    (ap (clean t) whole ∙ clean-settled t _ fits ∙ ap (settled t) (made_xored t s c.requires.0.within (source t c.args.j) lies.0 lies.1))
