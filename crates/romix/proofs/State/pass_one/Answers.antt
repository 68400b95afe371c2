-- `romix::State::pass_one` meets its contract: X goes by way of the working block, and is stored where it is to be.
use Rattle.std.proofs.Common.{ℕ, ◌+◌, List, length, ap, ◌∙◌, ap₂, arith}
use lib.Seq.{length-sets}
use Rattle.romix.proofs.Clean.{clean-kept, made_mixed}
use Rattle.romix.specs.declared.State.{State}
use Rattle.romix.specs.Machine.{Room, clean, first, kept, mixed, put, get, moved}
use Rattle.romix.proofs.State.pass_one.Goals as goal

pub returns : goal.returns
unfolding first
returns c =
    let t = c.args.self in
    let s = c.args.s.now in
    let pos = t.pos + 1 in
    let made = c.mix-made.ensures in
    let whole = c.keep.ensures ∙ ap (kept t pos) (made.1 ∙ ap (mixed t (t.p + 2) t.p) c.copy_block.ensures) in
    let fits : Room t (length (mixed t (t.p + 2) t.p (put t (t.p + 2) (get t t.p s) s))) = rw (length-sets, length-sets) c.requires.within in
    ap₂ (λ (u : State) (l : List ℕ). (u, l)) (c.moved.ensures ∙ ap (moved t t.lane pos 0) made.0)
    (ap (clean t) whole
    ∙ clean-kept t _ fits pos
    ∙ ap (kept t pos) (made_mixed t s c.requires.within t.p t.p (omega arith) (omega arith) (omega arith)))
