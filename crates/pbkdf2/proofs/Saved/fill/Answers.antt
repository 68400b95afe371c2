-- `pbkdf2::Saved::fill` meets its contract: after i turns the first i pieces are laid out, as far as there is room.
use Rattle.std.proofs.Common.{rules, refl, sym, ap, ◌∙◌, add-one, arith, length}
use lib.Seq.{sets, take-nil}
use Rattle.lent.specs.Bytes.{joined}
use Rattle.pbkdf2.proofs.Laws.{length-piece, laid_more, laid_all}
use Rattle.pbkdf2.proofs.Saved.fill.Goals as goal

pub loop-i-init : goal.loop-i-init
unfolding joined
loop-i-init c = let out = c.args.out.now in (refl, ap (sets out 0) (sym (take-nil (length out))))

pub loop-i-preserved : goal.loop-i-preserved
loop-i-preserved c =
    let inv = c.loop-i.invariant in
    (search rules, rw (c.lay.ensures, c.piece.ensures, inv.0, inv.1, add-one) (laid_more _ (length-piece _ _ _ _ (search rules)) c.args.out.now c.loop-i.i (omega (arith, c.div_ceil-i-end.ensures))))

pub returns : goal.returns
returns c =
    let count = c.div_ceil-i-end.ensures in
    c.loop-i.invariant.1 ∙ laid_all _ (length-piece _ _ _ _ (search rules)) c.args.out.now c.loop-i.i (omega (arith, count)) (omega (arith, count))
