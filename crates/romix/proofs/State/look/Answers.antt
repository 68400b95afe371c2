-- `romix::State::look` meets its contract: four bytes of X decide the place.
use Rattle.std.proofs.Common.{◌≡◌, ℕ, ◌+◌, ◌-◌, ◌*◌, ◌%◌, length, sym, ap, ◌∙◌, mod-lt, arith}
use Rattle.lent.specs.Bytes.{part}
use Rattle.lent.specs.Word.{of_le}
use Rattle.lent.proofs.Parts.{part-part}
use Rattle.romix.proofs.Blocks.{length-get}
use Rattle.romix.proofs.Places.{place_low}
use Rattle.romix.specs.Machine.{block, get}
use Rattle.romix.proofs.State.look.Goals as goal

pub returns : goal.returns
returns c =
    let t = c.args.self in
    let s = c.args.s.now in
    let X = get t t.p s in
    let long : length X ≡ block t = length-get t.p s c.requires.within (omega arith) in
    let at : c.at-last.result - 64 ≡ t.p * block t + (block t - 64) = omega (arith, c.at-last.ensures, c.requires.within.thin) in
    let four : part (c.at-last.result - 64) 4 s ≡ part (length X - 64) 4 X =
    rw (at, long) (sym (part-part (block t - 64) 4 (t.p * block t) (block t) s (omega (arith, c.requires.within.thin)))) in (
      sym (place_low t.n X c.requires.word (omega (arith, c.requires.within.thin)) ∙ ap (λ (v : ℕ). v % t.n) (sym (c.get.ensures ∙ ap of_le four))),
      mod-lt _ c.requires.some,
    )
