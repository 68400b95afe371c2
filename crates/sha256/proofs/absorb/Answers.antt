-- `sha256::absorb` meets its contract: the library's chunks are the blocks.
use Rattle.std.proofs.Common.{◌≡◌, ap, ◌∙◌, refl}
use Rattle.std.specs.List.{fold}
use Rattle.std.proofs.lemmas.Fn.{fold_over, slice_gives, fronts}
use Rattle.std.proofs.lemmas.List.Sums.{fold_push}
use Rattle.sha256.specs.Sha256.{compress}
use Rattle.sha256.proofs.Laws.{absorb_folds}
use Rattle.sha256.proofs.absorb.Goals as goal

pub returns : goal.returns
returns c =
    let h = c.args.h in
    let made : c.fold.result ≡ fold compress h c.iter.result.rest.now =
    fold_over fronts (λ y. y.now) _ (λ xs y. y ≡ fold compress h xs) _ (λ xs y x z f e called. (rw (fold_push, ← e) called.met, refl)) c.iter.result c.iter.result.rest.now h c.fold.result (slice_gives c.iter.result) refl c.fold.ensures.ran in
    made ∙ ap (fold compress h) (c.iter.ensures.rest ∙ c.as_chunks.ensures.front) ∙ absorb_folds h c.args.s.now
