-- `romix::mix_lanes` meets its contract: the machine from its opening state, run to the end.
use Rattle.std.proofs.Common.{◌≡◌, ℕ, ◌+◌, ◌*◌, ◌≤◌, List, sym, ap, ◌∙◌, arith}
use Rattle.lent.proofs.Tabs.{part-joined, joined_ext}
use Rattle.romix.specs.declared.State.{State}
use Rattle.romix.specs.Machine.{opening, get, loaded, clean, after}
use Rattle.romix.proofs.Clean.{get-clean}
use Rattle.romix.proofs.Meaning.{total}
use Rattle.romix.proofs.Runs.{Ended, runs_all, total_most}
use Rattle.romix.proofs.mix_lanes.Goals as goal

pub returns : goal.returns
returns c =
    let v = c.args in
    let t : State = opening v.n v.r v.p v.k v.w in
    let s : List ℕ = v.s.now in
    let B : ℕ → List ℕ = λ l. get t l s in
    let most : total B t ≤ v.p * (v.n * (v.k + 1)) = total_most B t c.requires.0.space in
    let ended : Ended B t (after v.allowance t (clean t (loaded t 0 s))) =
    runs_all t s v.allowance c.requires.0 c.requires.1 (omega (arith, c.ranges.allowance)) (omega (arith, c.requires.2)) in
    let run : (c.run-end.result, clean t c.run-end.new.s) ≡ after v.allowance t (clean t (loaded t 0 s)) =
    c.run-end.ensures ∙ ap (λ (l : List ℕ). after v.allowance t (clean t l)) c.load.ensures in (
      ap (λ (d : State × List ℕ). d.0.made) run ∙ ended.made,
      part-joined v.p (128 * v.r) _
          ∙ joined_ext v.p _ _ (λ l h. sym (get-clean t l _ (omega arith)) ∙ ap (λ (d : State × List ℕ). get t l d.1) run ∙ ended.lanes l h),
    )
