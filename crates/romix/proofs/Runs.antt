-- The machine, run to the end, is RFC 7914's ROMix in each lane, and its count is the count of section 5's lookups.
-- By induction on the mixings that may still be made: a step keeps the scratch as the RFC has it, and raises the count by one.
-- Assumes nothing.
use Rattle.std.proofs.Common.{◌≡◌, ℕ, zero, suc, ◌+◌, ◌*◌, ◌^◌, ◌<◌, ◌≤◌, List, length, sym, ⊎_elim, arith}
use Rattle.romix.specs.declared.State.{State}
use Rattle.romix.specs.ROMix.{ro_mix}
use Rattle.romix.specs.Machine.{Fit, block, get, loaded, clean, moved, next, after}
use Rattle.romix.proofs.Sums.{sum_zero, sum_most, mixings_most}
use Rattle.romix.proofs.Blocks.{length-get}
use Rattle.romix.proofs.Clean.{get-clean, length-clean, clean-loaded}
use Rattle.romix.proofs.Steps.{after_more, after_done, next_any}
use Rattle.romix.proofs.Meaning.{Holds, total, spent_less}
use Rattle.romix.proofs.Kept.{loaded_holds, next-kept, next_counted}

-- what a run to the end leaves, said of the costs it began with
pub record Ended (B : ℕ → List ℕ) (t : State) (c : State × List ℕ) : Type 0 where
  pub lanes : (l : ℕ) → l < t.p → get t l c.1 ≡ ro_mix t.r t.n (B l)
  pub made : c.0.made ≡ total B t

pub runs : (B : ℕ → List ℕ) (m : ℕ) (t : State) (s : List ℕ) → ((l : ℕ) → l < t.p → length (B l) ≡ block t) → total B t < 2 ^ 64
    → Holds B t s → total B t ≤ t.made + m → Ended B t (after m t s)
runs B zero t s long small was h =
    absurd (omega (arith, spent_less B t t.lane t.pos t.ahead was.going was.fit.turned was.within, was.made))
runs B (suc m) t s long small was h =
    let u = (next t s).0 in
    let s' = (next t s).1 in
    let one = next_counted B t s long small was in
    rw (after_more m t s was.going)
    (next_any t s (λ v. Ended B v (after m u s') → Ended B t (after m u s')) was.fit.turned (λ _ _ _ _ _ e. record { lanes = e.lanes; made = e.made })
    (⊎_elim
    (λ keeps.
    runs B m u s'
    (next_any t s (λ v. (l : ℕ) → l < v.p → length (B l) ≡ block v) was.fit.turned (λ _ _ _ _ _. long))
    (next_any t s (λ v. total B v < 2 ^ 64) was.fit.turned (λ _ _ _ _ _. small))
    keeps
    (next_any t s (λ v. total B v ≤ u.made + m) was.fit.turned (λ _ _ _ _ _. omega arith)))
    (λ done. rw (after_done m u s' done.ended) (record { lanes = done.lanes; made = done.made }))
    (next-kept B t s long small was)))

-- from the first lane, loaded, with enough mixings allowed, whatever lies in the scratch behind the lanes
pub runs_all : (t : State) (s : List ℕ) (m : ℕ) → Fit t (length s) → 0 < t.p → total (λ l. get t l s) t < 2 ^ 64 → total (λ l. get t l s) t ≤ m
    → Ended (λ l. get t l s) t (after m (moved t 0 0 0 0) (clean t (loaded t 0 s)))
runs_all t s m fit some small enough =
    let lane : (l : ℕ) → l < t.p → get t l (clean t s) ≡ get t l s = λ l h. get-clean t l s (omega arith) in
    rw (clean-loaded t s fit.within 0 some)
    (of_same
    (runs (λ l. get t l s) m (moved t 0 0 0 0) (loaded t 0 (clean t s)) (λ l h. length-get l s fit.within (omega arith)) small
    (loaded_holds (λ l. get t l s) t 0 0 (clean t s) (rw length-clean fit) some (λ l h. absurd (omega arith)) (λ l _ h. lane l h) (sym (sum_zero _)))
    (omega arith)))
  where
    of_same : {B : ℕ → List ℕ} {c : State × List ℕ} → Ended B (moved t 0 0 0 0) c → Ended B t c
    of_same e = record { lanes = e.lanes; made = e.made }

-- never above p·N·(k + 1)
pub total_most : (B : ℕ → List ℕ) (t : State) → 0 < t.k → total B t ≤ t.p * (t.n * (t.k + 1))
total_most B t space = sum_most t.p (t.n * (t.k + 1)) _ (λ l h. mixings_most t.k t.r t.n (B l) space)
