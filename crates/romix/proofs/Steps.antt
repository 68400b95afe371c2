-- One step, case by case; what it keeps of the state; and that the scratch with its working block wiped is all it goes by.
-- Assumes nothing.
use Rattle.std.proofs.Common.{◌≡◌, ℕ, zero, suc, ◌+◌, ◌*◌, ◌%◌, ◌<◌, ◌≤◌, ltb, List, length, sym, refl, ap, ◌∙◌, ap₂, zero-mul, arith, ltb-true, le-ltb, lt-ltb}
use lib.Seq.{length-sets}
use Rattle.lent.proofs.Picks.{pick_any}
use Rattle.romix.specs.declared.State.{State}
use Rattle.romix.specs.ROMix.{place}
use Rattle.romix.specs.Machine.{Room, Fit, get, put, at_x, clean, moved, more, first, forward, second, followed, finished, next, after}
use Rattle.romix.proofs.Blocks.{length-get}
use Rattle.romix.proofs.Clean.{clean-put, clean-followed, get-clean}

-- some block is stored
pub some_stored : (n w k : ℕ) → 0 < n → n ≤ w * k → 0 < w
some_stored n zero k h held = absurd (omega (arith, zero-mul k))
some_stored n (suc w) k h held = omega arith

module _ (t : State) (s : List ℕ) where
  pub next-first : t.pos < t.n → next t s ≡ first t s
  unfolding next
  next-first h = rw (lt-ltb _ _ h)

  -- j is the place that X names
  module _ (j : ℕ) (e : place t.n (get t (at_x t) s) ≡ j) (past : t.n ≤ t.pos) where
    pub next-forward : t.ahead < j % t.k → next t s ≡ forward t j s
    unfolding next
    next-forward h = rw (le-ltb _ _ past, e, lt-ltb _ _ h)

    pub next-second : j % t.k ≤ t.ahead → t.pos + 1 < 2 * t.n → next t s ≡ second t j s
    unfolding next
    next-second h k = rw (le-ltb _ _ past, e, le-ltb _ _ h, lt-ltb _ _ k)

    pub next-finished : j % t.k ≤ t.ahead → 2 * t.n ≤ t.pos + 1 → next t s ≡ finished t (more t) (second t j s).1
    unfolding next
    next-finished h k = rw (le-ltb _ _ past, e, le-ltb _ _ h, le-ltb _ _ k)

  -- the costs stay, and the position stays one of a lane: what holds of every such state holds of the next one
  pub next_any : (P : State → Type 0) → t.pos < 2 * t.n → ((lane pos ahead made : ℕ) → pos < 2 * t.n → P (moved t lane pos ahead made)) → P (next t s).0
  unfolding next first forward second finished
  next_any P h all =
      pick_any (λ (c : State × List ℕ). P c.0) (ltb t.pos t.n) _ _
      (λ e. let less = ltb-true t.pos t.n e in all _ _ _ _ (omega arith))
      (λ _. pick_any (λ (c : State × List ℕ). P c.0) (ltb t.ahead (place t.n (get t (at_x t) s) % t.k)) _ _
      (λ _. all _ _ _ _ h)
      (λ _. pick_any (λ (c : State × List ℕ). P c.0) (ltb (t.pos + 1) (2 * t.n)) _ _
      (λ e. all _ _ _ _ (ltb-true _ _ e))
      (λ _. all _ _ _ _ (omega arith))))

  pub clean-finished : (made : ℕ) → Room t (length s) → t.lane < t.p → ((finished t made s).0, clean t (finished t made s).1) ≡ finished t made (clean t s)
  unfolding finished
  clean-finished made fits h =
      let x = get t (at_x t) s in
      ap (λ (l : List ℕ). (moved t (t.lane + 1) 0 0 made, l))
      (clean-followed t (put t t.lane x s) (t.lane + 1) (rw length-sets fits)
      ∙ ap (followed t (t.lane + 1)) (clean-put t t.lane x s (length-get (at_x t) s fits (omega arith)) (omega arith) ∙ ap (λ (v : List ℕ). put t t.lane v (clean t s)) (sym (get-clean t (at_x t) s (omega arith)))))

-- ---- running

pub after_more : (m : ℕ) (t : State) (s : List ℕ) → t.lane < t.p → after (suc m) t s ≡ after m (next t s).0 (next t s).1
unfolding after
after_more m t s h = rw (lt-ltb _ _ h)

pub after_done : (m : ℕ) (t : State) (s : List ℕ) → t.p ≤ t.lane → after m t s ≡ (t, s)
unfolding after
after_done zero t s h = refl
after_done (suc m) t s h = rw (le-ltb _ _ h)

pub clean_same : (t u : State) (s : List ℕ) → u.p ≡ t.p → u.r ≡ t.r → clean u s ≡ clean t s
unfolding clean
clean_same t u s p r = rw (p, r)

-- the invariant of a run: what is left to do from here gives what all of it gave from the start
pub record Running (t : State) (s₀ : List ℕ) (all : ℕ) (u : State) (s : List ℕ) (left : ℕ) : Type 0 where
  pub lanes : u.p ≡ t.p
  pub size : u.r ≡ t.r
  pub fit : Fit u (length s)
  pub long : length s ≡ length s₀
  pub rest : after left u (clean t s) ≡ after all t (clean t s₀)

-- a fit state is fit elsewhere in a lane, so a step keeps it so
pub fit_moved : (t : State) (lane pos ahead made : ℕ) {long : ℕ} → Fit t long → pos < 2 * t.n → Fit (moved t lane pos ahead made) long
fit_moved t lane pos ahead made fit h =
    record {
      within = record { thin = fit.within.thin; wide = fit.within.wide; room = fit.within.room };
      some = fit.some;
      small = fit.small;
      word = fit.word;
      space = fit.space;
      held = fit.held;
      turned = h;
    }

pub fit_next : (t : State) (s : List ℕ) {long : ℕ} → Fit t long → Fit (next t s).0 long
fit_next t s {long} fit = next_any t s (λ u. Fit u long) fit.turned (λ lane pos ahead made h. fit_moved t lane pos ahead made fit h)

pub running_more : (t : State) (s₀ : List ℕ) (all : ℕ) (u : State) (s : List ℕ) (left : ℕ) (u' : State) (s' : List ℕ)
    → Running t s₀ all u s (suc left) → u.lane < u.p → length s' ≡ length s → (u', clean u s') ≡ next u (clean u s)
    → Running t s₀ all u' s' left
running_more t s₀ all u s left u' s' was going kept e =
    let state : u' ≡ (next u (clean u s)).0 = ap (λ (c : State × List ℕ). c.0) e in
    let bytes : clean u s' ≡ (next u (clean u s)).1 = ap (λ (c : State × List ℕ). c.1) e in
    record {
      lanes = rw state (next_any u (clean u s) (λ v. v.p ≡ t.p) was.fit.turned (λ _ _ _ _ _. was.lanes));
      size = rw state (next_any u (clean u s) (λ v. v.r ≡ t.r) was.fit.turned (λ _ _ _ _ _. was.size));
      fit = rw (state, kept) (fit_next u (clean u s) was.fit);
      long = kept ∙ was.long;
      rest =
          ap₂ (after left) state (sym (clean_same t u s' was.lanes was.size) ∙ bytes)
          ∙ sym (after_more left u (clean u s) going)
          ∙ ap (after (suc left) u) (clean_same t u s was.lanes was.size)
          ∙ was.rest;
    }
