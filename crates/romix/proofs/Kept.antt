-- Each step keeps the scratch as RFC 7914 has it, case by case. Assumes nothing.
use Rattle.std.proofs.Common.{◌≡◌, ℕ, zero, suc, ◌+◌, ◌-◌, ◌*◌, ◌/◌, ◌%◌, ◌^◌, ◌<◌, ◌≤◌, eqb, ltb, ◌≢◌, ◌⊎◌, List, length, sym, refl, ap, ◌∙◌, ap₂, inl, inr, mul-le-mul_right, mod-lt, div-add-mod', add-one, arith, le-ltb, lt-ltb, eqb-true}
use native.Mathlib.Decide.{dec_le}
use borrow.Author.Tests.{eqb-false}
use lib.ListN.{length-replicate}
use lib.Seq.{sets, length-sets}
use Rattle.lent.specs.Bytes.{xors, zeros}
use Rattle.lent.proofs.Parts.{part-sets_before}
use Rattle.lent.proofs.Picks.{pick_any}
use Rattle.mixing.specs.BlockMix.{block_mix}
use Rattle.mixing.proofs.Laws.{length-block_mix}
use Rattle.romix.specs.declared.State.{State}
use Rattle.romix.specs.ROMix.{Vᵢ, place, entering, ro_mix, sum, named, mixings}
use Rattle.romix.specs.Machine.{Room, Fit, block, get, put, at_x, at_step, at_stored, moved, more, first, kept, forward, second, settled, source, finished, followed, loaded, next}
use Rattle.romix.proofs.Sums.{sum_zero}
use Rattle.romix.proofs.Steps.{some_stored, fit_moved, next-first, next-forward, next-second, next-finished}
use Rattle.romix.proofs.Blocks.{get-put_same, get-put_other, length-get}
use Rattle.romix.proofs.Meaning.{Holds, far, spent, total, spent_less, more_is, V_zero, V_suc, entering_zero, entering_suc, length-entering, kept_low, kept_same, kept_other}

only_zero : (q k : ℕ) → 0 < k → q * k ≤ 0 → q ≡ 0
only_zero zero k pos h = refl
only_zero (suc q) k pos h = absurd (omega arith)

length-kept : (t : State) (m : ℕ) (s : List ℕ) → length (kept t m s) ≡ length s
unfolding kept
length-kept t m s =
    pick_any (λ (l : List ℕ). length l ≡ length s) (eqb (m % t.k) 0) _ _
    (λ _. pick_any (λ (l : List ℕ). length l ≡ length s) (ltb m t.n) _ _ (λ _. rw length-sets) (λ _. refl))
    (λ _. refl)

-- a lane begins: X and V[0] are its block
pub loaded_holds : (B : ℕ → List ℕ) (t : State) (lane made : ℕ) (s : List ℕ) → Fit t (length s) → lane < t.p
    → ((l : ℕ) → l < lane → get t l s ≡ ro_mix t.r t.n (B l)) → ((l : ℕ) → lane ≤ l → l < t.p → get t l s ≡ B l)
    → made ≡ sum lane (λ l. mixings t.k t.r t.n (B l)) → Holds B (moved t lane 0 0 made) (loaded t lane s)
unfolding loaded
loaded_holds B t lane made s fit going done left count =
    record {
      fit = rw (length-sets, length-sets) (fit_moved t _ _ _ _ fit (omega (arith, fit.some)));
      going = going;
      done = λ l q. lane-kept l (omega arith) ∙ done l q;
      left = λ l q e. lane-kept l e ∙ left l q e;
      climbing = λ q. x_there ∙ V_zero t.r (B lane);
      turning = λ q. absurd (omega (arith, fit.some));
      stored = λ q low e.
          (let none = only_zero q t.k fit.space e in
          ap (λ (i : ℕ). get t (at_stored t i) s') none ∙ first_there ∙ V_zero t.r (B lane) ∙ ap (Vᵢ t.r (B lane)) (omega arith));
      stepped = λ q. absurd (omega arith);
      within = λ q. absurd (omega arith);
      made = count ∙ (let start : 0 - t.n ≡ 0 = omega arith in rw (start, sum_zero) (omega arith));
    }
  where
    b : List ℕ
    b = get t lane s

    s' : List ℕ
    s' = put t (at_stored t 0) b (put t (at_x t) b s)

    b_long : length b ≡ block t
    b_long = length-get lane s fit.within (omega arith)

    lane-kept : (l : ℕ) → l < t.p → get t l s' ≡ get t l s
    lane-kept l q = get-put_other t (at_stored t 0) l b (put t (at_x t) b s) b_long (omega arith) ∙ get-put_other t (at_x t) l b s b_long (omega arith)

    x_there : get t (at_x t) s' ≡ B lane
    x_there =
        get-put_other t (at_stored t 0) (at_x t) b (put t (at_x t) b s) b_long (omega arith)
        ∙ get-put_same (at_x t) b s fit.within (omega arith) b_long ∙ left lane (omega arith) going

    first_there : get t (at_stored t 0) s' ≡ B lane
    first_there =
        let some = some_stored t.n t.w t.k fit.some fit.held in
        get-put_same {t = t} (at_stored t 0) b (put t (at_x t) b s) (rw length-sets fit.within) (omega arith) b_long ∙ left lane (omega arith) going

-- no lane is left
pub record Done (B : ℕ → List ℕ) (t : State) (s : List ℕ) : Type 0 where
  pub ended : t.p ≤ t.lane
  pub lanes : (l : ℕ) → l < t.p → get t l s ≡ ro_mix t.r t.n (B l)
  pub made : t.made ≡ total B t

module _ (B : ℕ → List ℕ) (t : State) (s : List ℕ) (long : (l : ℕ) → l < t.p → length (B l) ≡ block t) (small : total B t < 2 ^ 64) (was : Holds B t s) where
  made_more : more t ≡ spent B t t.lane t.pos t.ahead + 1
  made_more = more_is B t _ small (spent_less B t t.lane t.pos t.ahead was.going was.fit.turned was.within) was.made

  -- ---- the first pass

  module _ (h : t.pos < t.n) where
    x : List ℕ
    x = block_mix t.r (get t (at_x t) s)

    x_is : x ≡ Vᵢ t.r (B t.lane) (t.pos + 1)
    unfolding x
    x_is = ap (block_mix t.r) (was.climbing (omega arith)) ∙ V_suc t.r (B t.lane) t.pos ∙ ap (Vᵢ t.r (B t.lane)) (sym (add-one t.pos))

    x_long : length x ≡ block t
    unfolding x
    x_long = length-block_mix t.r (get t (at_x t) s)

    s₁ : List ℕ
    s₁ = put t (at_x t) x s

    fits₁ : Room t (length s₁)
    unfolding s₁
    fits₁ = rw length-sets was.fit.within

    x_there : get t (at_x t) s₁ ≡ Vᵢ t.r (B t.lane) (t.pos + 1)
    unfolding s₁
    x_there = get-put_same (at_x t) x s was.fit.within (omega arith) x_long ∙ x_is

    else_there : (i : ℕ) → at_x t ≢ i → get t i s₁ ≡ get t i s
    unfolding s₁
    else_there i ne = get-put_other t (at_x t) i x s x_long ne

    pub first_holds : Holds B (first t s).0 (first t s).1
    unfolding first x s₁
    first_holds =
        record {
          fit = rw (length-kept, length-sets) (fit_moved t _ _ _ _ was.fit (omega arith));
          going = was.going;
          done = λ l k. kept_low t s₁ fits₁ (t.pos + 1) l (omega (arith, was.going)) ∙ else_there l (omega (arith, was.going)) ∙ was.done l k;
          left = λ l k m. kept_low t s₁ fits₁ (t.pos + 1) l (omega arith) ∙ else_there l (omega arith) ∙ was.left l k m;
          climbing = λ k. kept_low t s₁ fits₁ (t.pos + 1) (at_x t) (omega arith) ∙ x_there;
          turning = λ k. kept_low t s₁ fits₁ (t.pos + 1) (at_x t) (omega arith) ∙ x_there ∙ turned k;
          stored = stored₁;
          stepped = λ k. absurd (omega arith);
          within = λ k. absurd (omega arith);
          made = made_more ∙ counted;
        }
      where
        turned : t.n ≤ t.pos + 1 → Vᵢ t.r (B t.lane) (t.pos + 1) ≡ entering t.r t.n (B t.lane) (t.pos + 1 - t.n)
        turned k =
            let whole : t.pos + 1 ≡ t.n = omega arith in
            let none : t.pos + 1 - t.n ≡ 0 = omega arith in
            ap (Vᵢ t.r (B t.lane)) whole ∙ entering_zero t.r t.n (B t.lane) ∙ ap (entering t.r t.n (B t.lane)) (sym none)

        counted : spent B t t.lane t.pos t.ahead + 1 ≡ spent B t t.lane (t.pos + 1) 0
        counted =
            let before : sum (t.pos - t.n) (far B t t.lane) ≡ 0 = (let start : t.pos - t.n ≡ 0 = omega arith in rw (start, sum_zero)) in
            let after : sum (t.pos + 1 - t.n) (far B t t.lane) ≡ 0 = (let start : t.pos + 1 - t.n ≡ 0 = omega arith in rw (start, sum_zero)) in
            elim (dec_le 1 t.ahead) [ yes some ↦ absurd (omega (arith, (was.within some).0)) | no none ↦ omega arith ]

        stored₁ : (q : ℕ) → q * t.k < t.n → q * t.k ≤ t.pos + 1 → get t (at_stored t q) (kept t (t.pos + 1) s₁) ≡ Vᵢ t.r (B t.lane) (q * t.k)
        stored₁ q low k =
            elim (dec_le (q * t.k) t.pos) [
              | yes old ↦ kept_other t s₁ fits₁ was.fit.space was.fit.held q low (t.pos + 1) (omega arith) ∙ else_there (at_stored t q) (omega arith) ∙ was.stored q low old
              | no new ↦ (let at : q * t.k ≡ t.pos + 1 = omega arith in
                  kept_same t s₁ fits₁ was.fit.space was.fit.held q low (t.pos + 1) at ∙ x_there ∙ ap (Vᵢ t.r (B t.lane)) (sym at))
            ]

  -- ---- the second pass

  module _ (h : t.n ≤ t.pos) where
    -- the place of this turn
    j : ℕ
    j = named t.r t.n (B t.lane) (t.pos - t.n)

    j_is : place t.n (get t (at_x t) s) ≡ j
    unfolding j named
    j_is = ap (place t.n) (was.turning h)

    j_low : j < t.n
    unfolding j named place
    j_low = mod-lt _ was.fit.some

    below : ℕ
    below = j / t.k * t.k

    below_is : below + j % t.k ≡ j
    unfolding below
    below_is = div-add-mod' j t.k

    -- the block from which V[j] is reached
    source_is : get t (source t j) s ≡ Vᵢ t.r (B t.lane) (below + t.ahead)
    unfolding below j
    source_is =
        pick_any (λ (i : ℕ). get t i s ≡ Vᵢ t.r (B t.lane) (below + t.ahead)) (eqb t.ahead 0) _ _
        (λ e. let none : t.ahead ≡ 0 = eqb-true t.ahead 0 e in
        was.stored (j / t.k) (omega (arith, below_is, j_low)) (omega (arith, below_is, j_low)) ∙ ap (Vᵢ t.r (B t.lane)) (omega arith))
        (λ e. was.stepped (let some : t.ahead ≡ 0 → ⊥ = eqb-false t.ahead 0 e in omega arith))

    -- towards V[j]
    module _ (k : t.ahead < j % t.k) where
      y : List ℕ
      y = block_mix t.r (get t (source t j) s)

      y_long : length y ≡ block t
      unfolding y
      y_long = length-block_mix t.r (get t (source t j) s)

      y_is : y ≡ Vᵢ t.r (B t.lane) (below + (t.ahead + 1))
      unfolding y
      y_is =
          let one : suc (below + t.ahead) ≡ below + (t.ahead + 1) = omega arith in
          ap (block_mix t.r) source_is ∙ V_suc t.r (B t.lane) (below + t.ahead) ∙ ap (Vᵢ t.r (B t.lane)) one

      other : (i : ℕ) → at_step t ≢ i → get t i (put t (at_step t) y s) ≡ get t i s
      other i ne = get-put_other t (at_step t) i y s y_long ne

      forward_holds : Holds B (forward t j s).0 (forward t j s).1
      unfolding forward y j below
      forward_holds =
          record {
            fit = rw length-sets (fit_moved t _ _ _ _ was.fit was.fit.turned);
            going = was.going;
            done = λ l m. other l (omega (arith, was.going)) ∙ was.done l m;
            left = λ l m o. other l (omega arith) ∙ was.left l m o;
            climbing = λ m. other (at_x t) (omega arith) ∙ was.climbing m;
            turning = λ m. other (at_x t) (omega arith) ∙ was.turning m;
            stored = λ q low m. other (at_stored t q) (omega arith) ∙ was.stored q low m;
            stepped = λ m. get-put_same (at_step t) y s was.fit.within (omega arith) y_long ∙ y_is;
            within = λ m. (h, omega arith);
            made = made_more ∙ omega arith;
          }

    -- at V[j]
    module _ (k : j % t.k ≤ t.ahead) where
      ahead_is : t.ahead ≡ j % t.k
      unfolding j
      ahead_is = elim (dec_le 1 t.ahead) [ yes some ↦ omega (arith, (was.within some).1) | no none ↦ omega arith ]

      at_j : below + t.ahead ≡ j
      at_j = omega (arith, below_is, ahead_is)

      z : List ℕ
      z = block_mix t.r (xors (get t (at_x t) s) (get t (source t j) s))

      z_is : z ≡ entering t.r t.n (B t.lane) (suc (t.pos - t.n))
      unfolding z j
      z_is =
          ap₂ (λ (a b : List ℕ). block_mix t.r (xors a b)) (was.turning h) (source_is ∙ ap (Vᵢ t.r (B t.lane)) at_j)
          ∙ entering_suc t.r t.n (B t.lane) (t.pos - t.n)

      z_long : length z ≡ block t
      z_long = ap length z_is ∙ length-entering t.r t.n (B t.lane) (suc (t.pos - t.n)) (long t.lane was.going)

      -- the scratch after the turn
      s₂ : List ℕ
      s₂ = settled t (put t (at_x t) z s)

      fits₂ : Room t (length s₂)
      unfolding s₂ settled
      fits₂ = pick_any (λ (l : List ℕ). Room t (length l)) (eqb t.ahead 0) _ _ (λ _. rw length-sets was.fit.within) (λ _. rw (length-sets, length-sets) was.fit.within)

      long₂ : length s₂ ≡ length s
      unfolding s₂ settled
      long₂ = pick_any (λ (l : List ℕ). length l ≡ length s) (eqb t.ahead 0) _ _ (λ _. rw length-sets) (λ _. rw (length-sets, length-sets))

      settled_other : (i : ℕ) → at_step t ≢ i → get t i s₂ ≡ get t i (put t (at_x t) z s)
      unfolding s₂ settled
      settled_other i ne =
          pick_any (λ (l : List ℕ). get t i l ≡ get t i (put t (at_x t) z s)) (eqb t.ahead 0) _ _ (λ _. refl)
          (λ _. get-put_other t (at_step t) i (zeros (block t)) _ (length-replicate (block t) 0) ne)

      z_there : get t (at_x t) s₂ ≡ z
      z_there = settled_other (at_x t) (omega arith) ∙ get-put_same (at_x t) z s was.fit.within (omega arith) z_long

      rest_there : (i : ℕ) → at_x t ≢ i → at_step t ≢ i → get t i s₂ ≡ get t i s
      rest_there i ne no' = settled_other i no' ∙ get-put_other t (at_x t) i z s z_long ne

      one_more : t.pos + 1 - t.n ≡ suc (t.pos - t.n)
      one_more = omega arith

      counted : spent B t t.lane t.pos t.ahead + 1 ≡ spent B t t.lane (t.pos + 1) 0
      unfolding sum j
      counted = rw one_more (omega (arith, ahead_is))

      second_holds : t.pos + 1 < 2 * t.n → Holds B (second t j s).0 (second t j s).1
      unfolding second s₂ z
      second_holds m =
          record {
            fit = rw long₂ (fit_moved t _ _ _ _ was.fit m);
            going = was.going;
            done = λ l o. rest_there l (omega (arith, was.going)) (omega (arith, was.going)) ∙ was.done l o;
            left = λ l o q. rest_there l (omega arith) (omega arith) ∙ was.left l o q;
            climbing = λ o. absurd (omega arith);
            turning = λ o. z_there ∙ z_is ∙ ap (entering t.r t.n (B t.lane)) (sym one_more);
            stored = λ q low o. rest_there (at_stored t q) (omega arith) (omega arith) ∙ was.stored q low (omega arith);
            stepped = λ o. absurd (omega arith);
            within = λ o. absurd (omega arith);
            made = made_more ∙ counted;
          }

      -- the lane's last turn
      module _ (m : 2 * t.n ≤ t.pos + 1) where
        z_last : z ≡ ro_mix t.r t.n (B t.lane)
        unfolding ro_mix
        z_last = let all : suc (t.pos - t.n) ≡ t.n = omega (arith, was.fit.turned) in z_is ∙ ap (entering t.r t.n (B t.lane)) all

        s₃ : List ℕ
        s₃ = put t t.lane (get t (at_x t) s₂) s₂

        x_long₂ : length (get t (at_x t) s₂) ≡ block t
        x_long₂ = length-get (at_x t) s₂ fits₂ (omega arith)

        fits₃ : Room t (length s₃)
        unfolding s₃
        fits₃ = rw length-sets fits₂

        long₃ : length s₃ ≡ length s
        unfolding s₃
        long₃ = rw length-sets long₂

        lane_there : get t t.lane s₃ ≡ ro_mix t.r t.n (B t.lane)
        unfolding s₃
        lane_there = get-put_same t.lane (get t (at_x t) s₂) s₂ fits₂ (omega (arith, was.going)) x_long₂ ∙ z_there ∙ z_last

        others : (l : ℕ) → l < t.p → t.lane ≢ l → get t l s₃ ≡ get t l s
        unfolding s₃
        others l o ne = get-put_other t t.lane l (get t (at_x t) s₂) s₂ x_long₂ ne ∙ rest_there l (omega arith) (omega arith)

        finished-lanes : (l : ℕ) → l < t.lane + 1 → get t l s₃ ≡ ro_mix t.r t.n (B l)
        finished-lanes l o =
            elim (dec_le t.lane l) [
              | yes past ↦ (let here : t.lane ≡ l = omega arith in ap (λ (i : ℕ). get t i s₃) (sym here) ∙ lane_there ∙ ap (λ (i : ℕ). ro_mix t.r t.n (B i)) here)
              | no before ↦ others l (omega (arith, was.going)) (omega arith) ∙ was.done l (omega arith)
            ]

        made_lane : more t ≡ sum (t.lane + 1) (λ l. mixings t.k t.r t.n (B l))
        unfolding mixings sum
        made_lane =
            let all : t.pos + 1 - t.n ≡ t.n = omega (arith, was.fit.turned) in
            made_more ∙ counted ∙ rw (all, add-one t.lane) (omega (arith, was.fit.turned))

        -- ---- no lane is left

        last_done : t.p ≤ t.lane + 1 → Done B (finished t (more t) s₂).0 (finished t (more t) s₂).1
        unfolding finished followed s₃
        last_done o =
            let all : t.lane + 1 ≡ t.p = omega (arith, was.going) in
            record {
              ended = o;
              lanes = λ l q. rw (le-ltb _ _ o) (finished-lanes l (omega arith));
              made = made_lane ∙ ap (λ (i : ℕ). sum i (λ l. mixings t.k t.r t.n (B l))) all;
            }

        -- ---- the next lane begins

        module _ (o : t.lane + 1 < t.p) where
          s₄ : List ℕ
          s₄ = sets s₃ (at_stored t 0 * block t) (zeros (t.w * block t))

          unwiped : (l : ℕ) → l < t.p → get t l s₄ ≡ get t l s₃
          unfolding s₄
          unwiped l q = part-sets_before (l * block t) (block t) s₃ (at_stored t 0 * block t) (zeros (t.w * block t)) (omega (arith, mul-le-mul_right (block t) q))

          next-lane : Holds B (finished t (more t) s₂).0 (finished t (more t) s₂).1
          unfolding finished followed s₃ s₄
          next-lane =
              rw (lt-ltb _ _ o)
              (loaded_holds B t (t.lane + 1) (more t) s₄ (rw (length-sets, long₃) was.fit) o
              (λ l q. unwiped l (omega arith) ∙ finished-lanes l q)
              (λ l q e. unwiped l e ∙ others l e (omega arith) ∙ was.left l (omega arith) e)
              made_lane)

  -- ---- any step

  pub next-kept : Holds B (next t s).0 (next t s).1 ⊎ Done B (next t s).0 (next t s).1
  unfolding second s₂ z
  next-kept =
      elim (dec_le t.n t.pos) [
        | yes past ↦ elim (dec_le (j past % t.k) t.ahead) [
          | yes there ↦ elim (dec_le (2 * t.n) (t.pos + 1)) [
            | yes last ↦ elim (dec_le t.p (t.lane + 1)) [
              | yes none ↦ rw (next-finished t s (j past) (j_is past) past there last) (inr (last_done past there last none))
              | no some ↦ rw (next-finished t s (j past) (j_is past) past there last) (inl (next-lane past there last (omega arith)))
            ]
            | no more' ↦ rw (next-second t s (j past) (j_is past) past there (omega arith)) (inl (second_holds past there (omega arith)))
          ]
          | no short ↦ rw (next-forward t s (j past) (j_is past) past (omega arith)) (inl (forward_holds past (omega arith)))
        ]
        | no before ↦ rw (next-first t s (omega arith)) (inl (first_holds (omega arith)))
      ]

  pub next_counted : (next t s).0.made ≡ t.made + 1
  unfolding next first forward second finished
  next_counted =
      pick_any (λ (c : State × List ℕ). c.0.made ≡ t.made + 1) (ltb t.pos t.n) _ _ (λ _. one)
      (λ _. pick_any (λ (c : State × List ℕ). c.0.made ≡ t.made + 1) (ltb t.ahead (place t.n (get t (at_x t) s) % t.k)) _ _ (λ _. one)
      (λ _. pick_any (λ (c : State × List ℕ). c.0.made ≡ t.made + 1) (ltb (t.pos + 1) (2 * t.n)) _ _ (λ _. one) (λ _. one)))
    where
      one : more t ≡ t.made + 1
      one = made_more ∙ ap (λ (c : ℕ). c + 1) (sym was.made)
