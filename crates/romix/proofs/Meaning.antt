-- What the machine's scratch holds, in RFC 7914's words, and that each step keeps it so.
-- The lane's X is V[pos] in the first pass and X as it enters turn pos - N in the second; stored block q is V[qk]; the block stepped forward is `ahead` mixings past the stored one.
-- Assumes nothing.
use Rattle.std.proofs.Common.{◌≡◌, ℕ, zero, suc, ◌+◌, ◌-◌, ◌*◌, ◌/◌, ◌%◌, ◌^◌, ◌<◌, ◌≤◌, eqb, ltb, ◌≢◌, List, length, sym, refl, ap, ◌∙◌, mod-eq_of_lt, lt_of_mul-lt-mul_right, div-add-mod', mul-div_cancel, arith, lt-ltb, eq-eqb, eqb-true}
use native.Mathlib.Nat.{mul-mod_left}
use native.Mathlib.Decide.{dec_le}
use Rattle.lent.specs.Bytes.{xors}
use Rattle.lent.proofs.Picks.{pick_any}
use Rattle.mixing.specs.BlockMix.{block_mix}
use Rattle.mixing.proofs.Laws.{length-block_mix}
use Rattle.romix.specs.declared.State.{State}
use Rattle.romix.specs.ROMix.{Vᵢ, turn, entering, ro_mix, sum, named, mixings}
use Rattle.romix.specs.Machine.{Room, Fit, blocks, get, at_x, at_step, at_stored, more, kept}
use Rattle.romix.proofs.Sums.{sum_zero, sum_below}
use Rattle.romix.proofs.Blocks.{get-put_same, get-put_other, length-get}

-- ---- the RFC's definitions, one step at a time

pub V_zero : (r : ℕ) (B : List ℕ) → B ≡ Vᵢ r B 0
unfolding Vᵢ
V_zero r B = refl

pub V_suc : (r : ℕ) (B : List ℕ) (i : ℕ) → block_mix r (Vᵢ r B i) ≡ Vᵢ r B (suc i)
unfolding Vᵢ
V_suc r B i = refl

pub entering_zero : (r N : ℕ) (B : List ℕ) → Vᵢ r B N ≡ entering r N B 0
unfolding entering
entering_zero r N B = refl

pub entering_suc : (r N : ℕ) (B : List ℕ) (i : ℕ) → block_mix r (xors (entering r N B i) (Vᵢ r B (named r N B i))) ≡ entering r N B (suc i)
unfolding entering turn named
entering_suc r N B i = refl

pub length_V : (r : ℕ) (B : List ℕ) (i : ℕ) → length B ≡ 128 * r → length (Vᵢ r B i) ≡ 128 * r
unfolding Vᵢ
length_V r B zero h = h
length_V r B (suc i) h = length-block_mix r (Vᵢ r B i)

pub length-entering : (r N : ℕ) (B : List ℕ) (i : ℕ) → length B ≡ 128 * r → length (entering r N B i) ≡ 128 * r
unfolding entering turn
length-entering r N B zero h = length_V r B N h
length-entering r N B (suc i) h = length-block_mix r _

-- ---- the scratch in the RFC's words

-- how far ahead of the nearest stored block the place of the lane's turn i lies
abbrev pub far : (ℕ → List ℕ) → State → ℕ → ℕ → ℕ
far B t l i = named t.r t.n (B l) i % t.k

-- mixings made by the time a lane has come so far
abbrev pub spent : (ℕ → List ℕ) → State → ℕ → ℕ → ℕ → ℕ
spent B t lane pos ahead = sum lane (λ l. mixings t.k t.r t.n (B l)) + pos + sum (pos - t.n) (far B t lane) + ahead

-- all that a derivation makes
abbrev pub total : (ℕ → List ℕ) → State → ℕ
total B t = sum t.p (λ l. mixings t.k t.r t.n (B l))

pub record Holds (B : ℕ → List ℕ) (t : State) (s : List ℕ) : Type 0 where
  pub fit : Fit t (length s)
  pub going : t.lane < t.p
  pub done : (l : ℕ) → l < t.lane → get t l s ≡ ro_mix t.r t.n (B l)
  pub left : (l : ℕ) → t.lane ≤ l → l < t.p → get t l s ≡ B l
  pub climbing : t.pos ≤ t.n → get t (at_x t) s ≡ Vᵢ t.r (B t.lane) t.pos
  pub turning : t.n ≤ t.pos → get t (at_x t) s ≡ entering t.r t.n (B t.lane) (t.pos - t.n)
  pub stored : (q : ℕ) → q * t.k < t.n → q * t.k ≤ t.pos → get t (at_stored t q) s ≡ Vᵢ t.r (B t.lane) (q * t.k)
  pub stepped : 0 < t.ahead → get t (at_step t) s ≡ Vᵢ t.r (B t.lane) (named t.r t.n (B t.lane) (t.pos - t.n) / t.k * t.k + t.ahead)
  pub within : 0 < t.ahead → (t.n ≤ t.pos) × (t.ahead ≤ far B t t.lane (t.pos - t.n))
  pub made : t.made ≡ spent B t t.lane t.pos t.ahead

-- ---- what a step writes, read again

module _ (t : State) (s : List ℕ) (fits : Room t (length s)) where
  -- what is stored of X
  pub kept_low : (m i : ℕ) → i < t.p + 3 → get t i (kept t m s) ≡ get t i s
  unfolding kept
  kept_low m i h =
      pick_any (λ (l : List ℕ). get t i l ≡ get t i s) (eqb (m % t.k) 0) _ _
      (λ _. pick_any (λ (l : List ℕ). get t i l ≡ get t i s) (ltb m t.n) _ _
      (λ _. get-put_other t (at_stored t (m / t.k)) i (get t (at_x t) s) s (length-get (at_x t) s fits (omega arith)) (omega arith))
      (λ _. refl))
      (λ _. refl)

  module _ (space : 0 < t.k) (held : t.n ≤ t.w * t.k) (q : ℕ) (low : q * t.k < t.n) where
    slot_low : at_stored t q < blocks t
    slot_low = let less : q < t.w = lt_of_mul-lt-mul_right t.k (omega arith) in omega arith

    pub kept_same : (m : ℕ) → q * t.k ≡ m → get t (at_stored t q) (kept t m s) ≡ get t (at_x t) s
    unfolding kept
    kept_same m e =
        let divides : m % t.k ≡ 0 = rw (← e) (mul-mod_left q t.k) in
        let at : m / t.k ≡ q = rw (← e) (mul-div_cancel q space) in
        let less : m < t.n = omega arith in
        rw (eq-eqb _ _ divides, lt-ltb _ _ less, at) (get-put_same (at_stored t q) (get t (at_x t) s) s fits slot_low (length-get (at_x t) s fits (omega arith)))

    pub kept_other : (m : ℕ) → q * t.k ≢ m → get t (at_stored t q) (kept t m s) ≡ get t (at_stored t q) s
    unfolding kept
    kept_other m ne =
        pick_any (λ (l : List ℕ). get t (at_stored t q) l ≡ get t (at_stored t q) s) (eqb (m % t.k) 0) _ _
        (λ divides. pick_any (λ (l : List ℕ). get t (at_stored t q) l ≡ get t (at_stored t q) s) (ltb m t.n) _ _
        (λ _. get-put_other t (at_stored t (m / t.k)) (at_stored t q) (get t (at_x t) s) s (length-get (at_x t) s fits (omega arith)) (away (eqb-true _ _ divides)))
        (λ _. refl))
        (λ _. refl)
      where
        away : m % t.k ≡ 0 → at_stored t (m / t.k) ≢ at_stored t q
        away divides e =
            let same : m / t.k ≡ q = omega arith in
            let whole : m / t.k * t.k + m % t.k ≡ m = div-add-mod' m t.k in
            ne (ap (λ (i : ℕ). i * t.k) (sym same) ∙ omega arith)

-- ---- the count

module _ (B : ℕ → List ℕ) (t : State) where
  -- what a lookup has stepped forward is no more than it has to
  abbrev pub Bounded : ℕ → ℕ → ℕ → Type 0
  Bounded lane pos ahead = 0 < ahead → (t.n ≤ pos) × (ahead ≤ far B t lane (pos - t.n))

  lane_less : (lane pos ahead : ℕ) → pos < 2 * t.n → Bounded lane pos ahead → pos + sum (pos - t.n) (far B t lane) + ahead < mixings t.k t.r t.n (B lane)
  unfolding mixings
  lane_less lane pos ahead turned within =
      elim (dec_le t.n pos) [
        | yes past ↦ (let turns : sum (pos - t.n) (far B t lane) + far B t lane (pos - t.n) ≤ sum t.n (far B t lane) = sum_below (pos - t.n) t.n (far B t lane) (omega arith) in
            elim (dec_le 1 ahead) [ yes some ↦ (let bound = (within some).1 in omega arith) | no none ↦ omega arith ])
        | no before ↦
            (let none : sum (pos - t.n) (far B t lane) ≤ 0 = (let start : pos - t.n ≡ 0 = omega arith in rw (start, sum_zero) (omega arith)) in
            elim (dec_le 1 ahead) [ yes some ↦ absurd (before (within some).0) | no never ↦ omega arith ])
      ]

  -- while a lane is unfinished, fewer mixings are made than there will be
  pub spent_less : (lane pos ahead : ℕ) → lane < t.p → pos < 2 * t.n → Bounded lane pos ahead → spent B t lane pos ahead < total B t
  spent_less lane pos ahead going turned within =
      let f : ℕ → ℕ = λ l. mixings t.k t.r t.n (B l) in
      let lanes : sum lane f + f lane ≤ total B t = sum_below lane t.p f going in
      let here = lane_less lane pos ahead turned within in
      omega arith

  -- so the count does not wrap
  pub more_is : (m : ℕ) → total B t < 2 ^ 64 → m < total B t → t.made ≡ m → more t ≡ m + 1
  more_is m small less e = mod-eq_of_lt (omega arith) ∙ ap (λ (c : ℕ). c + 1) e
