-- The colon that parts a text is its last: it is one, none stands after it, and no other place has both.
-- By induction on how far the search has gone.
-- Assumes nothing.
use mathlib.Core.Path.{◌≡◌, refl, sym, ap, ◌∙◌}
use mathlib.Core.Bool.{Bool, true, false}
use mathlib.Core.List.{List}
use Prim.Native.Nat.{ℕ, zero, suc, ◌+◌, ◌≤◌, ◌<◌}
use native.Mathlib.Decide.{dec_lt}
use native.Mathlib.Omega.{arith}
use lib.Dec.{eqb}
use lib.ListN.{length, get_or}
use borrow.Author.Tests.{eqb-true, eqb-false}
use Rattle.lent.specs.Bytes.{pick}
use Rattle.text.specs.Login.{colon, last_below, colon_place}

-- place j of the text holds a colon
abbrev pub Colon : List ℕ → ℕ → Type 0
Colon text j = get_or text j 0 ≡ colon

-- What the search below i found at place `at`: a colon, unless `at` is the text's length; and none lies after it, nor anywhere where it found none.
pub record Last (text : List ℕ) (i at : ℕ) : Type 0 where
  pub within : at ≤ length text
  pub held : at < length text → Colon text at
  pub after : (j : ℕ) → j < i → (at < length text → at < j) → Colon text j → ⊥

pub last_is : (i : ℕ) (text : List ℕ) → i ≤ length text → Last text i (last_below i text)
unfolding last_below
last_is zero text h = record { within = omega arith; held = λ k. absurd (omega arith); after = λ j k past e. absurd (omega arith) }
last_is (suc i) text h = go (eqb (get_or text i 0) colon) refl (last_is i text (omega arith))
  where
    go : (b : Bool) → eqb (get_or text i 0) colon ≡ b → Last text i (last_below i text) → Last text (suc i) (pick b i (last_below i text))
    go true e rest =
        record { within = omega arith; held = λ k. eqb-true _ _ e; after = λ j k past c. (let p : i < j = past (omega arith) in omega arith) }
    go false e rest =
        record {
          within = rest.within;
          held = rest.held;
          after = λ j k past c.
              elim (dec_lt j i) [
                | yes low ↦ rest.after j low past c
                | no high ↦ (let same : j ≡ i = omega arith in eqb-false _ _ e (ap (λ (n : ℕ). get_or text n 0) (sym same) ∙ c))
              ];
        }

pub colon_is : (text : List ℕ) → Last text (length text) (colon_place text)
unfolding colon_place
colon_is text = last_is (length text) text (omega arith)

-- of two such places neither lies before the other
last_not_before : {text : List ℕ} {a b : ℕ} → Last text (length text) a → Last text (length text) b → a < b → ⊥
last_not_before {text} {a} {b} x y low =
    elim (dec_lt b (length text)) [
      | yes inside ↦ x.after b inside (λ k. low) (y.held inside)
      | no none ↦ (let here : a < length text = omega (arith, y.within) in y.after a here (λ k. absurd (omega arith)) (x.held here))
    ]

pub last_only : {text : List ℕ} {a b : ℕ} → Last text (length text) a → Last text (length text) b → a ≡ b
last_only {text} {a} {b} x y =
    elim (dec_lt a b) [
      | yes low ↦ absurd (last_not_before x y low)
      | no high ↦ elim (dec_lt b a) [ yes low ↦ absurd (last_not_before y x low) | no same ↦ omega arith ]
    ]

-- what `text::colon` answers: the place, where there is one
pub place_found : (text : List ℕ) (at : ℕ) → at < length text → get_or text at 0 ≡ colon → ((j : ℕ) → at + 1 ≤ j → j < length text → get_or text j 0 ≡ colon → ⊥) → colon_place text ≡ at
place_found text at inside held after =
    last_only (colon_is text) (record { within = omega arith; held = λ h. held; after = λ j k past c. after j (let p = past inside in omega arith) k c })

pub place_none : (text : List ℕ) → ((j : ℕ) → j < length text → get_or text j 0 ≡ colon → ⊥) → colon_place text ≡ length text
place_none text clean = last_only (colon_is text) (record { within = omega arith; held = λ h. absurd (omega arith); after = λ j k past c. clean j k c })
