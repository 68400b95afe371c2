-- Laws of arrays that a loop fills from their first element on: `Filled` at place 0, and the elements of `tab`.
-- Assumes nothing.
use Rattle.std.proofs.Common.{◌≡◌, ℕ, zero, suc, ◌+◌, ◌<◌, ◌≤◌, List, length, get_or, set, sym, ◌∙◌, zero-add, arith}
use Rattle.lent.specs.Bytes.{tab}
use Rattle.lent.proofs.Parts.{sets_all}
use Rattle.lent.proofs.Tabs.{Filled, filled_more, filled_all, length-tab, tab-front}

-- one more element
pub filled_next : {l₀ l : List ℕ} {n i : ℕ} {f : ℕ → ℕ} (v : ℕ) → Filled l₀ 0 n f l i → i < n → v ≡ f i → Filled l₀ 0 n f (set l i v) (i + 1)
filled_next {l₀} {l} {n} {i} {f} v was h e = rw zero-add at (filled_more v was h e)

-- all of them
pub filled_whole : {l₀ l : List ℕ} {n i : ℕ} {f : ℕ → ℕ} → Filled l₀ 0 n f l i → n ≤ i → length l₀ ≡ n → l ≡ tab n f
filled_whole {l₀} {l} {n} {i} {f} was h e = filled_all was h ∙ sets_all l₀ (tab n f) (length-tab n f ∙ sym e)

module _ {A : Type 0} where
  pub get_or-tab : (n : ℕ) (f : ℕ → A) (i : ℕ) (d : A) → i < n → get_or (tab n f) i d ≡ f i
  get_or-tab zero f i d h = absurd (omega arith)
  get_or-tab (suc n) f zero d h = rw tab-front
  get_or-tab (suc n) f (suc i) d h = rw (tab-front n f) (get_or-tab n (λ j. f (suc j)) i d (omega arith))
