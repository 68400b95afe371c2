-- Laws of `tab`, of exclusive or and of comparison, each by its elements: what a loop over lent bytes has made after n turns.
-- Assumes nothing.
use Rattle.std.proofs.Common.{◌≡◌, ℕ, zero, suc, ◌+◌, ◌*◌, ◌<◌, ◌≤◌, Bool, true, false, ◌&&◌, eqb, List, [], ◌∷◌, ◌++◌, length, get_or, take, drop, set, sym, refl, ap, ◌∙◌, ap₂, suc-mul, mul-zero, mul-suc, zero-add, zero-mul, add-one, arith, length-append, length-set, get_or-drop, take-suc, eq-eqb, ne_eqb, eqb-true}
use Rattle.std.proofs.lemmas.Bool.{eqb-false}
use lib.Bits.{bit_xor, bit_or, or_add_and, xor_add_and, xor_self, and_le_l, and_le_r}
use lib.Seq.{sets}
use Rattle.lent.specs.Bytes.{part, zeros, tab, joined, xors, eqs}
use Rattle.lent.proofs.Parts.{sets-append, sets_snoc, length-part, get_or-part, part_add}

-- ---- what a filling loop has made

module _ {A : Type 0} where
  pub length-tab : (n : ℕ) (f : ℕ → A) → length (tab n f) ≡ n
  unfolding tab
  length-tab zero f = refl
  length-tab (suc n) f = rw (length-append, length-tab n f, add-one)

  pub tab_ext : (n : ℕ) (f g : ℕ → A) → ((i : ℕ) → i < n → f i ≡ g i) → tab n f ≡ tab n g
  unfolding tab
  tab_ext zero f g h = refl
  tab_ext (suc n) f g h = rw (tab_ext n f g (λ i k. h i (omega arith)), h n (omega arith))

  -- the elements of a list, in order
  pub tab-take : (n : ℕ) (l : List A) (d : A) → n ≤ length l → tab n (λ i. get_or l i d) ≡ take n l
  unfolding tab
  tab-take zero l d h = refl
  tab-take (suc n) l d h = rw (tab-take n l d (omega arith), take-suc l n d (omega arith))

  -- the elements of a part, in order
  pub tab-part : (at n : ℕ) (l : List A) (d : A) → n ≤ length (drop at l) → tab n (λ i. get_or l (at + i) d) ≡ part at n l
  tab-part at n l d h =
      tab_ext n (λ i. get_or l (at + i) d) (λ i. get_or (drop at l) i d) (λ i k. sym (get_or-drop at l i d)) ∙ tab-take n (drop at l) d h

  -- one more from the front
  pub tab-front : (n : ℕ) (f : ℕ → A) → tab (suc n) f ≡ f 0 ∷ tab n (λ i. f (suc i))
  unfolding tab
  tab-front zero f = refl
  tab-front (suc n) f = ap (λ (l : List A). l ++ (f (suc n) ∷ [])) (tab-front n f)

  -- ---- pieces laid one after the other

  pub joined_ext : (n : ℕ) (f g : ℕ → List A) → ((i : ℕ) → i < n → f i ≡ g i) → joined n f ≡ joined n g
  unfolding joined
  joined_ext zero f g h = refl
  joined_ext (suc n) f g h = rw (joined_ext n f g (λ i k. h i (omega arith)), h n (omega arith))

  pub length-joined : (n b : ℕ) (f : ℕ → List A) → ((i : ℕ) → i < n → length (f i) ≡ b) → length (joined n f) ≡ n * b
  unfolding joined
  length-joined zero b f h = sym (zero-mul b)
  length-joined (suc n) b f h = rw (length-append, length-joined n b f (λ i k. h i (omega arith)), h n (omega arith), suc-mul)

  -- the front of a list, cut into pieces of b
  pub part-joined : (n b : ℕ) (l : List A) → part 0 (n * b) l ≡ joined n (λ i. part (i * b) b l)
  unfolding joined
  part-joined zero b l = ap (λ (k : ℕ). part 0 k l) (zero-mul b)
  part-joined (suc n) b l =
      ap (λ (k : ℕ). part 0 k l) (suc-mul n b)
      ∙ part_add 0 (n * b) b l
      ∙ ap₂ ◌++◌ (part-joined n b l) (ap (λ (k : ℕ). part k b l) (zero-add (n * b)))

-- The invariant of a loop that stores f 0, f 1, .. f (n - 1) from place `at` on, after i turns; before the first; after one more; after the last.
pub record Filled (l₀ : List ℕ) (at n : ℕ) (f : ℕ → ℕ) (l : List ℕ) (i : ℕ) : Type 0 where
  pub is : l ≡ sets l₀ at (tab i f)
  pub kept : length l ≡ length l₀
  pub most : i ≤ n

pub filled_none : (l₀ : List ℕ) (at n : ℕ) (f : ℕ → ℕ) → Filled l₀ at n f l₀ 0
unfolding tab
filled_none l₀ at n f = record { is = refl; kept = refl; most = omega arith }

pub filled_more : {l₀ l : List ℕ} {at n i : ℕ} {f : ℕ → ℕ} (v : ℕ) → Filled l₀ at n f l i → i < n → v ≡ f i → Filled l₀ at n f (set l (at + i) v) (i + 1)
unfolding tab
filled_more {l₀} {l} {at} {n} {i} {f} v was h e =
    record {
      is = rw (was.is, e, add-one) (sets_snoc l₀ at (tab i f) i (f i) (length-tab i f));
      kept = rw length-set was.kept;
      most = omega arith;
    }

pub filled_all : {l₀ l : List ℕ} {at n i : ℕ} {f : ℕ → ℕ} → Filled l₀ at n f l i → n ≤ i → l ≡ sets l₀ at (tab n f)
filled_all {l₀} {l} {at} {n} {i} {f} was h = let e : i ≡ n = omega (arith, was.most) in rw (← e) was.is

-- The same for a loop that writes f 0, f 1, .. one behind the other from place `at` on, each of b elements.
pub record Laid (l₀ : List ℕ) (at b : ℕ) (f : ℕ → List ℕ) (l : List ℕ) (i : ℕ) : Type 0 where
  pub is : l ≡ sets l₀ at (joined i f)
  pub long : length (joined i f) ≡ b * i

pub laid_none : (l₀ : List ℕ) (at b : ℕ) (f : ℕ → List ℕ) → Laid l₀ at b f l₀ 0
unfolding joined
laid_none l₀ at b f = record { is = refl; long = sym (mul-zero b) }

pub laid_more : {l₀ l l' : List ℕ} {at b i : ℕ} {f : ℕ → List ℕ} (v : List ℕ) → Laid l₀ at b f l i → v ≡ f i → length v ≡ b → l' ≡ sets l (at + b * i) v → Laid l₀ at b f l' (i + 1)
unfolding joined
laid_more {l₀} {l} {l'} {at} {b} {i} {f} v was e n put =
    let long : length (f i) ≡ b = ap length (sym e) ∙ n in
    record {
      is = put ∙ rw (was.is, e, add-one, ← was.long) (sym (sets-append l₀ at (joined i f) (f i)));
      long = rw (add-one, length-append, was.long, long) (sym (mul-suc b i));
    }

-- ---- zero bytes, exclusive or, comparison

pub tab-zeros : (n : ℕ) → tab n (λ i. 0) ≡ zeros n
unfolding tab
tab-zeros zero = refl
tab-zeros (suc n) = tab-front n (λ i. 0) ∙ ap (λ (l : List ℕ). 0 ∷ l) (tab-zeros n)

pub length-xors : (xs ys : List ℕ) → length xs ≡ length ys → length (xors xs ys) ≡ length xs
unfolding xors
length-xors [] ys h = refl
length-xors (x ∷ xs) [] h = absurd (omega arith)
length-xors (x ∷ xs) (y ∷ ys) h = ap suc (length-xors xs ys (omega arith))

pub tab-xors : (xs ys : List ℕ) → length xs ≡ length ys → tab (length xs) (λ i. bit_xor (get_or xs i 0) (get_or ys i 0)) ≡ xors xs ys
unfolding xors tab
tab-xors [] ys h = refl
tab-xors (x ∷ xs) [] h = absurd (omega arith)
tab-xors (x ∷ xs) (y ∷ ys) h =
    tab-front (length xs) (λ i. bit_xor (get_or (x ∷ xs) i 0) (get_or (y ∷ ys) i 0)) ∙ ap (λ (l : List ℕ). bit_xor x y ∷ l) (tab-xors xs ys (omega arith))

-- the exclusive or of two parts of one list
pub tab_xor_parts : (l : List ℕ) (a b n : ℕ) → a + n ≤ length l → b + n ≤ length l → tab n (λ j. bit_xor (get_or l (a + j) 0) (get_or l (b + j) 0)) ≡ xors (part a n l) (part b n l)
tab_xor_parts l a b n ha hb =
    let xs = part a n l in
    let ys = part b n l in
    let long : length xs ≡ n = length-part a n l ha in
    let as_long : length ys ≡ n = length-part b n l hb in
    tab_ext n _ _ (λ i h. ap₂ bit_xor (sym (get_or-part a n l i 0 h)) (sym (get_or-part b n l i 0 h)))
    ∙ ap (λ (k : ℕ). tab k (λ i. bit_xor (get_or xs i 0) (get_or ys i 0))) (sym long)
    ∙ tab-xors xs ys (long ∙ sym as_long)

pub eqs_refl : (xs : List ℕ) → eqs xs xs ≡ true
unfolding eqs
eqs_refl [] = refl
eqs_refl (x ∷ xs) = rw (eq-eqb x x refl, eqs_refl xs)

pub eqs_true : (xs ys : List ℕ) → eqs xs ys ≡ true → xs ≡ ys
unfolding eqs
eqs_true [] [] h = refl
eqs_true [] (y ∷ ys) h = cc
eqs_true (x ∷ xs) [] h = cc
eqs_true (x ∷ xs) (y ∷ ys) h = both (eqb x y) refl h (eqs_true xs ys)
  where
    both : (b : Bool) → eqb x y ≡ b → b && eqs xs ys ≡ true → (eqs xs ys ≡ true → xs ≡ ys) → x ∷ xs ≡ y ∷ ys
    both true e k rest = ap₂ ◌∷◌ (eqb-true x y e) (rest k)
    both false e k rest = cc

-- ---- a comparison that gathers the differences of all pairs

-- what is gathered is zero just where nothing was gathered before and the pair is alike
pub or_xor_zero : (d x y : ℕ) → bit_or d (bit_xor x y) ≡ 0 → (d ≡ 0) × (x ≡ y)
or_xor_zero d x y h =
    let both = or_add_and d (bit_xor x y) in
    let under = and_le_l d (bit_xor x y) in
    let over = and_le_r d (bit_xor x y) in
    let digits = xor_add_and x y in
    let low = and_le_l x y in
    let high = and_le_r x y in
    omega arith

pub or_xor_none : (d x y : ℕ) → d ≡ 0 → x ≡ y → bit_or d (bit_xor x y) ≡ 0
or_xor_none d x y z e = ap₂ (λ (a b : ℕ). bit_or a (bit_xor b y)) z e ∙ ap (bit_or 0) (xor_self y)

-- so one pair more is one test more
pub gathered_more : (d x y : ℕ) (rest : Bool) → eqb (bit_or d (bit_xor x y)) 0 && rest ≡ eqb d 0 && (eqb x y && rest)
gathered_more d x y rest = go (eqb d 0) (eqb x y) refl refl
  where
    go : (b c : Bool) → eqb d 0 ≡ b → eqb x y ≡ c → eqb (bit_or d (bit_xor x y)) 0 && rest ≡ b && (c && rest)
    go true true e k = rw (eq-eqb (bit_or d (bit_xor x y)) 0 (or_xor_none d x y (eqb-true d 0 e) (eqb-true x y k))) refl
    go true false e k = rw (ne_eqb (bit_or d (bit_xor x y)) 0 (λ z. eqb-false x y k (or_xor_zero d x y z).1)) refl
    go false c e k = rw (ne_eqb (bit_or d (bit_xor x y)) 0 (λ z. eqb-false d 0 e (or_xor_zero d x y z).0)) refl

-- and at the end what is gathered decides
pub gathered_all : (b : Bool) (xs ys : List ℕ) → length xs ≡ 0 → length ys ≡ 0 → b && eqs xs ys ≡ b
unfolding eqs
gathered_all true [] [] h k = refl
gathered_all false [] [] h k = refl
gathered_all b [] (y ∷ ys) h k = absurd (omega arith)
gathered_all b (x ∷ xs) ys h k = absurd (omega arith)

pub eqs_lengths : (xs ys : List ℕ) → (length xs ≡ length ys → ⊥) → eqs xs ys ≡ false
unfolding eqs
eqs_lengths [] [] h = absurd (h refl)
eqs_lengths [] (y ∷ ys) h = refl
eqs_lengths (x ∷ xs) [] h = refl
eqs_lengths (x ∷ xs) (y ∷ ys) h = go (eqb x y) (eqs_lengths xs ys (λ e. h (ap suc e)))
  where
    go : (b : Bool) → eqs xs ys ≡ false → b && eqs xs ys ≡ false
    go true e = e
    go false e = refl
