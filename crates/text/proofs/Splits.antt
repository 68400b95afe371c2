-- What the split of an accepted text means: a user name, a colon, and a password that has none; and it is the only such split.
-- Assumes nothing.
use mathlib.Core.Path.{◌≡◌, refl, sym, ap, ◌∙◌}
use mathlib.Core.Bool.{Bool, true, false, ◌&&◌, and-eq-true_iff}
use mathlib.Core.List.{List, [], ◌∷◌, ◌++◌}
use Prim.Native.Nat.{ℕ, suc, ◌+◌, ◌-◌, ◌≤◌, ◌<◌}
use native.Mathlib.Nat.{sub-zero}
use native.Mathlib.Decide.{dec_lt}
use native.Mathlib.Numerals.{add-one}
use native.Mathlib.Omega.{arith}
use lib.Dec.{leb, ltb, lit<}
use lib.ListN.{length, get_or, take, drop, length-append, length-drop}
use lib.Seq.{drop-length, split_at, take-append_seam, drop-append-add, get_or-append_seam, get_or-append-add, get_or-drop, length-take-le}
use borrow.Author.Tests.{ltb-true, leb-true, lt-ltb, le-ltb, le-leb}
use Rattle.lent.specs.Bytes.{pick}
use Rattle.lent.proofs.Picks.{pick_any, pick-passed}
use Rattle.text.specs.Login.{colon, most_user, colon_place, Reading, refused, parted, read_of, user_of, password_of}
use Rattle.text.proofs.Places.{Colon, colon_is, last_only}

-- ---- by the colon's place

abbrev split : ℕ → ℕ → Reading
split n at = record { refusal = 0; user = at; password = n - at - 1 }

-- the colon lies inside, and before it a user name that is not too long
pub record Parted (n at : ℕ) : Type 0 where
  pub inside : at < n
  pub some : 1 ≤ at
  pub most : at ≤ most_user

pub parted_good : {n at : ℕ} → Parted n at → parted n at ≡ split n at
unfolding parted
parted_good {n} {at} h = rw (lt-ltb at n h.inside, le-leb 1 at h.some, le-leb at most_user h.most)

pub parted_means : (n at : ℕ) → (parted n at).refusal ≡ 0 → Parted n at
unfolding parted
parted_means n at h =
    let number : Reading → ℕ = λ x. x.refusal in
    let found = pick-passed number (ltb at n) _ (refused 31) (lit< tt) h in
    let fits = pick-passed number (leb 1 at && leb at most_user) (split n at) (refused 32) (lit< tt) found.1 in
    let both = (and-eq-true_iff (leb 1 at) (leb at most_user)).0 fits.0 in
    record { inside = ltb-true at n found.0; some = leb-true 1 at both.0; most = leb-true at most_user both.1 }

pub parted_none : (n at : ℕ) → n ≤ at → parted n at ≡ refused 31
unfolding parted
parted_none n at h = rw (le-ltb at n h)

parted_some : (n at : ℕ) → at < n → (parted n at).refusal ≡ 31 → ⊥
unfolding parted
parted_some n at h e = go (leb 1 at && leb at most_user) (rw (lt-ltb at n h) at e)
  where
    go : (b : Bool) → (pick b (split n at) (refused 32)).refusal ≡ 31 → ⊥
    go true k = omega arith
    go false k = omega arith

-- ---- by the text

-- what is answered lies within the text, refused or not
abbrev Within : ℕ → Reading → Type 0
Within n x = (x.user ≤ n) × (x.password ≤ n)

pub within : (text : List ℕ) → ((read_of text).user ≤ length text) × ((read_of text).password ≤ length text)
unfolding read_of parted
within text =
    let n = length text in
    let at = colon_place text in
    pick_any (Within n) (ltb at n) _ _
    (λ inside.
    let low : at < n = ltb-true at n inside in
    pick_any (Within n) (leb 1 at && leb at most_user) (split n at) (refused 32) (λ h. (omega arith, omega arith)) (λ h. (omega arith, omega arith)))
    (λ none. (omega arith, omega arith))

-- what bounds its parts
pub ruleset bounds = (within, length-take-le)

-- no place of it holds a colon
abbrev pub Clean : List ℕ → Type 0
Clean l = (j : ℕ) → j < length l → Colon l j → ⊥

-- 31 is given just where there is no colon
pub none_means : (text : List ℕ) → (read_of text).refusal ≡ 31 → Clean text
unfolding read_of
none_means text h j k c =
    let at = colon_place text in
    elim (dec_lt at (length text)) [ yes inside ↦ parted_some (length text) at inside h | no past ↦ (colon_is text).after j k (λ inside. absurd (past inside)) c ]

pub none_given : (text : List ℕ) → Clean text → read_of text ≡ refused 31
unfolding read_of
none_given text clean =
    let at = colon_place text in
    elim (dec_lt at (length text)) [ yes inside ↦ absurd (clean at inside ((colon_is text).held inside)) | no past ↦ parted_none (length text) at (omega arith) ]

-- where a text is refused both parts are empty
pub refused_empty : (text : List ℕ) → ((read_of text).refusal ≡ 0 → ⊥) → (user_of text ≡ []) × (password_of text ≡ [])
unfolding user_of password_of read_of parted
refused_empty text =
    let n = length text in
    let at = colon_place text in
    let Bare : Reading → Type 0 = λ x. (x.refusal ≡ 0 → ⊥) → (take x.user text ≡ []) × (drop (n - x.password) text ≡ []) in
    let bare : (n : ℕ) → Bare (refused n) = λ n h. (refl, rw sub-zero (drop-length text)) in
    pick_any Bare (ltb at n) _ _ (λ inside. pick_any Bare (leb 1 at && leb at most_user) (split n at) (refused 32) (λ fits h. absurd (h refl)) (λ not. bare 32)) (λ none. bare 31)

pub accepted : (text : List ℕ) → (read_of text).refusal ≡ 0 → Parted (length text) (colon_place text)
unfolding read_of
accepted text h = parted_means (length text) (colon_place text) h

-- the parts of a text whose colon stands at place `at`
user_at : (text : List ℕ) → Parted (length text) (colon_place text) → user_of text ≡ take (colon_place text) text
unfolding user_of read_of
user_at text h = ap (λ (x : Reading). take x.user text) (parted_good h)

password_at : (text : List ℕ) → Parted (length text) (colon_place text) → password_of text ≡ drop (suc (colon_place text)) text
unfolding password_of read_of
password_at text h =
    let back : length text - (length text - colon_place text - 1) ≡ suc (colon_place text) = omega (arith, h.inside) in
    ap (λ (x : Reading). drop (length text - x.password) text) (parted_good h) ∙ ap (λ (k : ℕ). drop k text) back

-- an accepted text is its user name, a colon, and its password
pub text_is : (text : List ℕ) → (read_of text).refusal ≡ 0 → text ≡ user_of text ++ colon ∷ password_of text
text_is text h =
    let good = accepted text h in
    let at = colon_place text in
    rw (user_at text good, password_at text good, ← (colon_is text).held good.inside) (split_at text at 0 good.inside)

-- and no colon stands in the password
pub password_clean : (text : List ℕ) → (read_of text).refusal ≡ 0 → Clean (password_of text)
password_clean text h j k c =
    let good = accepted text h in
    let at = colon_place text in
    let tail = password_at text good in
    let long : suc at + j < length text = omega (arith, length-drop (suc at) text, ap length tail) in
    (colon_is text).after (suc at + j) long (λ inside. omega arith) (sym (get_or-drop (suc at) text j 0) ∙ ap (λ (l : List ℕ). get_or l j 0) (sym tail) ∙ c)

-- so it is the only split: whatever was joined is found again
module _ (user password : List ℕ) (some : 1 ≤ length user) (most : length user ≤ most_user) (clean : Clean password) where
  joined-place : colon_place (user ++ colon ∷ password) ≡ length user
  joined-place =
      let long = length-append user (colon ∷ password) in
      last_only (colon_is (user ++ colon ∷ password))
      (record {
        within = omega arith;
        held = λ h. get_or-append_seam user colon password 0;
        after = λ j h past c.
            let i = j - suc (length user) in
            let after : length user < j = past (omega arith) in
            let at : length user + suc i ≡ j = omega arith in
            clean i (omega arith) (sym (get_or-append-add user (colon ∷ password) (suc i) 0) ∙ ap (λ (k : ℕ). get_or (user ++ colon ∷ password) k 0) at ∙ c);
      })

  joined-parted : Parted (length (user ++ colon ∷ password)) (colon_place (user ++ colon ∷ password))
  joined-parted =
      let at = joined-place in
      let long = length-append user (colon ∷ password) in
      record { inside = omega arith; some = omega arith; most = omega arith }

  pub joined_read : read_of (user ++ colon ∷ password) ≡ record { refusal = 0; user = length user; password = length password }
  unfolding read_of
  joined_read =
      let long = length-append user (colon ∷ password) in
      let left : length (user ++ colon ∷ password) - length user - 1 ≡ length password = omega arith in
      parted_good joined-parted ∙ rw (joined-place, left)

  pub joined_user : user_of (user ++ colon ∷ password) ≡ user
  joined_user = rw (user_at (user ++ colon ∷ password) joined-parted, joined-place) (take-append_seam user (colon ∷ password))

  pub joined_password : password_of (user ++ colon ∷ password) ≡ password
  joined_password = rw (password_at (user ++ colon ∷ password) joined-parted, joined-place, ← add-one (length user)) (drop-append-add user (colon ∷ password) 1)
