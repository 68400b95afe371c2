-- A choice by a test: what holds of both answers, each where its test says so, holds of the choice. Assumes nothing.
use Rattle.std.proofs.Common.{◌≡◌, ℕ, ◌<◌, Bool, true, false, refl, arith}
use Rattle.lent.specs.Bytes.{pick}

pub pick_any : {A : Type 0} (P : A → Type 0) (b : Bool) (x y : A) → (b ≡ true → P x) → (b ≡ false → P y) → P (pick b x y)
pick_any P true x y yes' no' = yes' refl
pick_any P false x y yes' no' = no' refl

pub pick_ap : {A B : Type 0} (f : A → B) (b : Bool) (x y : A) → f (pick b x y) ≡ pick b (f x) (f y)
pick_ap f true x y = refl
pick_ap f false x y = refl

-- a function of a choice is the choice of what it makes, each equation wanted only where its test says so
pub pick_same : {A B : Type 0} (f : A → B) (b : Bool) (x y : A) (x' y' : B) → (b ≡ true → f x ≡ x') → (b ≡ false → f y ≡ y') → f (pick b x y) ≡ pick b x' y'
pick_same f true x y x' y' yes' no' = yes' refl
pick_same f false x y x' y' yes' no' = no' refl

-- a table of refusals, one row: where no refusal's number is given, the row's test passed, and the rows after it gave none
pub pick-passed : {A : Type 0} (number : A → ℕ) (b : Bool) (x y : A) → 0 < number y → number (pick b x y) ≡ 0 → (b ≡ true) × (number x ≡ 0)
pick-passed number true x y h e = (refl, e)
pick-passed number false x y h e = absurd (omega arith)
