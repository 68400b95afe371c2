-- The pieces of a card: its ending is found by the library's comparison, and its three parts are laid over a room, each behind the last.
-- Assumes nothing.
use mathlib.Core.Path.{◌≡◌, refl, sym}
use mathlib.Core.List.{List, [], ◌∷◌, ◌++◌, append_assoc}
use Prim.Native.Nat.{ℕ, ◌+◌, ◌-◌}
use native.Mathlib.Omega.{arith}
use lib.Dec.{eqb}
use lib.ListN.{length, drop, length-append}
use lib.Seq.{sets}
use Rattle.std.specs.Cmp.Lexicographic.{pointwise}
use Rattle.std.specs.Prelude.{nat_eq}
use Rattle.std.proofs.lemmas.Bool.Decides.{nat_tests}
use Rattle.lent.specs.Bytes.{eqs}
use Rattle.card.specs.Layout.{ends_in}
use Rattle.lent.proofs.Parts.{sets-front}

eqb_swap : (x y : ℕ) → eqb x y ≡ eqb y x
eqb_swap x y = grind (arith, nat_tests)

-- the library compares two byte strings as `eqs` does
pointwise_eqs : (xs ys : List ℕ) → pointwise nat_eq xs ys ≡ eqs ys xs
unfolding eqs
pointwise_eqs [] [] = refl
pointwise_eqs [] (y ∷ ys) = refl
pointwise_eqs (x ∷ xs) [] = refl
pointwise_eqs (x ∷ xs) (y ∷ ys) = rw (eqb_swap x y, pointwise_eqs xs ys)

pub ends_in_is : (mark card : List ℕ) → ends_in mark card ≡ pointwise nat_eq mark (drop (length card - length mark) card)
unfolding ends_in
ends_in_is mark card = sym (pointwise_eqs mark (drop (length card - length mark) card))

-- each piece behind the last
pub three_laid : (room a b c : List ℕ) → sets (sets (sets room 0 a) (length a) b) (length a + length b) c ≡ sets room 0 (a ++ b ++ c)
three_laid room a b c =
    rw (sets-front room a b (length a) refl, sets-front room (a ++ b) c (length a + length b) (length-append a b), append_assoc)
