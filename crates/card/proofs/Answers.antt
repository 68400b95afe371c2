-- The paper's numbers tell the answers apart, so that no second answer meets a contract.
-- Assumes nothing.
use mathlib.Core.Path.{◌≡◌, refl, sym, ap, ◌∙◌}
use mathlib.Core.List.{List}
use Prim.Native.Nat.{ℕ}
use lib.Dec.{eqb}
use Rattle.std.specs.Prelude.{Result, Ok, Err}
use Rattle.lent.specs.Bytes.{pick}
use Rattle.card.specs.declared.Reason.{Reason}
use Rattle.card.specs.declared.Reason.TheVariants.{Short, Unmarked, OtherEdition, Lengths, Costs, Room}
use Rattle.card.specs.declared.Meaning.{Meaning}
use Rattle.card.specs.Refusals.{Reading, read_of, Writing, write_of}
use Rattle.card.specs.Paper.{reason_no, paper, paper_written}

-- the answers that the paper's number and values stand for
abbrev reason_of : ℕ → Reason
reason_of n = pick (eqb n 21) Short (pick (eqb n 22) Unmarked (pick (eqb n 23) OtherEdition (pick (eqb n 24) Lengths (pick (eqb n 25) Costs Room))))

reason_is : (w : Reason) → reason_of (reason_no w) ≡ w
reason_is Short = refl
reason_is Unmarked = refl
reason_is OtherEdition = refl
reason_is Lengths = refl
reason_is Costs = refl
reason_is Room = refl

-- none is 0, which stands for no refusal
pub number_not_zero : (w : Reason) {A : Type 0} (x y : A) → pick (eqb (reason_no w) 0) x y ≡ y
number_not_zero Short x y = refl
number_not_zero Unmarked x y = refl
number_not_zero OtherEdition x y = refl
number_not_zero Lengths x y = refl
number_not_zero Costs x y = refl
number_not_zero Room x y = refl

abbrev card_of : Reading → Result Meaning Reason
card_of x =
    pick (eqb x.refusal 0)
    (Ok (record { exponent = record { 0 = x.exponent }; r = x.r; p = x.p; salt = x.salt; key = x.key }))
    (Err (reason_of x.refusal))

card_is : (x : Result Meaning Reason) → card_of (paper x) ≡ x
card_is (Ok m) = refl
card_is (Err w) = number_not_zero w _ _ ∙ ap Err (reason_is w)

abbrev written_of : Writing → Result ℕ Reason
written_of x = pick (eqb x.refusal 0) (Ok x.long) (Err (reason_of x.refusal))

written_is : (x : Result ℕ Reason) (room : List ℕ) → written_of (paper_written x room) ≡ x
written_is (Ok n) room = refl
written_is (Err w) room = number_not_zero w _ _ ∙ ap Err (reason_is w)

room_is : (x : Result ℕ Reason) (room : List ℕ) → (paper_written x room).room ≡ room
room_is (Ok n) room = refl
room_is (Err w) room = refl

-- each reason has a number of its own
pub reasons_apart : {v w : Reason} → reason_no v ≡ reason_no w → v ≡ w
reasons_apart {v} {w} e = sym (reason_is v) ∙ ap reason_of e ∙ reason_is w

pub cards_apart : {x y : Result Meaning Reason} → paper x ≡ paper y → x ≡ y
cards_apart {x} {y} e = sym (card_is x) ∙ ap card_of e ∙ card_is y

pub written_apart : {x y : Result ℕ Reason} (a b : List ℕ) → paper_written x a ≡ paper_written y b → (x ≡ y) × (a ≡ b)
written_apart {x} {y} a b e = (sym (written_is x a) ∙ ap written_of e ∙ written_is y b, sym (room_is x a) ∙ ap (λ (w : Writing). w.room) e ∙ room_is y b)

-- no second answer
pub read_one : (card : List ℕ) {x y : Result Meaning Reason} → paper x ≡ read_of card → paper y ≡ read_of card → x ≡ y
read_one card h k = cards_apart (h ∙ sym k)

pub write_one : (salt key : List ℕ) (e r p : ℕ) (room : List ℕ) {x y : Result ℕ Reason} (a b : List ℕ)
    → paper_written x a ≡ write_of salt key e r p room → paper_written y b ≡ write_of salt key e r p room → (x ≡ y) × (a ≡ b)
write_one salt key e r p room a b h k = written_apart a b (h ∙ sym k)
