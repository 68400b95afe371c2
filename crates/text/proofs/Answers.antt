-- The paper's numbers tell the answers apart, so that no second answer meets a contract.
-- Assumes nothing.
use mathlib.Core.Path.{◌≡◌, refl, sym, ap, ◌∙◌}
use mathlib.Core.List.{List}
use Prim.Native.Nat.{ℕ}
use lib.Dec.{eqb}
use Rattle.std.specs.Prelude.{Result, Ok, Err}
use Rattle.lent.specs.Bytes.{pick}
use Rattle.text.specs.declared.Reason.{Reason}
use Rattle.text.specs.declared.Reason.TheVariants.{NoColon, UserLength}
use Rattle.text.specs.declared.Split.{Split}
use Rattle.text.specs.Login.{Reading, read_of}
use Rattle.text.specs.Paper.{paper}

-- the answer that the paper's number and values stand for
abbrev reason_of : ℕ → Reason
reason_of n = pick (eqb n 31) NoColon UserLength

abbrev answer_of : Reading → Result Split Reason
answer_of x = pick (eqb x.refusal 0) (Ok (record { user = x.user; password = x.password })) (Err (reason_of x.refusal))

answer_is : (x : Result Split Reason) → answer_of (paper x) ≡ x
answer_is (Ok s) = refl
answer_is (Err NoColon) = refl
answer_is (Err UserLength) = refl

pub apart : {x y : Result Split Reason} → paper x ≡ paper y → x ≡ y
apart {x} {y} e = sym (answer_is x) ∙ ap answer_of e ∙ answer_is y

-- no second answer
pub read_one : (text : List ℕ) {x y : Result Split Reason} → paper x ≡ read_of text → paper y ≡ read_of text → x ≡ y
read_one text h k = apart (h ∙ sym k)
