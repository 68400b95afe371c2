-- The paper's number and values for each answer.
use Rattle.std.specs.Prelude.{List, ℕ, Result, Ok, Err}
use Rattle.card.specs.declared.Reason.{Reason}
use Rattle.card.specs.declared.Reason.TheVariants.{Short, Unmarked, OtherEdition, Lengths, Costs, Room}
use Rattle.card.specs.declared.Meaning.{Meaning}
use Rattle.card.specs.Refusals.{Reading, refused, accepted, Writing, kept}

abbrev pub reason_no : Reason → ℕ
reason_no Short = 21
reason_no Unmarked = 22
reason_no OtherEdition = 23
reason_no Lengths = 24
reason_no Costs = 25
reason_no Room = 26

abbrev pub paper : Result Meaning Reason → Reading
paper (Ok m) = accepted m.salt m.key m.exponent.0 m.r m.p
paper (Err why) = refused (reason_no why)

-- with the room as it was left
abbrev pub paper_written : Result ℕ Reason → List ℕ → Writing
paper_written (Ok n) room = record { refusal = 0; long = n; room = room }
paper_written (Err why) room = kept (reason_no why) room
