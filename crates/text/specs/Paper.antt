-- The paper's number and values for each answer.
use Rattle.std.specs.Prelude.{ℕ, Result, Ok, Err}
use Rattle.text.specs.declared.Reason.{Reason}
use Rattle.text.specs.declared.Reason.TheVariants.{NoColon, UserLength}
use Rattle.text.specs.declared.Split.{Split}
use Rattle.text.specs.Login.{Reading, refused}

abbrev pub reason_no : Reason → ℕ
reason_no NoColon = 31
reason_no UserLength = 32

abbrev pub paper : Result Split Reason → Reading
paper (Ok s) = record { refusal = 0; user = s.user; password = s.password }
paper (Err why) = refused (reason_no why)
