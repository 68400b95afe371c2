-- The login check: the card is asked first (21 to 25), then the text (31, 32), then the derivation (1 to 9).
use Rattle.std.specs.Prelude.{Bool, true, false, Result, Ok, Err, List, ℕ, ◌^◌, eqb, length}
use Rattle.lent.specs.Bytes.{pick, zeros, eqs}
use Rattle.cost.specs.declared.Cost.{Cost}
use Rattle.scrypt.specs.declared.Plan.{Plan}
use Rattle.scrypt.specs.declared.Reason.{Reason}
use Rattle.scrypt.specs.Plans.{plan_of}
use Rattle.scrypt.specs.Plans as Derive
use Rattle.scrypt.specs.Scrypt.{scrypt}
use Rattle.card.specs.Refusals as Cards
use Rattle.card.specs.Paper as CardPaper
use Rattle.text.specs.Login as Texts
use Rattle.text.specs.Paper as TextPaper
use Rattle.login.specs.declared.Desk.{Desk}
use Rattle.login.specs.declared.Desk.TheVariants.{OfCard, OfText, OfDerivation}
use Rattle.login.specs.declared.Login.{Login}
use Rattle.login.specs.declared.Login.TheVariants.{Yes, No, Refused}

-- An answer in the paper's numbers: 0 no, 1 yes, 2 refused; the desk that refused, 1 card, 2 text, 3 derivation, and its number; both 0 for yes and no.
pub record Told : Type 0 where
  pub answer : ℕ
  pub desk : ℕ
  pub number : ℕ

abbrev pub nay : Told
nay = record { answer = 0; desk = 0; number = 0 }

abbrev pub yea : Told
yea = record { answer = 1; desk = 0; number = 0 }

abbrev pub refused_by : ℕ → ℕ → Told
refused_by desk number = record { answer = 2; desk = desk; number = number }

abbrev pub desk_told : Desk → Told
desk_told (OfCard why) = refused_by 1 (CardPaper.reason_no why)
desk_told (OfText why) = refused_by 2 (TextPaper.reason_no why)
desk_told (OfDerivation why) = refused_by 3 (Derive.reason_no why)

abbrev pub paper : Login → Told
paper Yes = yea
paper No = nay
paper (Refused desk) = desk_told desk

-- and before it is an answer: whether the keys are the same, or the desk that refused
abbrev pub found : Result Bool Desk → Told
found (Ok true) = yea
found (Ok false) = nay
found (Err desk) = desk_told desk

-- ---- what a login answers, and what it leaves of the scratch

-- the costs on a card
abbrev pub cost_on : List ℕ → Cost
cost_on card = let x = Cards.read_of card in record { n = record { 0 = 2 ^ x.exponent }; r = x.r; p = x.p }

-- P the password, S and K the salt and the key on the card, n the key's length: yes exactly when RFC 7914's key is K
abbrev pub compared : List ℕ → List ℕ → List ℕ → Cost → ℕ → List ℕ → Result Plan Reason → Told × List ℕ
compared P S K c n scratch (Ok plan) = (pick (eqs (scrypt P S c.n.0 c.r c.p n) K) yea nay, zeros (length scratch))
compared P S K c n scratch (Err why) = (refused_by 3 (Derive.reason_no why), scratch)

unfoldable pub weighed : List ℕ → List ℕ → List ℕ → Cost → ℕ → List ℕ → ℕ → Told × List ℕ
weighed P S K c n scratch allowance = compared P S K c n scratch (plan_of (length P) (length S) n (length scratch) allowance c)

unfoldable pub login_of : List ℕ → List ℕ → List ℕ → ℕ → Told × List ℕ
unfolding weighed
login_of text card scratch allowance =
    let x = Cards.read_of card in
    let y = Texts.read_of text in
    pick (eqb x.refusal 0)
    (pick (eqb y.refusal 0)
    (weighed (Texts.password_of text) (Cards.salt_of card) (Cards.key_of card) (cost_on card) x.key scratch allowance)
    (refused_by 2 y.refusal, scratch))
    (refused_by 1 x.refusal, scratch)
