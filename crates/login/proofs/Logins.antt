-- What is said of a login as a whole: no second answer, no part for the bytes that lay in the scratch, and every answer told apart. Assumes nothing.
use mathlib.Core.Path.{◌≡◌, refl, sym, ap, ◌∙◌}
use mathlib.Core.List.{List}
use Rattle.std.specs.Prelude.{Result, Ok, Err}
use Prim.Native.Nat.{ℕ}
use native.Mathlib.Omega.{arith}
use lib.Dec.{eqb}
use lib.ListN.{length}
use Rattle.lent.specs.Bytes.{pick}
use Rattle.lent.proofs.Picks.{pick_ap}
use Rattle.cost.specs.declared.Cost.{Cost}
use Rattle.scrypt.specs.declared.Plan.{Plan}
use Rattle.scrypt.specs.declared.Derived.{Derived}
use Rattle.scrypt.specs.declared.Reason as DeriveReason
use Rattle.scrypt.specs.Plans as Derive
use Rattle.scrypt.proofs.Apart.{told_apart}
use Rattle.card.specs.Refusals as Cards
use Rattle.card.proofs.Answers.{reasons_apart}
use Rattle.text.specs.declared.Reason as TextReason
use Rattle.text.specs.declared.Reason.TheVariants.{NoColon, UserLength}
use Rattle.text.specs.Paper as TextPaper
use Rattle.text.specs.Login as Texts
use Rattle.login.specs.declared.Desk.{Desk}
use Rattle.login.specs.declared.Desk.TheVariants.{OfCard, OfText, OfDerivation}
use Rattle.login.specs.declared.Login.{Login}
use Rattle.login.specs.declared.Login.TheVariants.{Yes, No as Nay, Refused}
use Rattle.login.specs.Login.{Told, paper, refused_by, cost_on, compared, weighed, login_of}

-- two outcomes that meet the promise are one
pub no_second : (text card scratch : List ℕ) (allowance : ℕ) (one other : Told × List ℕ) → one ≡ login_of text card scratch allowance → other ≡ login_of text card scratch allowance → one ≡ other
no_second text card scratch allowance one other e f = e ∙ sym f

-- ---- the answer goes by the scratch's length and not its bytes

module _ (P S K : List ℕ) (c : Cost) (n : ℕ) (s s' : List ℕ) where
  same_verdict : (plan : Result Plan DeriveReason.Reason) → (compared P S K c n s plan).0 ≡ (compared P S K c n s' plan).0
  same_verdict (Ok plan) = refl
  same_verdict (Err why) = refl

  weighed_by_length : (allowance : ℕ) → length s ≡ length s' → (weighed P S K c n s allowance).0 ≡ (weighed P S K c n s' allowance).0
  unfolding weighed
  weighed_by_length allowance e =
      same_verdict (Derive.plan_of (length P) (length S) n (length s) allowance c)
      ∙ ap (λ (l : ℕ). (compared P S K c n s' (Derive.plan_of (length P) (length S) n l allowance c)).0) e

pub by_length : (text card s s' : List ℕ) (allowance : ℕ) → length s ≡ length s' → (login_of text card s allowance).0 ≡ (login_of text card s' allowance).0
unfolding login_of
by_length text card s s' allowance e =
    let x = Cards.read_of card in
    let y = Texts.read_of text in
    let first : Told × List ℕ → Told = λ d. d.0 in
    pick_ap first (eqb x.refusal 0) _ _
    ∙ ap (λ (t : Told). pick (eqb x.refusal 0) t (refused_by 1 x.refusal))
    (pick_ap first (eqb y.refusal 0) _ _
    ∙ ap (λ (t : Told). pick (eqb y.refusal 0) t (refused_by 2 y.refusal)) (weighed_by_length (Texts.password_of text) (Cards.salt_of card) (Cards.key_of card) (cost_on card) x.key s s' allowance e)
    ∙ sym (pick_ap first (eqb y.refusal 0) _ _))
    ∙ sym (pick_ap first (eqb x.refusal 0) _ _)

-- ---- the paper's numbers tell every answer apart

texts_apart : (a b : TextReason.Reason) → TextPaper.reason_no a ≡ TextPaper.reason_no b → a ≡ b
texts_apart NoColon NoColon e = refl
texts_apart NoColon UserLength e = absurd (omega arith)
texts_apart UserLength NoColon e = absurd (omega arith)
texts_apart UserLength UserLength e = refl

derivations_apart : (a b : DeriveReason.Reason) → Derive.reason_no a ≡ Derive.reason_no b → a ≡ b
derivations_apart a b e =
    let refused : DeriveReason.Reason → Result Derived DeriveReason.Reason = Err in
    let same : refused a ≡ refused b = told_apart (Err a) (Err b) (ap (λ (n : ℕ). record { number = n; spacing = 0; stored = 0; mixings = 0 }) e) in
    cc

desks_apart : (d e : Desk) → paper (Refused d) ≡ paper (Refused e) → d ≡ e
desks_apart (OfCard a) (OfCard b) p = ap OfCard (reasons_apart (ap (λ (t : Told). t.number) p))
desks_apart (OfText a) (OfText b) p = ap OfText (texts_apart a b (ap (λ (t : Told). t.number) p))
desks_apart (OfDerivation a) (OfDerivation b) p = ap OfDerivation (derivations_apart a b (ap (λ (t : Told). t.number) p))
desks_apart (OfCard a) (OfText b) p = absurd (omega (arith, ap (λ (t : Told). t.desk) p))
desks_apart (OfCard a) (OfDerivation b) p = absurd (omega (arith, ap (λ (t : Told). t.desk) p))
desks_apart (OfText a) (OfCard b) p = absurd (omega (arith, ap (λ (t : Told). t.desk) p))
desks_apart (OfText a) (OfDerivation b) p = absurd (omega (arith, ap (λ (t : Told). t.desk) p))
desks_apart (OfDerivation a) (OfCard b) p = absurd (omega (arith, ap (λ (t : Told). t.desk) p))
desks_apart (OfDerivation a) (OfText b) p = absurd (omega (arith, ap (λ (t : Told). t.desk) p))

refusal : (d : Desk) → (paper (Refused d)).answer ≡ 2
refusal (OfCard why) = refl
refusal (OfText why) = refl
refusal (OfDerivation why) = refl

pub answers_apart : (x y : Login) → paper x ≡ paper y → x ≡ y
answers_apart Yes Yes p = refl
answers_apart Nay Nay p = refl
answers_apart (Refused d) (Refused e) p = ap Refused (desks_apart d e p)
answers_apart Yes Nay p = absurd (omega (arith, ap (λ (t : Told). t.answer) p))
answers_apart Nay Yes p = absurd (omega (arith, ap (λ (t : Told). t.answer) p))
answers_apart Yes (Refused d) p = absurd (omega (arith, ap (λ (t : Told). t.answer) p, refusal d))
answers_apart Nay (Refused d) p = absurd (omega (arith, ap (λ (t : Told). t.answer) p, refusal d))
answers_apart (Refused d) Yes p = absurd (omega (arith, ap (λ (t : Told). t.answer) p, refusal d))
answers_apart (Refused d) Nay p = absurd (omega (arith, ap (λ (t : Told). t.answer) p, refusal d))
