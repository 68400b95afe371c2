-- What a login makes of what a derivation answers, and of a card that was read. Assumes nothing.
use mathlib.Core.Path.{◌≡◌, refl, sym, ap, ◌∙◌}
use mathlib.Core.Bool.{Bool, true, false}
use mathlib.Core.List.{List}
use Rattle.std.specs.Prelude.{Result, Ok, Err}
use Prim.Native.Nat.{ℕ, ◌≤◌}
use native.Mathlib.Omega.{arith}
use lib.Dec.{eqb}
use lib.ListN.{length}
use borrow.Author.Tests.{eq-eqb}
use Rattle.lent.specs.Bytes.{pick, eqs}
use Rattle.cost.specs.declared.Cost.{Cost}
use Rattle.cost.specs.declared.Flaw.TheVariants.{BlockSize, Lanes, NotPower, TooLarge}
use Rattle.scrypt.specs.declared.Plan.{Plan}
use Rattle.scrypt.specs.declared.Reason.{Reason}
use Rattle.scrypt.specs.declared.Reason.TheVariants.{Passphrase, Salt, Key, Costs, Scratch, Allowance}
use Rattle.scrypt.specs.declared.Derived.{Derived}
use Rattle.scrypt.specs.Plans.{reason_no, plan_of}
use Rattle.scrypt.specs.Derivation as Derivation
use Rattle.scrypt.specs.Derivation.{carried, derivation}
use Rattle.cost.specs.Costs.{checked_exponent}
use Rattle.card.specs.declared.Meaning.{Meaning}
use Rattle.card.specs.declared.Reason as CardReason
use Rattle.card.specs.Refusals as Cards
use Rattle.card.specs.Paper as CardPaper
use Rattle.card.proofs.Cards.{lengths_mean}
use Rattle.card.proofs.Costing.{priced}
use Rattle.card.proofs.Meanings.{accepted_meant}
use Rattle.card.proofs.Answers.{number_not_zero}
use Rattle.text.specs.declared.Reason as TextReason
use Rattle.text.specs.declared.Reason.TheVariants.{NoColon, UserLength}
use Rattle.text.specs.Login as Texts
use Rattle.text.specs.Paper as TextPaper
use Rattle.login.specs.Login.{Told, found, yea, nay, refused_by, cost_on, compared, weighed, login_of}

-- yes or no by the key, or the derivation's refusal
abbrev outcome : List ℕ → Derivation.Told × (List ℕ × List ℕ) → Told × List ℕ
outcome K d = pick (eqb d.0.number 0) (pick (eqs d.1.0 K) yea nay, d.1.1) (refused_by 3 d.0.number, d.1.1)

numbered : (why : Reason) → eqb (reason_no why) 0 ≡ false
numbered Passphrase = refl
numbered Salt = refl
numbered Key = refl
numbered (Costs BlockSize) = refl
numbered (Costs Lanes) = refl
numbered (Costs NotPower) = refl
numbered (Costs TooLarge) = refl
numbered Scratch = refl
numbered Allowance = refl

compared_is : (P S K : List ℕ) (c : Cost) (key scratch : List ℕ) (plan : Result Plan Reason) → compared P S K c (length key) scratch plan ≡ outcome K (carried P S c key scratch plan)
compared_is P S K c key scratch (Ok plan) = refl
compared_is P S K c key scratch (Err why) = rw (numbered why)

weighed_is : (P S K : List ℕ) (c : Cost) (key scratch : List ℕ) (allowance : ℕ) → weighed P S K c (length key) scratch allowance ≡ outcome K (derivation P S c key scratch allowance)
unfolding weighed derivation
weighed_is P S K c key scratch allowance = compared_is P S K c key scratch (plan_of (length P) (length S) (length key) (length scratch) allowance c)

-- each answer of a derivation from the salt s, and what a login makes of it, for a card with the salt S and the key K
module _ (P s S K : List ℕ) (c : Cost) (key scratch : List ℕ) (allowance : ℕ) (key' scratch' : List ℕ) where
  told : (a : Result Derived Reason) → s ≡ S → (Derivation.paper a, (key', scratch')) ≡ derivation P s c key scratch allowance
      → outcome K (Derivation.paper a, (key', scratch')) ≡ weighed P S K c (length key) scratch allowance
  told a e met = ap (outcome K) met ∙ rw e (sym (weighed_is P S K c key scratch allowance))

  pub weighed_refused : (why : Reason) → s ≡ S → (Derivation.paper (Err why), (key', scratch')) ≡ derivation P s c key scratch allowance
      → (refused_by 3 (reason_no why), scratch') ≡ weighed P S K c (length key) scratch allowance
  weighed_refused why e met =
      let here : (refused_by 3 (reason_no why), scratch') ≡ outcome K (Derivation.paper (Err why), (key', scratch')) = rw (numbered why) refl in
      here ∙ told (Err why) e met

  pub weighed_answered : (d : Derived) (b : Bool) (k : List ℕ) → s ≡ S → k ≡ K → (Derivation.paper (Ok d), (key', scratch')) ≡ derivation P s c key scratch allowance
      → b ≡ eqs key' k → (found (Ok b), scratch') ≡ weighed P S K c (length key) scratch allowance
  weighed_answered d b k e f met same =
      let here : (found (Ok b), scratch') ≡ outcome K (Derivation.paper (Ok d), (key', scratch')) = verdict b ∙ rw (same, f) refl in
      here ∙ told (Ok d) e met
    where
      verdict : (v : Bool) → ◌≡◌ {A = Told × List ℕ} (found (Ok v), scratch') (pick v yea nay, scratch')
      verdict true = refl
      verdict false = refl

-- two answers of one value
pub ok_same : {A E : Type 0} {x y : A} → ◌≡◌ {A = Result A E} (Ok x) (Ok y) → x ≡ y
ok_same e = cc

-- ---- a card that was read

-- its key fits the room for it, and its costs pass
pub read_passes : (card : List ℕ) (m : Meaning) → Cards.accepted m.salt m.key m.exponent.0 m.r m.p ≡ Cards.read_of card
    → (m.key ≤ 64) × (m.key ≡ (Cards.read_of card).key) × (checked_exponent m.exponent m.r m.p ≡ Ok (cost_on card))
read_passes card m e =
    let x = Cards.read_of card in
    let meant = accepted_meant card (sym (ap (λ (y : Cards.Reading). y.refusal) e)) in
    let key : m.key ≡ x.key = ap (λ (y : Cards.Reading). y.key) e in
    let cost : checked_exponent (record { 0 = x.exponent }) x.r x.p ≡ Ok (cost_on card) = (priced x.exponent x.r x.p meant.costs).good in
    (omega (arith, (lengths_mean x.salt x.key meant.lengths).3), key, ap (λ (y : Cards.Reading). checked_exponent (record { 0 = y.exponent }) y.r y.p) e ∙ cost)

-- ---- the three desks, in their order

module _ (text card scratch : List ℕ) (allowance : ℕ) where
  pub card_refuses : (why : CardReason.Reason) → Cards.refused (CardPaper.reason_no why) ≡ Cards.read_of card → (refused_by 1 (CardPaper.reason_no why), scratch) ≡ login_of text card scratch allowance
  unfolding login_of
  card_refuses why e =
      let number : (Cards.read_of card).refusal ≡ CardPaper.reason_no why = sym (ap (λ (y : Cards.Reading). y.refusal) e) in
      rw (number, number_not_zero why)

  module _ (m : Meaning) (good : Cards.accepted m.salt m.key m.exponent.0 m.r m.p ≡ Cards.read_of card) where
    none : (Cards.read_of card).refusal ≡ 0
    none = sym (ap (λ (y : Cards.Reading). y.refusal) good)

    pub text_refuses : (why : TextReason.Reason) → Texts.refused (TextPaper.reason_no why) ≡ Texts.read_of text → (refused_by 2 (TextPaper.reason_no why), scratch) ≡ login_of text card scratch allowance
    unfolding login_of
    text_refuses why e =
        let number : (Texts.read_of text).refusal ≡ TextPaper.reason_no why = sym (ap (λ (y : Texts.Reading). y.refusal) e) in
        rw (eq-eqb _ _ none, number, text_numbered why)
      where
        text_numbered : (w : TextReason.Reason) → eqb (TextPaper.reason_no w) 0 ≡ false
        text_numbered NoColon = refl
        text_numbered UserLength = refl

    pub asks_derivation : (Texts.read_of text).refusal ≡ 0
        → weighed (Texts.password_of text) (Cards.salt_of card) (Cards.key_of card) (cost_on card) (Cards.read_of card).key scratch allowance ≡ login_of text card scratch allowance
    unfolding login_of
    asks_derivation e = rw (eq-eqb _ _ none, eq-eqb _ _ e)
