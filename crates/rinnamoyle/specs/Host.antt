-- What a host is told, as the desks' own promises: each struct of numbers is read as the record that the desk's definition answers.
use Rattle.std.specs.Prelude.{ℕ, zero, suc, ◌+◌, List}
use Rattle.scrypt.specs.Derivation as Derivation
use Rattle.card.specs.Refusals as Cards
use Rattle.text.specs.Login as Texts
use Rattle.login.specs.Login as Logins
use Rattle.rinnamoyle.specs.declared.DeriveTold.{DeriveTold}
use Rattle.rinnamoyle.specs.declared.CardTold.{CardTold}
use Rattle.rinnamoyle.specs.declared.WriteTold.{WriteTold}
use Rattle.rinnamoyle.specs.declared.TextTold.{TextTold}
use Rattle.rinnamoyle.specs.declared.LoginTold.{LoginTold}

abbrev pub derived : DeriveTold → Derivation.Told
derived x = record { number = x.number; spacing = x.spacing; stored = x.stored; mixings = x.mixings }

-- the salt at the card's front, the key behind it
abbrev pub card_told : Cards.Reading → CardTold
card_told x =
    record { number = x.refusal; exponent = x.exponent; r = x.r; p = x.p; salt_at = 0; salt_len = x.salt; key_at = x.salt; key_len = x.key }

abbrev pub written : WriteTold → List ℕ → Cards.Writing
written x room = record { refusal = x.number; long = x.length; room = room }

-- the password behind the colon, which follows the user name; 0 beside a refusal
abbrev pub behind : ℕ → ℕ → ℕ
behind zero user = user + 1
behind (suc number) user = 0

abbrev pub text_told : Texts.Reading → TextTold
text_told x = record { number = x.refusal; user_len = x.user; password_at = behind x.refusal x.user; password_len = x.password }

abbrev pub login_told : Logins.Told → LoginTold
login_told x = record { answer = x.answer; desk = x.desk; number = x.number }

abbrev pub hosted : Logins.Told × List ℕ → LoginTold × List ℕ
hosted d = (login_told d.0, d.1)
