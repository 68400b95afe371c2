-- The login text: `user:password`, as bytes, parted at its last colon. Both are parts of the lent text.
use Rattle.std.specs.Prelude.{◌&&◌, List, ℕ, zero, suc, ◌-◌, leb, ltb, eqb, length, get_or, take, drop}
use Rattle.lent.specs.Bytes.{pick}

abbrev pub colon : ℕ
colon = 0x3a

-- the last of the places below i that hold a colon, or the text's length where none does
unfoldable pub last_below : ℕ → List ℕ → ℕ
last_below zero text = length text
last_below (suc i) text = pick (eqb (get_or text i 0) colon) i (last_below i text)

-- the place of the colon that parts the text, or the text's length where there is none
unfoldable pub colon_place : List ℕ → ℕ
colon_place text = last_below (length text) text

-- the longest user name
abbrev pub most_user : ℕ
most_user = 64

-- What reading a text answers: the refusal's number, 0 for none, and the lengths of user name and password, 0 beside a refusal.
pub record Reading : Type 0 where
  pub refusal : ℕ
  pub user : ℕ
  pub password : ℕ

abbrev pub refused : ℕ → Reading
refused number = record { refusal = number; user = 0; password = 0 }

-- what a text of n bytes with its colon at place `at` answers. 31: no colon; 32: user name empty or over 64 bytes
unfoldable pub parted : ℕ → ℕ → Reading
parted n at =
    pick (ltb at n)
    (pick (leb 1 at && leb at most_user)
    (record { refusal = 0; user = at; password = n - at - 1 })
    (refused 32))
    (refused 31)

unfoldable pub read_of : List ℕ → Reading
read_of text = parted (length text) (colon_place text)

-- the user name is everything before the colon, the password everything after it; both are empty where the text is refused
unfoldable pub user_of : List ℕ → List ℕ
user_of text = take (read_of text).user text

unfoldable pub password_of : List ℕ → List ℕ
password_of text = drop (length text - (read_of text).password) text
