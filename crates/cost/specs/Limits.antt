-- The limits on r, p and N, each in one place, and the tests that refusals 4 to 7 make.
use Rattle.std.specs.Prelude.{Bool, false, ◌&&◌, ◌||◌, ℕ, zero, suc, ◌*◌, ◌^◌, leb, ltb, eqb}

abbrev pub most_r : ℕ
most_r = 32

abbrev pub most_p : ℕ
most_p = 64

abbrev pub most_exponent : ℕ
most_exponent = 20

abbrev pub most_n : ℕ
most_n = 2 ^ most_exponent

-- from 1 to most
abbrev pub within : ℕ → ℕ → Bool
within most x = leb 1 x && leb x most

-- 4 is given where this fails
abbrev pub ok_r : ℕ → Bool
ok_r r = within most_r r

-- 5
abbrev pub ok_p : ℕ → Bool
ok_p p = within most_p p

-- one of 2 ^ 1, 2 ^ 2, .. 2 ^ e
unfoldable pub is_power : ℕ → ℕ → Bool
is_power zero N = false
is_power (suc e) N = eqb N (2 ^ suc e) || is_power e N

-- 6: a power of two from 2 on, of those that 64 bits hold
unfoldable pub ok_power : ℕ → Bool
unfolding is_power
ok_power N = is_power 63 N

-- 7
abbrev pub ok_size : ℕ → ℕ → Bool
ok_size N r = leb N most_n && ltb N (2 ^ (16 * r))

-- what a card may say of N
abbrev pub ok_exponent : ℕ → Bool
ok_exponent e = within most_exponent e
