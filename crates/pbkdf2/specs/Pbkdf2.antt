-- PBKDF2 with one iteration, RFC 8018 section 5.2: PRF is HMAC with SHA-256, hLen = 32 and c = 1.
use Rattle.std.specs.Prelude.{List, ◌++◌, ℕ, suc, ◌+◌, ◌/◌, take}
use Rattle.lent.specs.Bytes.{joined}
use Rattle.lent.specs.Word.{be}
use Rattle.pbkdf2.specs.Hmac.{hmac}

-- step 3: T_i = F (P, S, 1, i) = U_1 = PRF (P, S || INT (i)), with INT (i) as four bytes, the highest first
abbrev pub F : List ℕ → List ℕ → ℕ → List ℕ
F P S i = hmac P (S ++ be 4 i)

-- T_1 || T_2 || .. T_l
abbrev pub Ts : (ℕ → List ℕ) → ℕ → List ℕ
Ts T l = joined l (λ i. T (suc i))

-- steps 2 and 4: the first dkLen bytes of them, where l is dkLen / hLen rounded up
unfoldable pub derived : (ℕ → List ℕ) → ℕ → List ℕ
derived T dkLen = take dkLen (Ts T ((dkLen + 31) / 32))

unfoldable pub pbkdf2 : List ℕ → List ℕ → ℕ → List ℕ
pbkdf2 P S dkLen = derived (F P S) dkLen
