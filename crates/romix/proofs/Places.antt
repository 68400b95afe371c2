-- The place that X names is decided by four of its bytes, since N divides 2^32. Assumes nothing.
use Rattle.std.proofs.Common.{◌≡◌, ℕ, ◌+◌, ◌-◌, ◌*◌, ◌/◌, ◌%◌, ◌^◌, ◌≤◌, List, length, take, drop, sym, ap, ◌∙◌, mul_assoc, arith, take-append-drop}
use native.Mathlib.Nat.{add-mul-mod_self_left, mul-div_cancel', dvd_of_mod-eq-zero}
use Rattle.lent.specs.Bytes.{part}
use Rattle.lent.specs.Word.{of_le}
use Rattle.lent.proofs.Parts.{length-part}
use Rattle.lent.proofs.Words.{of_le-append}
use Rattle.romix.specs.ROMix.{place, integerify}

-- what is a multiple of m is nothing modulo n, where n divides m
low_only : (n m x z : ℕ) → m % n ≡ 0 → (x + m * z) % n ≡ x % n
low_only n m x z h =
    let whole : n * (m / n) ≡ m = mul-div_cancel' n (dvd_of_mod-eq-zero n h) in
    rw (← whole, mul_assoc n (m / n) z) (add-mul-mod_self_left x n (m / n * z))

pub place_low : (n : ℕ) (X : List ℕ) → 2 ^ 32 % n ≡ 0 → 64 ≤ length X → place n X ≡ of_le (part (length X - 64) 4 X) % n
unfolding place integerify
place_low n X h long =
    let last = drop (length X - 64) X in
    let four : length (take 4 last) ≡ 4 = length-part (length X - 64) 4 X (omega arith) in
    ap (λ (l : List ℕ). of_le l % n) (sym (take-append-drop 4 last))
    ∙ ap (λ (v : ℕ). v % n) (of_le-append (take 4 last) (drop 4 last) ∙ ap (λ (k : ℕ). of_le (take 4 last) + 256 ^ k * of_le (drop 4 last)) four)
    ∙ low_only n (2 ^ 32) (of_le (take 4 last)) (of_le (drop 4 last)) h
