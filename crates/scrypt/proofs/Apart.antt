-- The paper's numbers tell every answer apart: from the numbers the answer can be had back. Assumes nothing.
use mathlib.Core.Path.{◌≡◌, refl, sym, ap, ◌∙◌}
use Prim.Native.Nat.{ℕ, zero, suc}
use Rattle.std.specs.Prelude.{Result, Ok, Err}
use Rattle.cost.specs.declared.Flaw.TheVariants.{BlockSize, Lanes, NotPower, TooLarge}
use Rattle.scrypt.specs.declared.Reason.{Reason}
use Rattle.scrypt.specs.declared.Reason.TheVariants.{Passphrase, Salt, Key, Costs, Scratch, Allowance}
use Rattle.scrypt.specs.declared.Derived.{Derived}
use Rattle.scrypt.specs.Derivation.{Told, paper}

-- the reason with a number; 9 and above are the allowance
reason_of : ℕ → Reason
reason_of zero = Allowance
reason_of (suc zero) = Passphrase
reason_of (suc (suc zero)) = Salt
reason_of (suc (suc (suc zero))) = Key
reason_of (suc (suc (suc (suc zero)))) = Costs BlockSize
reason_of (suc (suc (suc (suc (suc zero))))) = Costs Lanes
reason_of (suc (suc (suc (suc (suc (suc zero)))))) = Costs NotPower
reason_of (suc (suc (suc (suc (suc (suc (suc zero))))))) = Costs TooLarge
reason_of (suc (suc (suc (suc (suc (suc (suc (suc zero)))))))) = Scratch
reason_of (suc (suc (suc (suc (suc (suc (suc (suc (suc n))))))))) = Allowance

answer_of : ℕ → Told → Result Derived Reason
answer_of zero t = Ok (record { spacing = t.spacing; stored = t.stored; mixings = t.mixings })
answer_of (suc n) t = Err (reason_of (suc n))

answer_back : (x : Result Derived Reason) → answer_of (paper x).number (paper x) ≡ x
unfolding answer_of reason_of
answer_back (Ok d) = refl
answer_back (Err Passphrase) = refl
answer_back (Err Salt) = refl
answer_back (Err Key) = refl
answer_back (Err (Costs BlockSize)) = refl
answer_back (Err (Costs Lanes)) = refl
answer_back (Err (Costs NotPower)) = refl
answer_back (Err (Costs TooLarge)) = refl
answer_back (Err Scratch) = refl
answer_back (Err Allowance) = refl

pub told_apart : (x y : Result Derived Reason) → paper x ≡ paper y → x ≡ y
told_apart x y e = sym (answer_back x) ∙ ap (λ (t : Told). answer_of t.number t) e ∙ answer_back y
