-- A number, or its refusal.
use mathlib.Core.Path.{◌≡◌, refl}
use Prim.Native.Nat.{ℕ, zero, suc, ◌<◌}
use native.Mathlib.Omega.{arith}
use Rattle.std.specs.Prelude.{Ok, Err}
use Rattle.refusal.specs.Refusal.{number_of}
use Rattle.refusal.specs.declared.Refusal.{Refusal}
use Rattle.refusal.proofs.Laws.{number-above}
use Rattle.program.specs.Answers.{Count, count_said}
use Rattle.program.specs.Sizes.{counted}

pub refused : {r k : ℕ} (n : ℕ) → r ≡ k → (r ≡ 0 → ⊥) → ◌≡◌ {A = Count} (record { code = r; n = 0 }) (counted k n)
refused {r} {k} n e h = rw (← e) (go r h)
  where
    go : (j : ℕ) → (j ≡ 0 → ⊥) → ◌≡◌ {A = Count} (record { code = j; n = 0 }) (counted j n)
    go zero h = absurd (h refl)
    go (suc j) h = refl

-- as a Result says it
pub refused-by : {k : ℕ} (r : Refusal) (n : ℕ) → number_of r ≡ k → count_said (Err r) ≡ counted k n
refused-by r n e =
    let above : 0 < number_of r = number-above r in
    refused n e (λ z. omega (arith, z))

pub accepted : {k m n : ℕ} → 0 ≡ k → m ≡ n → count_said (Ok m) ≡ counted k n
accepted e h = rw (← e, h)
