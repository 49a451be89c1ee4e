-- What stands where in a list of numbers that was filled from a place on by a function. Assumes nothing.
use mathlib.Core.Path.{◌≡◌, refl, ap₂, ◌∙◌}
use mathlib.Core.Logic.{◌⊎◌, inl, inr, ⊎_elim}
use mathlib.Core.List.{List}
use Prim.Native.Nat.{ℕ, zero, suc, ◌+◌, ◌≤◌, ◌<◌}
use native.Mathlib.Nat.{eq-or-lt_of_le, le_of_suc-le-suc}
use native.Mathlib.Omega.{arith}
use lib.ListN.{length, set, length-set}
use lib.Seq.{get_or-set_same, get_or-set_other, set-get_or}
use lib.Ieee.{Float, nan}
use Rattle.model.specs.Counts.{at}
use Rattle.model.specs.Tick.{fill_from}

module _ (m : List Float) (a : ℕ) where
  -- AS LONG AS BEFORE
  pub fill-length : (g : ℕ → Float) (n : ℕ) → length (fill_from m a g n) ≡ length m
  unfolding fill_from
  fill-length g zero = refl
  fill-length g (suc n) = length-set (fill_from m a g n) (a + n) (g n) ∙ fill-length g n

  -- OUTSIDE: as it was
  pub fill-outside : (g : ℕ → Float) (n k : ℕ) → (k < a) ⊎ (a + n ≤ k) → at (fill_from m a g n) k ≡ at m k
  unfolding fill_from
  fill-outside g zero k h = refl
  fill-outside g (suc n) k h =
      get_or-set_other (fill_from m a g n) (a + n) k (g n) nan (λ e. ⊎_elim (λ l. omega arith) (λ r. omega arith) h)
      ∙ fill-outside g n k (⊎_elim (λ l. inl l) (λ r. inr (omega arith)) h)

  -- INSIDE: the function's
  pub fill-inside : (g : ℕ → Float) (n k : ℕ) → k < n → a + k < length m → at (fill_from m a g n) (a + k) ≡ g k
  unfolding fill_from
  fill-inside g zero k h b = absurd (omega arith)
  fill-inside g (suc n) k h b =
      ⊎_elim
      (λ (e : k ≡ n). rw e (get_or-set_same (fill_from m a g n) (a + n) (g n) nan (rw fill-length (omega arith))))
      (λ (p : k < n). get_or-set_other (fill_from m a g n) (a + n) (a + k) (g n) nan (λ e. omega arith) ∙ fill-inside g n k p b)
      (eq-or-lt_of_le (le_of_suc-le-suc h))

  -- functions that agree below n fill alike
  pub fill-same : (g h : ℕ → Float) (n : ℕ) → ((k : ℕ) → k < n → g k ≡ h k) → fill_from m a g n ≡ fill_from m a h n
  unfolding fill_from
  fill-same g h zero e = refl
  fill-same g h (suc n) e =
      ap₂ (λ (l : List Float) (x : Float). set l (a + n) x) (fill-same g h n (λ k b. e k (omega arith))) (e n (omega arith))

  -- writing what stands there changes nothing; beyond the end nothing is written
  pub fill-self : (g : ℕ → Float) (n : ℕ) → ((k : ℕ) → k < n → g k ≡ at m (a + k)) → fill_from m a g n ≡ m
  unfolding fill_from
  fill-self g zero e = refl
  fill-self g (suc n) e =
      ap₂ (λ (l : List Float) (x : Float). set l (a + n) x) (fill-self g n (λ k b. e k (omega arith))) (e n (omega arith))
      ∙ set-get_or m (a + n) nan
