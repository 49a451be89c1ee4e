-- Laws of a list with one more. Assumes nothing.
use mathlib.Core.Path.{◌≡◌, refl}
use mathlib.Core.Logic.{◌⊎◌, inl, inr}
use mathlib.Core.Bool.{true, false}
use mathlib.Core.List.{List, [], ◌∷◌, ◌++◌}
use Prim.Native.Nat.{◌+◌, ◌≤◌, ◌<◌}
use native.Mathlib.Omega.{arith}
use lib.Dec.{ltb}
use borrow.Author.Tests.{lt-ltb}
use lib.ListN.{length, length-append}
use Rattle.list.proofs.Bools.{which}
use Rattle.config.specs.Sizes.{slots}
use Rattle.state_filled.specs.Filled.{added}

-- where there is room it is put behind
pub added-more : {A : Type 0} (l : List A) (x : A) → length l < slots → added l x ≡ l ++ x ∷ []
added-more l x h = rw (lt-ltb (length l) slots h) refl

-- it has one more at most
pub added-length : {A : Type 0} (l : List A) (x : A) → length (added l x) ≤ length l + 1
added-length l x = go (which (ltb (length l) slots))
  where
    go : (ltb (length l) slots ≡ true) ⊎ (ltb (length l) slots ≡ false) → length (added l x) ≤ length l + 1
    go (inl t) = rw t (omega (arith, length-append l (x ∷ [])))
    go (inr f) = rw f (omega arith)
