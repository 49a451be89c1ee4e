-- A call that is refused leaves what it would have written as it was. Assumes nothing.
use mathlib.Core.Path.{◌≡◌}
use mathlib.Core.Bool.{cond}
use Prim.Native.Nat.{◌<◌}
use native.Mathlib.Omega.{arith}
use borrow.Author.Tests.{ne_eqb}
use lib.Dec.{eqb}
use Rattle.refusal.specs.Refusal.{number_of}
use Rattle.refusal.specs.declared.Refusal.{Refusal}
use Rattle.refusal.proofs.Laws.{number-above}

-- a refusal's number is not that of an accepted call
pub number-taken : (r : Refusal) → number_of r ≡ 0 → ⊥
number-taken r z = let a : 0 < number_of r = number-above r in omega arith

pub kept : {A : Type 0} (r : Refusal) (x y : A) → y ≡ cond (eqb (number_of r) 0) x y
kept r x y = rw (ne_eqb (number_of r) 0 (number-taken r))
