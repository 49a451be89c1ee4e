-- A choice by a test that is known. Assumes nothing.
use mathlib.Core.Path.{◌≡◌}
use mathlib.Core.Bool.{Bool, true, false, cond}

module _ {A : Type 0} where
  pub cond-true : (b : Bool) (x y : A) → b ≡ true → cond b x y ≡ x
  cond-true b x y e = rw e

  pub cond-false : (b : Bool) (x y : A) → b ≡ false → cond b x y ≡ y
  cond-false b x y e = rw e

  -- what holds of both holds of either
  pub cond_of : (P : A → Type 0) (b : Bool) (x y : A) → P x → P y → P (cond b x y)
  cond_of P true x y p q = p
  cond_of P false x y p q = q
