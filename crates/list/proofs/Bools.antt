-- The halves of a test. Assumes nothing.
use mathlib.Core.Path.{◌≡◌, refl}
use mathlib.Core.Logic.{◌⊎◌, inl, inr}
use mathlib.Core.Bool.{Bool, true, false, ◌&&◌, ◌||◌}

-- a test passes or fails, with the equation
pub which : (b : Bool) → (b ≡ true) ⊎ (b ≡ false)
which true = inl refl
which false = inr refl

pub or-false-l : (a b : Bool) → a || b ≡ false → a ≡ false
or-false-l true b h = h
or-false-l false b h = refl

pub or-false-r : (a b : Bool) → a || b ≡ false → b ≡ false
or-false-r true b h = cc
or-false-r false b h = h

pub or-true-cases : (a b : Bool) → a || b ≡ true → (a ≡ true) ⊎ (b ≡ true)
or-true-cases true b h = inl refl
or-true-cases false b h = inr h

pub and-true-l : (a b : Bool) → a && b ≡ true → a ≡ true
and-true-l true b h = refl
and-true-l false b h = h

pub and_true_r : (a b : Bool) → a && b ≡ true → b ≡ true
and_true_r true b h = h
and_true_r false b h = cc

-- ---- a test of which the first half is known

pub and-false : {a : Bool} (b : Bool) → a ≡ false → false ≡ (a && b)
and-false b h = rw h

pub and-true : {a b : Bool} → a ≡ true → b ≡ (a && b)
and-true h = rw h

pub or-true : {a : Bool} (b : Bool) → a ≡ true → true ≡ (a || b)
or-true b h = rw h

pub or-false : {a b : Bool} → a ≡ false → b ≡ (a || b)
or-false h = rw h
