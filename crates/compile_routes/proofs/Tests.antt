-- A test by a call, and what it says of the definition that the call computes. Assumes nothing.
use mathlib.Core.Path.{◌≡◌, sym, ◌∙◌}
use mathlib.Core.Bool.{Bool, true, false, not}

pub was-true : {r a : Bool} → r ≡ a → not r ≡ false → a ≡ true
was-true {r = true} e h = sym e
was-true {r = false} e h = sym e ∙ sym h

pub was-false : {r a : Bool} → r ≡ a → not r ≡ true → a ≡ false
was-false {r = true} e h = sym e ∙ sym h
was-false {r = false} e h = sym e
