-- A test of a number r that a call gave, as the test of what the call ensures that r is. Assumes nothing.
use mathlib.Core.Path.{◌≡◌}
use mathlib.Core.Bool.{true, false}
use Prim.Native.Nat.{ℕ, ◌≤◌, ◌<◌}
use native.Mathlib.Omega.{arith}
use lib.Dec.{leb, ltb}
use borrow.Author.Tests.{lt-ltb, le-ltb, le-leb, lt-leb}

module _ (a r b : ℕ) (e : r ≡ b) where
  pub below : a < r → ltb a b ≡ true
  below h = lt-ltb a b (omega arith)

  pub not-below : r ≤ a → ltb a b ≡ false
  not-below h = le-ltb a b (omega arith)

  pub reached : r ≤ a → leb b a ≡ true
  reached h = le-leb b a (omega arith)

  pub not-reached : a < r → leb b a ≡ false
  not-reached h = lt-leb b a (omega arith)
