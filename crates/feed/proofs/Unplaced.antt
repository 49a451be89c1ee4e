-- Turns of the loops that go through the marks. Assumes nothing.
use mathlib.Core.Path.{◌≡◌}
use mathlib.Core.Logic.{◌≢◌}
use mathlib.Core.Bool.{Bool, true, false}
use mathlib.Core.List.{List, [], ◌∷◌}
use Prim.Native.Nat.{ℕ, suc, ◌+◌, ◌-◌, ◌≤◌, ◌<◌}
use native.Mathlib.Omega.{arith}
use native.Mathlib.Numerals.{add-one}
use lib.ListN.{get_or}
use borrow.Author.Tests.{eq-eqb, ne_eqb}
use Rattle.feed.specs.Numbers.{keep, first_or}
use Rattle.feed.specs.Order.{fed_by}
use Rattle.feed.specs.Marks.{unplaced}

module _ (p : List Bool) (n a : ℕ) (h : a < n) where
  one_more : n - a ≡ suc (n - (a + 1))
  one_more = omega arith

  pub unplaced-taken : get_or p a false ≡ true → unplaced p a (n - a) ≡ unplaced p (a + 1) (n - (a + 1))
  unplaced-taken t = rw (one_more, add-one, t)

  pub unplaced-left : get_or p a false ≡ false → unplaced p a (n - a) ≡ a ∷ unplaced p (a + 1) (n - (a + 1))
  unplaced-left t = rw (one_more, add-one, t)

pub unplaced-end : (p : List Bool) (n a : ℕ) → n ≤ a → unplaced p a (n - a) ≡ []
unplaced-end p n a h = let e : n - a ≡ 0 = omega arith in rw e

-- a turn of `is_fed`
module _ (feeds : ℕ → ℕ → Bool) (p : List Bool) (n b a : ℕ) (h : a < n) where
  pub fed-taken : get_or p a false ≡ true → fed_by feeds (unplaced p a (n - a)) b ≡ fed_by feeds (unplaced p (a + 1) (n - (a + 1))) b
  fed-taken t = rw (unplaced-taken p n a h t)

  pub fed-not : get_or p a false ≡ false → feeds a b ≡ false → fed_by feeds (unplaced p a (n - a)) b ≡ fed_by feeds (unplaced p (a + 1) (n - (a + 1))) b
  fed-not t z = rw (unplaced-left p n a h t, z)

  pub fed-self : get_or p a false ≡ false → feeds a b ≡ true → a ≡ b → fed_by feeds (unplaced p a (n - a)) b ≡ fed_by feeds (unplaced p (a + 1) (n - (a + 1))) b
  fed-self t z e = rw (unplaced-left p n a h t, z, eq-eqb a b e)

  pub fed-here : get_or p a false ≡ false → feeds a b ≡ true → a ≢ b → true ≡ fed_by feeds (unplaced p a (n - a)) b
  fed-here t z ne = rw (unplaced-left p n a h t, z, ne_eqb a b ne)

-- a turn of a search for the first that passes
module _ (test : ℕ → Bool) (p : List Bool) (z n a : ℕ) (h : a < n) where
  pub first_taken : get_or p a false ≡ true → first_or z (keep test (unplaced p a (n - a))) ≡ first_or z (keep test (unplaced p (a + 1) (n - (a + 1))))
  first_taken t = rw (unplaced-taken p n a h t)

  pub first-not : get_or p a false ≡ false → test a ≡ false → first_or z (keep test (unplaced p a (n - a))) ≡ first_or z (keep test (unplaced p (a + 1) (n - (a + 1))))
  first-not t f = rw (unplaced-left p n a h t, f)

  pub first-here : get_or p a false ≡ false → test a ≡ true → a ≡ first_or z (keep test (unplaced p a (n - a)))
  first-here t f = rw (unplaced-left p n a h t, f)
