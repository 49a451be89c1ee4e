-- How many are of one rate. Assumes nothing.
use mathlib.Core.Path.{◌≡◌, refl, sym, ap, ◌∙◌}
use mathlib.Core.Logic.{◌⊎◌, inl, inr}
use mathlib.Core.Bool.{Bool, true, false, cond}
use mathlib.Core.List.{List, [], ◌∷◌, ◌++◌, map, append-nil, append_assoc}
use Prim.Native.Nat.{ℕ, ◌+◌, ◌≤◌, ◌<◌, min}
use native.Mathlib.Omega.{arith}
use lib.ListN.{length, get_or, take, drop, length-append, length-take, length-map}
use Rattle.config.specs.Sizes.{slots}
use Rattle.feed.proofs.Tests.{which}
use Rattle.state.specs.declared.Used.{Used}
use Rattle.compile_order.specs.Marks.{is_rated, rated_as}

-- ---- the numbers of those of one rate

pub rated-most : (b : Bool) (us : List Used) → length (rated_as b us) ≤ length us
rated-most b [] = omega arith
rated-most b (u ∷ us) = go (which (is_rated b u)) (rated-most b us)
  where
    go : (is_rated b u ≡ true) ⊎ (is_rated b u ≡ false) → length (rated_as b us) ≤ length us → length (rated_as b (u ∷ us)) ≤ length (u ∷ us)
    go (inl t) ih = rw t (omega arith)
    go (inr t) ih = rw t (omega arith)

-- those that are audio and those that are not are all
pub rated-all : (us : List Used) → length (rated_as false us) + length (rated_as true us) ≡ length us
rated-all [] = refl
rated-all (u ∷ us) = go (which u.audio) (rated-all us)
  where
    go : (u.audio ≡ true) ⊎ (u.audio ≡ false) → length (rated_as false us) + length (rated_as true us) ≡ length us
        → length (rated_as false (u ∷ us)) + length (rated_as true (u ∷ us)) ≡ length (u ∷ us)
    go (inl t) ih = rw t (omega arith)
    go (inr t) ih = rw t (omega arith)
