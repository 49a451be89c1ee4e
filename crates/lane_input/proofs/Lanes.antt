-- Which lanes a route is added to and worked out in, by what the code finds. Assumes nothing.
use mathlib.Core.Path.{◌≡◌, refl, sym}
use mathlib.Core.Bool.{Bool, true, false}
use Prim.Native.Nat.{ℕ}
use lib.Dec.{ltb}
use Rattle.config.specs.Sizes.{lanes}
use Rattle.model.specs.Env.{Env}
use Rattle.model.specs.Input.{own}
use Rattle.model.specs.Lanes.{in_group, lane_if, addend, worked}

-- into a plan per voice
plan-addend : (t : Env) (route : Bool) (l : ℕ) → addend t true route l ≡ lane_if (in_group t l) (own route l)
plan-addend t true l = refl
plan-addend t false l = refl

pub own-addend : (t : Env) (plan route : Bool) (l : ℕ) (found : Bool) (at : ℕ) → plan ≡ true → found ≡ in_group t l → at ≡ own route l
    → lane_if found at ≡ addend t plan route l
own-addend t plan route l found at p e d = rw (p, e, d) (sym (plan-addend t route l))

-- a route that is not per voice
pub global-worked : (t : Env) (plan route : Bool) (l : ℕ) → route ≡ false → ltb l lanes ≡ worked t plan route l
global-worked t true route l e = rw e
global-worked t false route l e = rw e
