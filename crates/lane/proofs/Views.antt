-- The view of a route shows what the environment of its scene has. Assumes nothing.
use mathlib.Core.Path.{◌≡◌, refl, ap}
use mathlib.Core.List.{List}
use Prim.Native.Nat.{ℕ, ◌+◌, ◌*◌}
use native.Mathlib.Omega.{arith}
use lib.Ieee.{Float}
use Rattle.model.specs.Counts.{at}
use Rattle.state_filled.specs.Filled.{no_route}
use Rattle.model.specs.Env.{Env, Rows, Own}
use Rattle.model.specs.Layout.{route_slew}
use Rattle.model.specs.RouteValue.{route_value}
use Rattle.lane.specs.View.{own_rows, IsOwn}

-- the own rows of a route stand one after the other from its first on
pub own-rows : (stride chunks plans first j a : ℕ) (m : List Float) → a ≡ route_slew stride chunks plans (first + j) 0
    → IsOwn (own_rows stride chunks plans first m) j a stride m
own-rows stride chunks plans first j a m e q l =
    let same : route_slew stride chunks plans (first + j) q + l ≡ a + q * stride + l = omega arith in
    ap (at m) same

-- ---- no route

-- what is not there reads no own rows, so that any will do
pub no-route-value : (t : Env) (f : Rows) (s s' : Own) (j lane : ℕ) → route_value t f s j lane no_route ≡ route_value t f s' j lane no_route
unfolding route_value
no-route-value t f s s' j lane = refl
