-- Laws of slews that proofs cite in place of the definitions' text.
use mathlib.Core.Path.{◌≡◌, refl}
use lib.Ieee.{Float, nan, add, sub, mul, eq}
use Rattle.number.specs.Number.{zero32}
use Rattle.number.proofs.Laws.{plus-nan}
use Rattle.slew.specs.Slew.{reach, moved, slew_step}

-- in no samples nothing moves
pub reach-none : (rate : Float) → reach rate zero32 ≡ zero32
unfolding reach eq
reach-none rate = refl

-- a slew that is a NaN stays one
pub nan-stays : (up down snap u : Float) → slew_step up down snap nan u ≡ nan
unfolding slew_step moved add
nan-stays up down snap u = refl

-- a NaN as input makes it a NaN, also where it stands still
pub nan-arrives : (up down snap prev : Float) → slew_step up down snap prev nan ≡ nan
unfolding slew_step moved sub add mul
nan-arrives up down snap prev = plus-nan (moved up down prev nan)
