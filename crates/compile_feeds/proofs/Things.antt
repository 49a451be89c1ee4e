-- What is fed. Assumes nothing.
use mathlib.Core.Path.{◌≡◌, refl}
use mathlib.Core.Bool.{false}
use Rattle.state.specs.declared.Base.{Base}
use Rattle.state.specs.declared.Base.TheVariants as B
use Rattle.model.specs.Feeds.{same_thing}

-- a destination's own base is no thing that is fed
pub set-is-none : (b : Base) → same_thing B.Set b ≡ false
set-is-none B.Set = refl
set-is-none (B.Held j) = refl
set-is-none (B.Amount j) = refl
set-is-none (B.Output j) = refl
