-- In which lanes slews move. Assumes nothing.
use mathlib.Core.Path.{◌≡◌, ◌∙◌}
use mathlib.Core.Bool.{Bool, not, ◌&&◌, ◌||◌}
use Prim.Native.Nat.{ℕ}
use Rattle.state.specs.declared.Route.{Route}
use Rattle.model.specs.Env.{Env}
use Rattle.model.specs.Lanes.{worked}
use Rattle.model.specs.Mix.{Mix}
use Rattle.model.specs.Slews.{moves_in}
use Rattle.plan_slews.specs.declared.Motion.{Motion}
use Rattle.plan_slews.specs.Seen.{Moved}

pub moves_of : (t : Env) (x : Mix) (u : Route) (m : Motion) (l : ℕ) {w r v : Bool} → u.voice ≡ v → Moved t x u m → r ≡ not (m.plain || m.idle) && w → w ≡ worked t m.voice v l → r ≡ moves_in t x u l
moves_of t x u m l q k e d = e ∙ rw (k.plain, k.idle, d, ← k.voice, ← q)
