-- The slews of a destination's routes after it was worked out once (engine.rs 1326-1343, 1434-1446). Definitions only.
use Rattle.std.specs.Prelude.{Bool, not, cond, ◌&&◌, ◌||◌, ℕ, Float, Option, Some, None}
use Rattle.state.specs.declared.Input.{Input}
use Rattle.state.specs.declared.Route.{Route}
use Rattle.model.specs.Env.{Env, Rows, Own}
use Rattle.model.specs.Mix.{Mix}
use Rattle.model.specs.Lanes.{worked}
use Rattle.model.specs.RouteValue.{source_in, aux_in, idle, plain}
use Rattle.model.specs.Routes.{free_slew}

-- the lanes whose slews move
abbrev pub moves_in : Env → Mix → Route → ℕ → Bool
moves_in t x r l = not (plain t x.voice r || idle t r) && worked t x.voice r.voice l

-- the aux's, where there is one
abbrev pub aux_slew : Env → Mix → Rows → Own → ℕ → Route → ℕ → Option Input → Float
aux_slew t x f s j r l None = s j 1 l
aux_slew t x f s j r l (Some i) = cond (not (free_slew i.slew) && moves_in t x r l) (aux_in t f s j l r i) (s j 1 l)

-- THE SLEWS of route j afterwards, of its source and of its aux, in lane l
unfoldable pub source_after : Env → Mix → Rows → Own → ℕ → ℕ → Float
unfolding plain
source_after t x f s j l =
    cond (not (free_slew (x.route j).source.slew) && moves_in t x (x.route j) l) (source_in t f s j l (x.route j))
    (s j 0 l)

unfoldable pub aux_after : Env → Mix → Rows → Own → ℕ → ℕ → Float
unfolding plain
aux_after t x f s j l = aux_slew t x f s j (x.route j) l (x.route j).aux
