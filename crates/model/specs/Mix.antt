-- What goes into one destination: its scope, bounds and base, and its routes in slot order. Of a plan it is read off
-- the program; of the model off slots and registries (Rule). Definitions only.
use Rattle.std.specs.Prelude.{Bool, ℕ, ◌+◌, Float}
use Rattle.state.specs.declared.Base.{Base}
use Rattle.state.specs.declared.Route.{Route}
use Rattle.state.specs.declared.State.{State}
use Rattle.model.specs.Counts.{plan_at, route_at}

pub record Mix : Type 0 where
  -- its number
  pub dest : ℕ
  -- it is per voice
  pub voice : Bool
  -- the lower bound
  pub min : Float
  -- the upper bound
  pub max : Float
  -- where its base is read: as set, or from the thing that it feeds
  pub base : Base
  -- how many routes
  pub count : ℕ
  -- each of them, in slot order
  pub route : ℕ → Route

-- of plan d
abbrev pub plan_mix : State → ℕ → Mix
plan_mix st d =
    record {
      dest = (plan_at st d).dest;
      voice = (plan_at st d).voice;
      min = (plan_at st d).min;
      max = (plan_at st d).max;
      base = (plan_at st d).base;
      count = (plan_at st d).count;
      route = λ j. route_at st ((plan_at st d).first + j);
    }
