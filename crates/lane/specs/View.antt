-- What the lanes of one route are worked out from, and that it is the environment's. Definitions only.
use Rattle.std.specs.Prelude.{◌≡◌, List, ℕ, ◌+◌, ◌*◌, ◌≤◌, Float, Option, Some, None}
use Rattle.state.specs.declared.Input.{Input}
use Rattle.state.specs.declared.Route.{Route}
use Rattle.state.specs.declared.SignalPart.{SignalPart}
use Rattle.state.specs.declared.Signals.{Signals}
use Rattle.model.specs.Env.{Env, Rows, Own, no_part, live_amount_of, live_output_of}
use Rattle.model.specs.Layout.{route_slew}
use Rattle.model.specs.Tick.{lanes_from}
use Rattle.lane_input.specs.Reads.{Sized, Reads, Works, part_for}
use Rattle.lane.specs.declared.View.{View}

-- the most numbers that the values of a program have
abbrev pub most_values : ℕ
most_values = 1122304

-- sizes and starts below their limits
pub record Placed (v : View) : Type 0 where
  pub sized : Sized v.point
  pub start : v.own ≤ most_values

-- the part of the signal that an aux reads, where there is an aux that reads one
abbrev pub aux_part : Signals → Option Input → SignalPart
aux_part s None = no_part
aux_part s (Some i) = part_for s i.read

-- the own rows of the routes from `first` on
abbrev pub own_rows : ℕ → ℕ → ℕ → ℕ → List Float → Own
own_rows stride chunks plans first m j q = lanes_from m (route_slew stride chunks plans (first + j) q)

-- the own rows of route j start at a in the values m
abbrev pub IsOwn : Own → ℕ → ℕ → ℕ → List Float → Type 0
IsOwn s j a stride m = (q l : ℕ) → s j q l ≡ lanes_from m (a + q * stride) l

-- what t, f and s have of route j, which is r, is what the view and the lent numbers have: held numbers h, globals g, tables b, samples i, values m
pub record Viewed (t : Env) (f : Rows) (s : Own) (j : ℕ) (v : View) (r : Route) (h g b i m : List Float) : Type 0 where
  pub reads : Reads t f v.point h g i m
  pub works : Works t v.point b
  pub own : IsOwn s j v.own v.point.stride m
  pub source : part_for t.signals r.source.read ≡ v.source
  pub aux : aux_part t.signals r.aux ≡ v.aux
  pub amount : live_amount_of t r.slot ≡ v.amount
  pub output : live_output_of t r.slot ≡ v.output
