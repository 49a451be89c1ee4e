-- What an input reads in each lane, and that it is the environment's. Definitions only.
use Rattle.std.specs.Prelude.{◌≡◌, Bool, not, cond, ◌&&◌, List, ℕ, ◌+◌, ◌<◌, Float, Option, Some, None}
use Rattle.config.specs.Sizes.{lanes}
use Rattle.state.specs.declared.Input.{Input}
use Rattle.state.specs.declared.Read.{Read}
use Rattle.state.specs.declared.Route.{Route}
use Rattle.state.specs.declared.SignalPart.{SignalPart}
use Rattle.model.specs.Counts.{at}
use Rattle.model.specs.Env.{Env, Rows, Own}
use Rattle.model.specs.Input.{read_in}
use Rattle.model.specs.Lanes.{snap_of}
use Rattle.model.specs.Routes.{free_slew}
use Rattle.model.specs.RouteValue.{own_at, source_in, aux_in, raw_in}
use Rattle.lane_input.specs.Reads.{Reads, part_for}
use Rattle.lane.specs.declared.View.{View}
use Rattle.lane.specs.View.{IsOwn}
use Rattle.plan_sum.specs.declared.Place.{Place}
use Rattle.plan_sum.specs.Ground.{Tells}

-- what an input that reads d at a position reads in a lane
abbrev pub read_at : Env → Rows → Own → ℕ → ℕ → Read → ℕ → Float
read_at t f s j position d l = read_in t f (own_at t s j (2 + position) l) l d

-- what t, f and s have of an input of route j, which reads d from the part p, is what the view and the lent numbers have
pub record Told (t : Env) (f : Rows) (s : Own) (j : ℕ) (v : View) (d : Read) (p : SignalPart) (h g i m : List Float) : Type 0 where
  pub reads : Reads t f v.point h g i m
  pub own : IsOwn s j v.own v.point.stride m
  pub part : part_for t.signals d ≡ p

-- its numbers stand at the place
abbrev pub Stands : Env → Rows → Own → ℕ → ℕ → Read → Place → ℕ → List Float → List Float → List Float → Type 0
Stands t f s j position d z n h i m = (l : ℕ) → l < n → Tells z h i m l (read_at t f s j position d l)

-- the same of an aux, where there is one
abbrev pub AuxStands : Env → Rows → Own → ℕ → Option Input → Place → ℕ → List Float → List Float → List Float → Type 0
AuxStands t f s j None z n h i m = Unit {0}
AuxStands t f s j (Some u) z n h i m = Stands t f s j 1 u.read z n h i m

-- the source has neither curve nor slew
abbrev pub bare : Input → Bool
bare i = not i.table && free_slew i.slew

-- the source of route j, which is r: as it is read, where it has neither curve nor slew
abbrev pub lead_in : Env → Rows → Own → ℕ → ℕ → Route → Float
lead_in t f s j l r = cond (bare r.source) (raw_in t f s j l r) (source_in t f s j l r)

-- sixteen lanes from a on: where slews end at their input, the source, and the aux where there is one
abbrev pub Snaps : Env → Bool → ℕ → List Float → Type 0
Snaps t voice a z = (l : ℕ) → l < lanes → at z l ≡ snap_of t voice (a + l)

abbrev pub Leads : Env → Rows → Own → ℕ → Route → ℕ → List Float → Type 0
Leads t f s j r a z = (l : ℕ) → l < lanes → at z l ≡ lead_in t f s j (a + l) r

abbrev pub Withs : Env → Rows → Own → ℕ → Route → Option Input → ℕ → List Float → Type 0
Withs t f s j r None a z = Unit {0}
Withs t f s j r (Some u) a z = (l : ℕ) → l < lanes → at z l ≡ aux_in t f s j (a + l) r u
