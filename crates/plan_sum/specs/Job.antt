-- What the sum of a destination is worked out from, and that it is the environment's and the mix's. Definitions only.
use Rattle.std.specs.Prelude.{◌≡◌, Bool, false, List, ℕ, ◌+◌, ◌≤◌, ◌<◌, get_or, Float}
use Rattle.config.specs.Sizes.{slots}
use Rattle.number.specs.Number.{times}
use Rattle.state.specs.declared.Base.{Base}
use Rattle.state.specs.declared.Base.TheVariants as B
use Rattle.state.specs.declared.Gains.{Gains}
use Rattle.state.specs.declared.Plan.{Plan}
use Rattle.state.specs.declared.Route.{Route}
use Rattle.state.specs.declared.Signals.{Signals}
use Rattle.state_filled.specs.Filled.{no_route}
use Rattle.model.specs.Counts.{at}
use Rattle.model.specs.Env.{Env, Rows, Own}
use Rattle.model.specs.Layout.{plan_width, route_slew}
use Rattle.model.specs.Mix.{Mix}
use Rattle.lane_input.specs.declared.Scene.{Scene}
use Rattle.lane_input.specs.Reads.{Reads, Works, part_for, point_of}
use Rattle.lane.specs.declared.View.{View}
use Rattle.lane.specs.View.{IsOwn}
use Rattle.plan_sum.specs.declared.Job.{Job}

-- b says which of the routes r are simple
abbrev pub AreSimple : List Route → List Bool → Type 0
AreSimple r b = (i : ℕ) → get_or b i false ≡ (get_or r i no_route).simple

-- no route of the plan is simple
abbrev pub NoneSimple : List Route → Plan → Type 0
NoneSimple r p = (j : ℕ) → j < p.count → (get_or r (p.first + j) no_route).simple ≡ false

-- sizes below their limits; where the job says so, no route of the plan is simple
pub record Bounded (w : Job) : Type 0 where
  pub stride : w.scene.stride ≤ 64
  pub chunks : w.chunks ≤ 130
  pub plans : w.plans ≤ slots
  pub simple : w.simple ≡ false → NoneSimple w.routes w.plan

-- the lanes of the plan's row
abbrev pub lane_count : Job → ℕ
lane_count w = plan_width w.scene.stride w.plan.voice

-- route j of the plan
abbrev pub route_of : Job → ℕ → Route
route_of w j = get_or w.routes (w.plan.first + j) no_route

-- a slot's amount times its output
abbrev pub slot_gain : Gains → ℕ → Float
slot_gain g slot = times (at g.amount slot) (at g.output slot)

-- the base by what there is to read: bases a, globals g
abbrev pub base_by : Gains → List Float → List Float → ℕ → Base → Float
base_by s g a dest B.Set = at a dest
base_by s g a dest (B.Held src) = at g src
base_by s g a dest (B.Amount slot) = at s.amount slot
base_by s g a dest (B.Output slot) = at s.output slot

-- x is the mix of a plan of these routes
pub record IsMix (x : Mix) (p : Plan) (routes : List Route) : Type 0 where
  pub dest : x.dest ≡ p.dest
  pub voice : x.voice ≡ p.voice
  pub min : x.min ≡ p.min
  pub max : x.max ≡ p.max
  pub base : x.base ≡ p.base
  pub count : x.count ≡ p.count
  pub route : (j : ℕ) → j < p.count → x.route j ≡ get_or routes (p.first + j) no_route

-- t has what the scene and the signals have
pub record IsScene (t : Env) (s : Scene) (g : Signals) : Type 0 where
  pub stride : t.stride ≡ s.stride
  pub voices : t.voices ≡ s.voices
  pub fresh : t.fresh ≡ s.fresh
  pub gains : t.gains ≡ s.gains
  pub primed : t.primed ≡ s.primed
  pub signals : t.signals ≡ g
  pub frame : t.frame ≡ s.frame
  pub up_to : t.up_to ≡ s.up_to
  pub steps : t.steps ≡ s.steps
  pub snap : t.snap ≡ s.snap

-- t and x are the job's
pub record IsJob (t : Env) (x : Mix) (w : Job) : Type 0 where
  pub scene : IsScene t w.scene w.signals
  pub mix : IsMix x w.plan w.routes

-- and f and s are what the lent numbers have: held numbers h, globals g, samples i, values m
pub record Mixes (t : Env) (f : Rows) (s : Own) (x : Mix) (w : Job) (h g i m : List Float) : Type 0 where
  pub job : IsJob t x w
  pub reads : Reads t f (point_of w.scene w.chunks) h g i m
  pub own : (j : ℕ) → w.plan.first + j < slots → IsOwn s j (route_slew w.scene.stride w.chunks w.plans (w.plan.first + j) 0) w.scene.stride m

-- with bases a and tables b: all that a sum is worked out from
pub record Sums (t : Env) (f : Rows) (s : Own) (x : Mix) (w : Job) (h g a b i m : List Float) : Type 0 where
  pub mixes : Mixes t f s x w h g i m
  pub works : Works t (point_of w.scene w.chunks) b
  pub bases : t.bases ≡ a

-- what the source of route j, which is r, reads is what the view and the lent numbers have
pub record Shown (t : Env) (f : Rows) (s : Own) (j : ℕ) (v : View) (r : Route) (h g i m : List Float) : Type 0 where
  pub reads : Reads t f v.point h g i m
  pub own : IsOwn s j v.own v.point.stride m
  pub source : part_for t.signals r.source.read ≡ v.source
