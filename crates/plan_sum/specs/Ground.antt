-- What the routes of a job are worked out from, the lanes that they are added in, and where a plain route's numbers stand. Definitions only.
use Rattle.std.specs.Prelude.{◌≡◌, false, cond, ◌&&◌, List, ℕ, ◌+◌, ◌/◌, ◌≤◌, ◌<◌, ltb, leb, length, get_or, Float, Option, Some, None}
use Rattle.config.specs.Sizes.{slots, most_sources, lanes}
use Rattle.state.specs.declared.Read.{Read}
use Rattle.state.specs.declared.Read.TheVariants as D
use Rattle.state.specs.declared.Input.{Input}
use Rattle.state.specs.declared.Route.{Route}
use Rattle.state.specs.declared.SignalPart.{SignalPart}
use Rattle.state_filled.specs.Filled.{no_route}
use Rattle.model.specs.Counts.{at}
use Rattle.model.specs.Env.{Env}
use Rattle.model.specs.Lanes.{any_from, in_group, in_span}
use Rattle.model.specs.Layout.{route_slew}
use Rattle.model.specs.Mix.{Mix}
use Rattle.model.specs.Sums.{offsets, some_plain, all_plain}
use Rattle.lane_input.specs.Reads.{Sized, point_of}
use Rattle.lane.specs.declared.View.{View}
use Rattle.plan_sum.specs.declared.Job.{Job}
use Rattle.plan_sum.specs.Job.{route_of}
use Rattle.plan_sum.specs.declared.Ground.{Ground}
use Rattle.plan_sum.specs.declared.Place.{Place}
use Rattle.plan_sum.specs.declared.Place.TheVariants as P
use Rattle.plan_sum.specs.declared.Reach.{Reach}
use Rattle.plan_sum.specs.declared.Span.{Span}
use Rattle.plan_sum.specs.declared.Totals.{Totals}

-- sizes below their limits
pub record Based (g : Ground) : Type 0 where
  pub sized : Sized g.point
  pub plans : g.plans ≤ slots

abbrev pub ground_of : Job → Ground
ground_of w =
    record {
      voice = w.plan.voice;
      sounds = any_from w.scene.voices.active 0 w.scene.stride;
      first = w.plan.first;
      plans = w.plans;
      up_to = w.scene.up_to;
      point = point_of w.scene w.chunks;
      gains = w.scene.gains;
    }

-- the ground is the job's, and r is its route j
pub record Chosen (w : Job) (g : Ground) (j : ℕ) (r : Route) : Type 0 where
  pub ground : g ≡ ground_of w
  pub route : r ≡ route_of w j
  pub past : slots ≤ w.plan.first + j → r ≡ no_route

-- the source whose signal an input reads; where it reads none, the number after the last
abbrev pub part_key : Read → ℕ
part_key (D.Signal src voice) = src
part_key (D.Held src voice) = most_sources
part_key (D.Fed e voice) = most_sources
part_key D.Constant = most_sources
part_key D.RouteRandom = most_sources

abbrev pub aux_key : Option Input → ℕ
aux_key None = most_sources
aux_key (Some i) = part_key i.read

-- where the own rows of route j start, where there is such a route
abbrev pub own_by : Ground → ℕ → ℕ
own_by g j = cond (ltb (g.first + j) slots) (route_slew g.point.stride g.point.chunks g.plans (g.first + j) 0) 0

-- the view of route j, which is r, whose inputs read these parts
abbrev pub view_by : Ground → ℕ → Route → SignalPart → SignalPart → View
view_by g j r source aux =
    record {
      point = g.point;
      own = own_by g j;
      source = source;
      aux = aux;
      amount = at g.gains.amount r.slot;
      output = at g.gains.output r.slot;
    }

-- n numbers from the place on lie in the held numbers h, the samples i or the values m
abbrev pub Inside : Place → ℕ → List Float → List Float → List Float → Type 0
Inside (P.Held a) n h i m = a + n ≤ length h
Inside (P.Values a) n h i m = a + n ≤ length m
Inside (P.Samples a) n h i m = a + n ≤ length i
Inside P.Nowhere n h i m = Unit {0}

-- the number of lane l at the place is z
abbrev pub Tells : Place → List Float → List Float → List Float → ℕ → Float → Type 0
Tells (P.Held a) h i m l z = z ≡ at h (a + l)
Tells (P.Values a) h i m l z = z ≡ at m (a + l)
Tells (P.Samples a) h i m l z = z ≡ at i (a + l)
Tells P.Nowhere h i m l z = Unit {0}

-- it is the active span of t
abbrev pub Spanned : Env → Span → Type 0
Spanned t z = (l : ℕ) → l < t.stride → in_span t l ≡ leb z.first l && ltb l z.end

-- t has these voices, fresh lanes and groups with an active voice
pub record Reached (t : Env) (z : Reach) : Type 0 where
  pub voices : t.voices ≡ z.voices
  pub fresh : t.fresh ≡ z.fresh
  pub snap : t.snap ≡ z.snap
  pub groups : (l : ℕ) → l < 64 → get_or z.groups (l / lanes) false ≡ in_group t l

-- what the plain routes of the first k come to
pub record Totalled (t : Env) (x : Mix) (k : ℕ) (z : Totals) : Type 0 where
  pub some : z.some ≡ some_plain t x k
  pub all : z.all ≡ all_plain t x k
  pub offset : z.offset ≡ offsets t x k
