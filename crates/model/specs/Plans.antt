-- The plans and the routes of a program, and the program itself (document 01, Plan and route; program.rs 371-558).
-- Definitions only.
use Rattle.std.specs.Prelude.{Bool, cond, List, [], ◌∷◌, ◌++◌, map, ℕ, ◌+◌, eqb, length, Float}
use Rattle.config.specs.Sizes.{slots}
use Rattle.list.specs.Padded.{padded}
use Rattle.state.specs.declared.Slot.{Slot}
use Rattle.state.specs.declared.Sources.{Sources}
use Rattle.state.specs.declared.Dest.{Dest}
use Rattle.state.specs.declared.Destinations.{Destinations}
use Rattle.state.specs.declared.Base.{Base}
use Rattle.state.specs.declared.Plan.{Plan}
use Rattle.state.specs.declared.Route.{Route}
use Rattle.state.specs.declared.Gains.{Gains}
use Rattle.state.specs.declared.Program.{Program}
use Rattle.state.specs.declared.Wiring.{Wiring}
use Rattle.state.specs.declared.Candidate.{Candidate}
use Rattle.state.specs.declared.Reader.{Reader}
use Rattle.state.specs.Registry.{source_count, dest_count, dest_at}
use Rattle.state_filled.specs.Filled.{no_plan, no_route, no_skip}
use Rattle.slots_tables.specs.Tables.{names_table}
use Rattle.model.specs.Wiring.{candidates, skipped_of}
use Rattle.model.specs.Feeds.{is_voice, counted, hears_audio, audio_in, readers_of, controls, plan_order}
use Rattle.model.specs.Routes.{route_in, routes_in}

-- ---- the routes of a destination, in slot order: "Routes of a plan stand in slot order"

abbrev pub readers_into : ℕ → List Reader → List Reader
readers_into d [] = []
readers_into d (r ∷ rs) = let later = readers_into d rs in cond (eqb r.candidate.dest d) (r ∷ later) later

-- of the destinations of the list; os is the whole order
abbrev pub routes_over : Float → Sources → Destinations → List Slot → List Reader → List ℕ → List ℕ → List Route
routes_over rate ss ds slots rs os [] = []
routes_over rate ss ds slots rs os (d ∷ l) =
    routes_in rate ss os slots (is_voice (dest_at ds d).scope) (readers_into d rs)
    ++ routes_over rate ss ds slots rs os l

-- ---- plans

-- the plan of d, whose routes are count from number first on
unfoldable pub plan_by : ℕ → Dest → Base → Bool → ℕ → ℕ → Plan
plan_by d e base audio first count =
    record {
      dest = d;
      voice = is_voice e.scope;
      audio = audio;
      min = e.min;
      max = e.max;
      base = base;
      first = first;
      count = count;
    }

-- of the destinations of the list, whose routes start at number f
abbrev pub plans_in : Sources → Destinations → List Candidate → List Reader → ℕ → List ℕ → List Plan
plans_in ss ds cs rs f [] = []
plans_in ss ds cs rs f (d ∷ l) =
    let n = length (readers_into d rs) in
    plan_by d (dest_at ds d) (counted ss (dest_at ds d).feed) (audio_in ss cs d (dest_at ds d)) f n
    ∷ plans_in ss ds cs rs (f + n) l

unfoldable pub plans_of : Wiring → List Plan
unfolding plan_by plan_order candidates hears_audio readers_of
plans_of w = plans_in w.sources w.dests (candidates w) (readers_of w) 0 (plan_order w)

unfoldable pub all_routes : Wiring → List Route
unfolding route_in plan_order readers_of
all_routes w =
    routes_over w.config.sample_rate w.sources w.dests w.matrix.slot (readers_of w) (plan_order w)
    (plan_order w)

-- ---- THE PROGRAM

-- every slot's amount and output, "compiling clamps nothing" (program.rs 521-526)
abbrev pub gains_of : List Slot → Gains
gains_of ss = record { amount = map (λ s. s.amount) ss; output = map (λ s. s.output) ss }

unfoldable pub compiled : Wiring → Program
unfolding padded candidates skipped_of controls plan_order plans_of all_routes names_table
compiled w =
    record {
      config = w.config;
      sources = source_count w.sources;
      dests = dest_count w.dests;
      plans = length (plan_order w);
      control = length (controls w);
      routes = length (candidates w);
      plan = padded slots no_plan (plans_of w);
      route = padded slots no_route (all_routes w);
      gains = gains_of w.matrix.slot;
      velocity = w.matrix.velocity;
      key = w.matrix.key;
      glide = w.matrix.glide;
      velocity_legato = w.matrix.velocity_legato;
      tabled = names_table w.matrix;
      skips = length (skipped_of w);
      skipped = padded slots no_skip (skipped_of w);
    }
