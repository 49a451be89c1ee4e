-- Where the numbers of a program stand in the two memories lent to it (docs/CALLS.md, Memories; document 01, row 14).
-- Definitions only. A place follows from the number of a plan or of a route and from the sizes. First the places by
-- themselves, then the same as parts of a memory.
use Rattle.std.specs.Prelude.{◌≡◌, refl, Bool, cond, ◌⊎◌, ℕ, ◌+◌, ◌*◌, ◌≤◌, ◌<◌, eqb, get_or}
use Rattle.config.specs.Sizes.{lane_stride, most_chunks}
use Rattle.state.specs.declared.Program.{Program}
use Rattle.state_filled.specs.Filled.{no_plan}
use Rattle.model.specs.Need.{values_rows}

-- ---- places

-- the numbers of a row of a plan: a lane stride where the plan is per voice, else 1
abbrev pub plan_width : ℕ → Bool → ℕ
plan_width stride voice = cond voice stride 1

-- in `values` the plans stand first: from, to, the chunks' from and to, and four spare rows
abbrev pub plan_size : ℕ → ℕ → ℕ
plan_size stride chunks = stride * (2 * chunks + 6)

-- plan i: "from" and "to" of the last tick
abbrev pub plan_from : ℕ → ℕ → ℕ → ℕ
plan_from stride chunks i = i * plan_size stride chunks

abbrev pub plan_to : ℕ → ℕ → ℕ → ℕ
plan_to stride chunks i = i * plan_size stride chunks + stride

-- plan i, of width w: "from" and "to" of chunk c
abbrev pub chunk_from : ℕ → ℕ → ℕ → ℕ → ℕ → ℕ
chunk_from stride chunks i w c = i * plan_size stride chunks + (2 * stride + c * w)

abbrev pub chunk_to : ℕ → ℕ → ℕ → ℕ → ℕ → ℕ
chunk_to stride chunks i w c = i * plan_size stride chunks + ((2 + chunks) * stride + c * w)

-- behind the plans stand the routes: two slews, two rows of random inputs, and four spare rows
abbrev pub route_size : ℕ → ℕ
route_size stride = 8 * stride

-- route r at position p: 0 the source's, 1 the aux's
abbrev pub route_slew : ℕ → ℕ → ℕ → ℕ → ℕ → ℕ
route_slew stride chunks plans r p = plans * plan_size stride chunks + (r * route_size stride + p * stride)

abbrev pub route_random : ℕ → ℕ → ℕ → ℕ → ℕ → ℕ
route_random stride chunks plans r p = plans * plan_size stride chunks + (r * route_size stride + (2 + p) * stride)

-- in `audio` each plan has room for a row of a lane stride a frame
abbrev pub audio_size : ℕ → ℕ → ℕ
audio_size stride frames = stride * frames

-- plan i, of width w, at frame k
abbrev pub audio_row : ℕ → ℕ → ℕ → ℕ → ℕ → ℕ
audio_row stride frames i w k = i * audio_size stride frames + k * w

-- computed: 1 voice and 64 frames, so stride 16 and 4 chunks: 224 numbers a plan
plan-examples : (plan_from 16 4 0 ≡ 0) × (plan_to 16 4 0 ≡ 16) × (plan_from 16 4 2 ≡ 448) × (plan_to 16 4 2 ≡ 464)
plan-examples = (refl, refl, refl, refl)

-- the last chunk of plan 2, global and per voice: the spare rows start at 608
chunk-examples : (chunk_from 16 4 2 1 3 ≡ 483) × (chunk_to 16 4 2 1 3 ≡ 547) × (chunk_from 16 4 2 16 3 ≡ 528)
    × (chunk_to 16 4 2 16 3 ≡ 592)
chunk-examples = (refl, refl, refl, refl)

-- the routes behind 3 plans
route-examples : (route_slew 16 4 3 0 0 ≡ 672) × (route_slew 16 4 3 1 1 ≡ 816) × (route_random 16 4 3 1 0 ≡ 832)
    × (route_random 16 4 3 1 1 ≡ 848)
route-examples = (refl, refl, refl, refl)

-- the last frame of plan 0, per voice, and of plan 2, global
audio-examples : (audio_row 16 64 0 16 63 ≡ 1008) × (audio_row 16 64 2 1 63 ≡ 2111)
audio-examples = (refl, refl)

-- ---- the parts of a memory

pub record Sizes : Type 0 where
  -- the lane stride
  pub stride : ℕ
  -- the most chunks of a block
  pub chunks : ℕ
  -- the most frames of a block
  pub frames : ℕ
  -- how many plans
  pub plans : ℕ
  -- how many routes
  pub routes : ℕ
  -- whether a plan is per voice
  pub voice : ℕ → Bool

-- of a program
abbrev pub sizes_of : Program → Sizes
sizes_of p =
    record {
      stride = lane_stride p.config.voices;
      chunks = most_chunks p.config.max_frames;
      frames = p.config.max_frames;
      plans = p.plans;
      routes = p.routes;
      voice = λ i. (get_or p.plan i no_plan).voice;
    }

pub data Memory : Type 0 where
  values : Memory
  audio : Memory

-- the numbers of a memory
abbrev pub need : Sizes → Memory → ℕ
need z values = z.stride * values_rows z.chunks z.plans z.routes
need z audio = z.stride * (z.plans * z.frames)

-- of a plan in `values`: of the last tick, and of chunk c
pub data PlanPart : Type 0 where
  from : PlanPart
  to : PlanPart
  from_at : ℕ → PlanPart
  to_at : ℕ → PlanPart

-- of a route in `values`, at position p
pub data RoutePart : Type 0 where
  slew : ℕ → RoutePart
  random : ℕ → RoutePart

-- of plan i, of route r, and of plan i at frame k
pub data Part : Memory → Type 0 where
  of_plan : ℕ → PlanPart → Part values
  of_route : ℕ → RoutePart → Part values
  of_frame : ℕ → ℕ → Part audio

-- a chunk that there is, and a position
abbrev pub ValidOfPlan : ℕ → PlanPart → Type 0
ValidOfPlan chunks from = Unit {0}
ValidOfPlan chunks to = Unit {0}
ValidOfPlan chunks (from_at c) = c < chunks
ValidOfPlan chunks (to_at c) = c < chunks

abbrev pub ValidOfRoute : RoutePart → Type 0
ValidOfRoute (slew p) = p < 2
ValidOfRoute (random p) = p < 2

module _ (z : Sizes) where
  -- the width of plan i
  abbrev pub row_width : ℕ → ℕ
  row_width i = plan_width z.stride (z.voice i)

  -- where a part starts, and how many numbers it has
  abbrev pub start : {m : Memory} → Part m → ℕ
  start (of_plan i from) = plan_from z.stride z.chunks i
  start (of_plan i to) = plan_to z.stride z.chunks i
  start (of_plan i (from_at c)) = chunk_from z.stride z.chunks i (row_width i) c
  start (of_plan i (to_at c)) = chunk_to z.stride z.chunks i (row_width i) c
  start (of_route r (slew p)) = route_slew z.stride z.chunks z.plans r p
  start (of_route r (random p)) = route_random z.stride z.chunks z.plans r p
  start (of_frame i k) = audio_row z.stride z.frames i (row_width i) k

  abbrev pub width : {m : Memory} → Part m → ℕ
  width (of_plan i q) = row_width i
  width (of_route r q) = z.stride
  width (of_frame i k) = row_width i

  -- there is such a part
  abbrev pub Valid : {m : Memory} → Part m → Type 0
  Valid (of_plan i q) = (i < z.plans) × ValidOfPlan z.chunks q
  Valid (of_route r q) = (r < z.routes) × ValidOfRoute q
  Valid (of_frame i k) = (i < z.plans) × (k < z.frames)

  -- one ends at or before the other starts
  abbrev pub Apart : {m : Memory} → Part m → Part m → Type 0
  Apart p q = (start p + width p ≤ start q) ⊎ (start q + width q ≤ start p)

-- stride 16, 4 chunks, 64 frames, 3 plans of which plan 1 is per voice, 2 routes
abbrev small : Sizes
small = record { stride = 16; chunks = 4; frames = 64; plans = 3; routes = 2; voice = λ i. eqb i 1 }

small-starts : (start small (of_plan 1 (to_at 3)) ≡ 368) × (width small (of_plan 1 (to_at 3)) ≡ 16)
    × (start small (of_plan 2 (to_at 3)) ≡ 547) × (width small (of_plan 2 (to_at 3)) ≡ 1)
small-starts = (refl, refl, refl, refl)

-- the last parts, and the needs: four spare rows stand behind the last of a route
small-ends : (start small (of_route 1 (random 1)) + width small (of_route 1 (random 1)) + 4 * 16 ≡ need small values)
    × (need small values ≡ 928) × (start small (of_frame 1 63) + width small (of_frame 1 63) ≡ 2048)
    × (need small audio ≡ 3072)
small-ends = (refl, refl, refl, refl)
