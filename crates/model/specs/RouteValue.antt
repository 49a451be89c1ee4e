-- A route's value in one lane (engine.rs 1013-1039, 1345-1399; document 01, Chunk and value). Definitions only.
use Rattle.std.specs.Prelude.{Bool, true, false, not, cond, ◌&&◌, ℕ, ◌*◌, leb, ltb, Float, Option, Some, None}
use Rattle.std.specs.Float.Ieee.{eq}
use Rattle.number.specs.Number.{zero32, one32, two32, plus, less, times}
use Rattle.state.specs.declared.Read.{Read}
use Rattle.state.specs.declared.Read.TheVariants as D
use Rattle.state.specs.declared.Input.{Input}
use Rattle.state.specs.declared.Gain.{Gain}
use Rattle.state.specs.declared.Gain.TheVariants as G
use Rattle.state.specs.declared.Route.{Route}
use Rattle.model.specs.Env.{Env, Rows, Own, lane_in, gain_of, live_amount_of, live_output_of, part_of, part_stride}
use Rattle.model.specs.Input.{fed_at, read_in, input_in}
use Rattle.model.specs.Lanes.{snap_of, sounding}
use Rattle.model.specs.Routes.{free_slew, live_gain}

-- an own number of route j
abbrev pub own_at : Env → Own → ℕ → ℕ → ℕ → Float
own_at t s j q lane = lane_in t (s j q) lane

-- both ways
abbrev pub spread : Bool → Float → Float
spread bipolar u = cond bipolar (less (times u two32) one32) u

abbrev pub flipped : Bool → Float → Float
flipped invert a = cond invert (less one32 a) a

-- the source of route j, curved and slewed; the same of its aux
abbrev pub source_in : Env → Rows → Own → ℕ → ℕ → Route → Float
source_in t f s j lane r =
    input_in t f r.slot 0 (snap_of t r.voice lane) (own_at t s j 0 lane) (own_at t s j 2 lane) lane r.source

abbrev pub aux_in : Env → Rows → Own → ℕ → ℕ → Route → Input → Float
aux_in t f s j lane r i =
    input_in t f r.slot 1 (snap_of t r.voice lane) (own_at t s j 1 lane) (own_at t s j 3 lane) lane i

-- the source as it is read
abbrev pub raw_in : Env → Rows → Own → ℕ → ℕ → Route → Float
raw_in t f s j lane r = read_in t f (own_at t s j 2 lane) lane r.source.read

-- a source with neither curve nor slew is scaled as it is read (engine.rs 1373-1384)
abbrev pub sourced : Env → Rows → Own → ℕ → ℕ → Route → Float
sourced t f s j lane r =
    cond (not r.source.table && free_slew r.source.slew)
    (plus (times (raw_in t f s j lane r) r.scale) r.offset)
    (spread r.bipolar (source_in t f s j lane r))

abbrev pub with_aux : Env → Rows → Own → ℕ → ℕ → Route → Option Input → Float → Float
with_aux t f s j lane r None p = p
with_aux t f s j lane r (Some i) p = times p (flipped r.aux_invert (aux_in t f s j lane r i))

abbrev pub gain_in : Env → Rows → ℕ → Float → Gain → Float
gain_in t f lane live G.Live = live
gain_in t f lane live (G.Fed e voice) = fed_at t f e voice lane

abbrev pub gained : Env → Rows → ℕ → Route → Float
gained t f lane r =
    times (gain_in t f lane (live_amount_of t r.slot) r.amount) (gain_in t f lane (live_output_of t r.slot) r.output)

-- THE VALUE of route j
unfoldable pub route_value : Env → Rows → Own → ℕ → ℕ → Route → Float
route_value t f s j lane r = times (with_aux t f s j lane r r.aux (sourced t f s j lane r)) (gained t f lane r)

-- either zero
abbrev pub is_zero : Float → Bool
is_zero x = eq x zero32

-- amount and output unfed, with product 0: nothing is added, and slews stand still (engine.rs 1313)
abbrev pub idle : Env → Route → Bool
idle t r = live_gain r.amount && (live_gain r.output && is_zero (gain_of t r))

-- a whole row stands there to be read (engine.rs 1022-1037)
abbrev pub whole_row : Env → Read → Bool
whole_row t (D.Signal src true) =
    ltb 0 (part_of t.signals src).len
    && (leb t.stride (part_stride (part_of t.signals src))
    && leb (t.up_to * part_stride (part_of t.signals src)) (part_of t.signals src).len)
whole_row t (D.Signal src false) = false
whole_row t (D.Held src voice) = voice
whole_row t (D.Fed e voice) = voice
whole_row t D.Constant = false
whole_row t D.RouteRandom = true

-- the route is plain, into a destination per voice while a voice is active
unfoldable pub plain : Env → Bool → Route → Bool
plain t voice r = voice && (sounding t && (r.simple && whole_row t r.source.read))
