-- What a route reads and how it goes (document 01, Plan and route; program.rs 409-519). Definitions only.
use Rattle.std.specs.Prelude.{Bool, true, false, cond, not, ◌&&◌, ◌||◌, List, map, ℕ, pos, get_or, Float, Option, Some}
use Rattle.std.specs.Prelude.{None}
use Rattle.std.specs.Float.{nan, fin}
use Rattle.std.specs.Float.Ieee.{lt}
use Rattle.number.specs.Number.{zero32, half32, one32, two32}
use Rattle.curve_table.specs.declared.Curve.{Curve}
use Rattle.curve_table.specs.declared.Curve.TheVariants as C
use Rattle.curve_table.specs.Curve.{is_linear, seconds_of}
use Rattle.slew.specs.Slew.{rate_per_sample}
use Rattle.feed.specs.Numbers.{index_of}
use Rattle.state.specs.declared.Kind.{Kind}
use Rattle.state.specs.declared.Kind.TheVariants as K
use Rattle.state.specs.declared.Range.{Range}
use Rattle.state.specs.declared.Range.TheVariants as R
use Rattle.std.specs.Prelude.{None}
use Rattle.state.specs.declared.FedBy.{FedBy}
use Rattle.state.specs.declared.Polarity.{Polarity}
use Rattle.state.specs.declared.Polarity.TheVariants as Q
use Rattle.state.specs.declared.Slot.{Slot}
use Rattle.state.specs.declared.Read.{Read}
use Rattle.state.specs.declared.Read.TheVariants as D
use Rattle.state.specs.declared.Slew.{Slew}
use Rattle.state.specs.declared.Input.{Input}
use Rattle.state.specs.declared.Gain.{Gain}
use Rattle.state.specs.declared.Gain.TheVariants as G
use Rattle.state.specs.declared.Route.{Route}
use Rattle.state.specs.declared.Source.{Source}
use Rattle.state.specs.declared.Sources.{Sources}
use Rattle.state.specs.declared.Reader.{Reader}
use Rattle.state.specs.Registry.{source_at}
use Rattle.model.specs.Feeds.{is_voice}

-- ---- amounts and outputs (program.rs 449-453)

-- a thing at the plan of its feeder: "A fed read has its feeder's scope"; live where nothing feeds it
abbrev pub linked : List ℕ → Option FedBy → Gain
linked os None = G.Live
linked os (Some f) = G.Fed (index_of f.dest os) f.voice

abbrev pub voice_gain : Gain → Bool
voice_gain G.Live = false
voice_gain (G.Fed e v) = v

abbrev pub live_gain : Gain → Bool
live_gain G.Live = true
live_gain (G.Fed e v) = false

-- ---- where an input reads (program.rs 424-446)

-- a source that nothing feeds; a constant has no scope, and "a per-route random is always per voice"
abbrev pub unfed_read : Kind → ℕ → Bool → Read
unfed_read K.Signal i v = D.Signal i v
unfed_read K.Audio i v = D.Signal i v
unfed_read K.Held i v = D.Held i v
unfed_read K.Velocity i v = D.Held i v
unfed_read K.Key i v = D.Held i v
unfed_read K.ReleaseVelocity i v = D.Held i v
unfed_read K.Random i v = D.Held i v
unfed_read (K.Alternate inverse) i v = D.Held i v
unfed_read K.RandomPerRoute i v = D.RouteRandom
unfed_read K.VoiceLoad i v = D.Held i v
unfed_read K.Constant i v = D.Constant

abbrev pub read_by : Source → ℕ → Gain → Read
read_by s i G.Live = unfed_read s.kind i (is_voice s.scope)
read_by s i (G.Fed e v) = D.Fed e v

-- program.rs 51-61
abbrev pub voice_read : Read → Bool
voice_read (D.Signal i v) = v
voice_read (D.Held i v) = v
voice_read (D.Fed e v) = v
voice_read D.Constant = false
voice_read D.RouteRandom = true

-- ---- curves and slews (program.rs 462-484): "a slew exists" where a rise or a fall is above 0

unfoldable pub slew_for : Float → Curve → Option Slew
unfolding seconds_of rate_per_sample
slew_for rate c =
    cond (lt zero32 (seconds_of c).rise || lt zero32 (seconds_of c).fall)
    (Some (record { up = rate_per_sample (seconds_of c).rise rate; down = rate_per_sample (seconds_of c).fall rate }))
    None

abbrev pub free_slew : Option Slew → Bool
free_slew None = true
free_slew (Some w) = false

abbrev pub is_bipolar : Range → Bool
is_bipolar R.Unipolar = false
is_bipolar R.Bipolar = true

-- source i, read by the link, over the curve
unfoldable pub input_by : Float → Source → ℕ → Gain → Curve → Input
unfolding slew_for
input_by rate s i g c =
    record { read = read_by s i g; bipolar = is_bipolar s.range; table = not (is_linear c); slew = slew_for rate c }

abbrev pub aux_by : Float → Sources → Option ℕ → Gain → Curve → Option Input
aux_by rate ss None g c = None
aux_by rate ss (Some i) g c = Some (input_by rate (source_at ss i) i g c)

abbrev pub voice_aux : Option Input → Bool
voice_aux None = false
voice_aux (Some i) = voice_read i.read

abbrev pub no_aux : Option Input → Bool
no_aux None = true
no_aux (Some i) = false

-- ---- the source, uncurved and unslewed, is scale times its value plus offset, by its own range and the slot's
-- (program.rs 487-491)

abbrev pub two_way : Polarity → Bool
two_way Q.Unipolar = false
two_way Q.Bipolar = true

abbrev pub scale_of : Bool → Bool → Float
scale_of false false = one32
scale_of true true = one32
scale_of false true = two32
scale_of true false = half32

abbrev pub offset_of : Bool → Bool → Float
offset_of false false = zero32
offset_of true true = zero32
offset_of false true = fin true 1 (pos 0)
offset_of true false = half32

-- ---- THE ROUTE of a candidate

-- what is read where there is no slot
abbrev pub no_slot : Slot
no_slot =
    record {
      source = None;
      source_curve = C.Linear;
      amount = nan;
      polarity = Q.Unipolar;
      destination = None;
      aux = None;
      aux_invert = false;
      aux_curve = C.Linear;
      output = nan;
      bypass = false;
    }

-- plain: a per-voice source into a per-voice destination, uncurved, unslewed, without aux, at the slot's live gains
-- (program.rs 497-503)
abbrev pub simple_route : Bool → Input → Option Input → Gain → Gain → Bool
simple_route dv i x a o =
    voice_read i.read && (dv && (not i.table && (free_slew i.slew && (no_aux x && (live_gain a && live_gain o)))))

-- by its inputs and gains; dv: its destination is per voice
unfoldable pub route_by : ℕ → Slot → Bool → Input → Option Input → Gain → Gain → Route
route_by n s dv i x a o =
    record {
      slot = n;
      source = i;
      aux = x;
      aux_invert = s.aux_invert;
      bipolar = two_way s.polarity;
      amount = a;
      output = o;
      voice = voice_read i.read || (voice_aux x || (voice_gain a || voice_gain o));
      scale = scale_of i.bipolar (two_way s.polarity);
      offset = offset_of i.bipolar (two_way s.polarity);
      simple = simple_route dv i x a o;
    }

-- in the order os of plans
unfoldable pub route_in : Float → Sources → List ℕ → Slot → Bool → Reader → Route
unfolding input_by route_by
route_in rate ss os s dv r =
    route_by r.candidate.slot s dv
    (input_by rate (source_at ss r.candidate.source) r.candidate.source (linked os r.source)
    s.source_curve)
    (aux_by rate ss r.candidate.aux (linked os r.aux) s.aux_curve)
    (linked os r.amount)
    (linked os r.output)

-- the routes of readers of one destination, per voice or not
abbrev pub routes_in : Float → Sources → List ℕ → List Slot → Bool → List Reader → List Route
routes_in rate ss os slots dv rs = map (λ r. route_in rate ss os (get_or slots r.candidate.slot no_slot) dv r) rs
