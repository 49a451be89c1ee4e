-- SAID: the number of a control destination in a lane after a tick, said a second time: sentence by sentence from
-- document 01, and from program.rs and engine.rs for what it leaves to them. It goes by slots, registries, kinds,
-- ranges and scopes; no compiled route, no plan, no order and no ready-made step stands in it. With the rest of the
-- definitions it shares binary32's operations, the lookup, the slew step and the holding to bounds. Definitions only.
use Rattle.std.specs.Prelude.{Bool, true, false, not, cond, ◌&&◌, ◌||◌, List, ℕ, zero, suc, ◌+◌, ◌-◌, ◌*◌, ◌/◌, eqb}
use Rattle.std.specs.Prelude.{Option, Some, None}
use Rattle.std.specs.Prelude.{leb, ltb, pos, get_or, Float}
use Rattle.std.specs.Float.{inf, fin}
use Rattle.std.specs.Float.Ieee.{lt, eq}
use Rattle.config.specs.Sizes.{slots, lanes, period}
use Rattle.number.specs.Number.{zero32, half32, one32, two32, plus, less, times, over, max32, hold, nearest32}
use Rattle.curve_table.specs.declared.Curve.{Curve}
use Rattle.curve_table.specs.declared.Curve.TheVariants as C
use Rattle.curve_table.specs.Table.{lookup_of}
use Rattle.slew.specs.Slew.{slew_step}
use Rattle.state.specs.declared.Kind.{Kind}
use Rattle.state.specs.declared.Kind.TheVariants as K
use Rattle.state.specs.declared.Scope.{Scope}
use Rattle.state.specs.declared.Scope.TheVariants as S
use Rattle.state.specs.declared.Range.{Range}
use Rattle.state.specs.declared.Range.TheVariants as R
use Rattle.state.specs.declared.Polarity.{Polarity}
use Rattle.state.specs.declared.Polarity.TheVariants as Q
use Rattle.std.specs.Prelude.{Option, None, Some}
use Rattle.state.specs.declared.Target.{Target}
use Rattle.state.specs.declared.Feed.{Feed}
use Rattle.state.specs.declared.Feed.TheVariants as F
use Rattle.state.specs.declared.Source.{Source}
use Rattle.state.specs.declared.Slot.{Slot}
use Rattle.state.specs.declared.Wiring.{Wiring}
use Rattle.state.specs.Registry.{known_source, source_at, dest_count, dest_at, dest_place}
use Rattle.slots.specs.Slots.{empty_slot}

-- ---- what is given: the state before the tick, the signals, and where the chunk stands

-- a signal that is bound to a source
pub record Heard : Type 0 where
  -- how many numbers it has; none where nothing is bound
  pub count : ℕ
  -- each of them
  pub number : ℕ → Float
  -- how many numbers a frame has
  pub stride : ℕ

pub record Instant : Type 0 where
  -- "Lane stride is voices rounded up to a multiple of 16, at least 16"
  pub stride : ℕ
  -- the program has ticked since it was installed
  pub primed : Bool
  -- the "any fresh" mark
  pub any_fresh : Bool
  -- the voice is marked fresh
  pub fresh : ℕ → Bool
  -- the voice is marked active
  pub active : ℕ → Bool
  -- the newest voice, if any
  pub newest : Option ℕ
  -- the held number of a source, in a lane
  pub held : ℕ → ℕ → Float
  -- the held number of a global source
  pub global : ℕ → Float
  -- the base of a destination, as set
  pub base : ℕ → Float
  -- the amount of a slot, as set
  pub amount : ℕ → Float
  -- the output of a slot, as set
  pub output : ℕ → Float
  -- the random number of a slot's source (0) or aux (1), in a lane
  pub random : ℕ → ℕ → ℕ → Float
  -- the slew of a slot's source (0) or aux (1), in a lane
  pub slew : ℕ → ℕ → ℕ → Float
  -- the table of a slot's source (0) or aux (1)
  pub table : ℕ → ℕ → List Float
  -- the number of a destination before the tick, in a lane
  pub number : ℕ → ℕ → Float
  -- the signal of a source
  pub heard : ℕ → Heard
  -- the chunk's first frame, the one that a tick reads (engine.rs 865)
  pub frame : ℕ
  -- the chunk's phase
  pub phase : ℕ
  -- it is the block's first
  pub opening : Bool

-- some number below n passes
abbrev pub any_below : (ℕ → Bool) → ℕ → Bool
any_below p zero = false
any_below p (suc n) = any_below p n || p n

-- ---- kinds, scopes and ranges

-- where an unfed source's number comes from (program.rs 430-442)
pub data Way : Type 0 where
  -- its signal
  by-signal : Way
  -- a held number that the host sets
  by-host : Way
  -- a held number that the engine sets
  by-engine : Way
  -- 1
  by_one : Way
  -- a draw of the route's own
  by-draw : Way

abbrev pub way_of : Kind → Way
way_of K.Signal = by-signal
way_of K.Audio = by-signal
way_of K.Held = by-host
way_of K.Velocity = by-engine
way_of K.Key = by-engine
way_of K.ReleaseVelocity = by-engine
way_of K.Random = by-engine
way_of (K.Alternate inverse) = by-engine
way_of K.RandomPerRoute = by-draw
way_of K.VoiceLoad = by-engine
way_of K.Constant = by_one

abbrev pub each_voice : Scope → Bool
each_voice S.Voice = true
each_voice S.Global = false

abbrev pub both_ways : Range → Bool
both_ways R.Unipolar = false
both_ways R.Bipolar = true

abbrev pub both_sides : Polarity → Bool
both_sides Q.Unipolar = false
both_sides Q.Bipolar = true

-- ---- curves: "513 numbers ... with rise and fall seconds, below 0 taken as 0; or the mark "linear", which has no
-- seconds"

abbrev pub straight : Curve → Bool
straight C.Linear = true
straight (C.Table rise fall) = false

abbrev pub rise_of : Curve → Float
rise_of C.Linear = zero32
rise_of (C.Table rise fall) = max32 rise zero32

abbrev pub fall_of : Curve → Float
fall_of C.Linear = zero32
fall_of (C.Table rise fall) = max32 fall zero32

-- a slew exists where a rise or a fall is above 0 (program.rs 468-470)
abbrev pub slews : Curve → Bool
slews c = lt zero32 (rise_of c) || lt zero32 (fall_of c)

-- the most that it moves a sample; without limit for 0 seconds (program.rs 594-602)
abbrev pub per_sample : Float → Float → Float
per_sample rate seconds = cond (lt zero32 seconds) (over one32 (times seconds rate)) (inf false)

-- ---- who feeds

pub data Feeding : Type 0 where
  unfed : Feeding
  -- the number of the destination
  fed_by : ℕ → Feeding

abbrev pub is_unfed : Feeding → Bool
is_unfed unfed = true
is_unfed (fed_by e) = false

-- the highest number below n that passes
abbrev pub highest : (ℕ → Bool) → ℕ → Feeding
highest p zero = unfed
highest p (suc n) = cond (p n) (fed_by n) (highest p n)

module _ (w : Wiring) where
  -- ---- slots: "Missing source or destination: passed over in silence; then bypass, likewise. Then the reasons unknown
  -- source, unknown aux, unknown destination"

  abbrev pub slot_n : ℕ → Slot
  slot_n n = get_or w.matrix.slot n empty_slot

  abbrev pub picks_known : Option ℕ → Bool
  picks_known None = false
  picks_known (Some i) = known_source w.sources i

  abbrev pub picks_no_unknown : Option ℕ → Bool
  picks_no_unknown None = true
  picks_no_unknown (Some i) = known_source w.sources i

  abbrev pub aims_at : Option Target → ℕ → Bool
  aims_at None d = false
  aims_at (Some t) d = eqb (dest_place w.dests t) d && ltb d (dest_count w.dests)

  -- slot n is a route of destination d
  unfoldable pub sends : ℕ → ℕ → Bool
  sends n d =
      picks_known (slot_n n).source
      && (aims_at (slot_n n).destination d && (not (slot_n n).bypass && picks_no_unknown (slot_n n).aux))

  -- "A destination is in use if a candidate names it."
  unfoldable pub is_used : ℕ → Bool
  is_used d = any_below (λ n. sends n d) slots

  -- ---- feeds: "A source feed counts only onto a Held source of Global scope."

  abbrev pub by_host : Way → Bool
  by_host by-signal = false
  by_host by-host = true
  by_host by-engine = false
  by_host by_one = false
  by_host by-draw = false

  abbrev pub takes_feed : ℕ → Bool
  takes_feed i =
      known_source w.sources i
      && (by_host (way_of (source_at w.sources i).kind) && not (each_voice (source_at w.sources i).scope))

  abbrev pub onto_source : ℕ → Feed → Bool
  onto_source i F.Nothing = false
  onto_source i (F.Source j) = eqb j i && takes_feed j
  onto_source i (F.Amount m) = false
  onto_source i (F.Output m) = false

  abbrev pub onto_amount : ℕ → Feed → Bool
  onto_amount n F.Nothing = false
  onto_amount n (F.Source j) = false
  onto_amount n (F.Amount m) = eqb m n && ltb m slots
  onto_amount n (F.Output m) = false

  abbrev pub onto_output : ℕ → Feed → Bool
  onto_output n F.Nothing = false
  onto_output n (F.Source j) = false
  onto_output n (F.Amount m) = false
  onto_output n (F.Output m) = eqb m n && ltb m slots

  abbrev pub feed_at : ℕ → Feed
  feed_at d = (dest_at w.dests d).feed

  -- "Of several used destinations feeding one thing, the highest-numbered is read."
  unfoldable pub source_feeder : ℕ → Feeding
  source_feeder i = highest (λ d. is_used d && onto_source i (feed_at d)) (dest_count w.dests)

  unfoldable pub amount_feeder : ℕ → Feeding
  amount_feeder n = highest (λ d. is_used d && onto_amount n (feed_at d)) (dest_count w.dests)

  unfoldable pub output_feeder : ℕ → Feeding
  output_feeder n = highest (λ d. is_used d && onto_output n (feed_at d)) (dest_count w.dests)

  -- ---- what has a number for each voice

  abbrev pub per_voice : ℕ → Bool
  per_voice d = each_voice (dest_at w.dests d).scope

  -- "A fed read has its feeder's scope; a per-route random is always per voice." A constant never is (program.rs 51-61)
  abbrev pub way_voice : Way → Bool → Bool
  way_voice by-signal voice = voice
  way_voice by-host voice = voice
  way_voice by-engine voice = voice
  way_voice by_one voice = false
  way_voice by-draw voice = true

  abbrev pub read_voice : Feeding → Source → Bool
  read_voice unfed s = way_voice (way_of s.kind) (each_voice s.scope)
  read_voice (fed_by e) s = per_voice e

  abbrev pub pick_voice : Option ℕ → Bool
  pick_voice None = false
  pick_voice (Some i) = read_voice (source_feeder i) (source_at w.sources i)

  abbrev pub gain_voice : Feeding → Bool
  gain_voice unfed = false
  gain_voice (fed_by e) = per_voice e

  -- slot n, where its source, its aux, its amount or its output does (program.rs 455-458)
  unfoldable pub slot_voice : ℕ → Bool
  slot_voice n =
      pick_voice (slot_n n).source
      || (pick_voice (slot_n n).aux || (gain_voice (amount_feeder n) || gain_voice (output_feeder n)))

  -- ---- polarity: the source, uncurved and unslewed, is scale times its value plus offset (program.rs 487-491)

  abbrev pub scale_by : Bool → Bool → Float
  scale_by false false = one32
  scale_by true true = one32
  scale_by false true = two32
  scale_by true false = half32

  abbrev pub offset_by : Bool → Bool → Float
  offset_by false false = zero32
  offset_by true true = zero32
  offset_by false true = fin true 1 (pos 0)
  offset_by true false = half32

  abbrev pub pick_range : Option ℕ → Bool
  pick_range None = false
  pick_range (Some i) = both_ways (source_at w.sources i).range

  abbrev pub scale_at : ℕ → Float
  scale_at n = scale_by (pick_range (slot_n n).source) (both_sides (slot_n n).polarity)

  abbrev pub offset_at : ℕ → Float
  offset_at n = offset_by (pick_range (slot_n n).source) (both_sides (slot_n n).polarity)

  -- ---- plain by its slot: a source per voice into a destination per voice, uncurved, unslewed, without aux, amount
  -- and output unfed (program.rs 497-503)

  abbrev pub picks_none : Option ℕ → Bool
  picks_none None = true
  picks_none (Some i) = false

  unfoldable pub simple_slot : ℕ → ℕ → Bool
  simple_slot n d =
      pick_voice (slot_n n).source
      && (per_voice d
      && (straight (slot_n n).source_curve
      && (not (slews (slot_n n).source_curve)
      && (picks_none (slot_n n).aux && (is_unfed (amount_feeder n) && is_unfed (output_feeder n))))))

  module _ (x : Instant) where
    -- ---- active voices, and the groups of 16 lanes

    -- one of the lanes a, a + 1, .., c of them, has an active voice
    abbrev pub any_active : ℕ → ℕ → Bool
    any_active a c = any_below (λ k. x.active (a + k)) c

    abbrev pub group_start : ℕ → ℕ
    group_start l = l / lanes * lanes

    -- the lane's group
    unfoldable pub group_active : ℕ → Bool
    group_active l = any_active (group_start l) lanes

    -- "the active span (groups of 16, from the first with an active voice to the last)"
    unfoldable pub spanned : ℕ → Bool
    spanned l = any_active 0 (group_start l + lanes) && any_active (group_start l) (x.stride - group_start l)

    -- a fresh lane in a first chunk (engine.rs 855, 922)
    abbrev pub starts_in : ℕ → Bool
    starts_in l = x.opening && (x.any_fresh && x.fresh l)

    -- ---- signals (engine.rs 1453-1470): what is not there is 0

    abbrev pub heard_number : Heard → ℕ → Float
    heard_number h k = cond (ltb k h.count) (h.number k) zero32

    abbrev pub heard_in : Heard → Bool → ℕ → Float
    heard_in h true l = cond (ltb l h.stride) (heard_number h (x.frame * h.stride + l)) zero32
    heard_in h false l = heard_number h (x.frame * h.stride)

    -- its row of this frame stands there whole (engine.rs 1026-1030)
    abbrev pub heard_whole : Heard → Bool
    heard_whole h = ltb 0 h.count && (leb x.stride h.stride && leb ((x.frame + 1) * h.stride) h.count)

    -- ---- "Plain routes (`plain_of`), in per-voice plans while a voice is active"

    abbrev pub way_row : Way → ℕ → Bool → Bool
    way_row by-signal i voice = voice && heard_whole (x.heard i)
    way_row by-host i voice = voice
    way_row by-engine i voice = voice
    way_row by_one i voice = false
    way_row by-draw i voice = true

    abbrev pub read_row : Feeding → ℕ → Source → Bool
    read_row unfed i s = way_row (way_of s.kind) i (each_voice s.scope)
    read_row (fed_by e) i s = per_voice e

    abbrev pub pick_row : Option ℕ → Bool
    pick_row None = false
    pick_row (Some i) = read_row (source_feeder i) i (source_at w.sources i)

    unfoldable pub plain_slot : ℕ → ℕ → Bool
    plain_slot n d = per_voice d && (any_active 0 x.stride && (simple_slot n d && pick_row (slot_n n).source))

    -- ---- amount times output, as set (engine.rs 588-592); "unfed with product 0"

    abbrev pub product : ℕ → Float
    product n = times (x.amount n) (x.output n)

    abbrev pub silent : ℕ → Bool
    silent n = is_unfed (amount_feeder n) && (is_unfed (output_feeder n) && eq (product n) zero32)

    -- ---- the base: "with the thing fed as its base"

    abbrev pub base_by : ℕ → Feed → Float
    base_by d F.Nothing = x.base d
    base_by d (F.Source i) = cond (takes_feed i) (x.global i) (x.base d)
    base_by d (F.Amount n) = cond (ltb n slots) (x.amount n) (x.base d)
    base_by d (F.Output n) = cond (ltb n slots) (x.output n) (x.base d)

    -- ---- what a slot adds to destination d, where `to` is proposed for the numbers after the tick

    module _ (to : ℕ → ℕ → Float) (d : ℕ) where
      -- "A fed input that is read is its feeder's value after the tick ... or, fed by itself, its own before."
      abbrev pub feeder_row : ℕ → ℕ → Float
      feeder_row e l = cond (eqb e d) (x.number e l) (to e l)

      abbrev pub feeder_now : ℕ → ℕ → Float
      feeder_now e l = feeder_row e (cond (per_voice e) l 0)

      -- slot n, its source (p 0) or aux (p 1), in lane l: source i as it is read
      abbrev pub way_read : ℕ → ℕ → ℕ → ℕ → Bool → Way → Float
      way_read n p l i voice by-signal = heard_in (x.heard i) voice l
      way_read n p l i voice by-host = cond voice (x.held i l) (x.global i)
      way_read n p l i voice by-engine = cond voice (x.held i l) (x.global i)
      way_read n p l i voice by_one = one32
      way_read n p l i voice by-draw = x.random n p l

      abbrev pub read_back : ℕ → ℕ → ℕ → ℕ → Feeding → Float
      read_back n p l i unfed =
          way_read n p l i (each_voice (source_at w.sources i).scope) (way_of (source_at w.sources i).kind)
      read_back n p l i (fed_by e) = feeder_now e l

      unfoldable pub source_read : ℕ → ℕ → ℕ → ℕ → Float
      source_read n p l i = read_back n p l i (source_feeder i)

      -- a bipolar source from -1..1 to 0..1 (engine.rs 1422-1424)
      abbrev pub one_way : Bool → Float → Float
      one_way both u = cond both (plus (times u half32) half32) u

      -- over its curve: "Lookup clamps to 0..1, multiplies by 512 ..."
      abbrev pub over_curve : ℕ → ℕ → Curve → Float → Float
      over_curve n p c u = cond (straight c) u (lookup_of (x.table n p) u)

      -- "An off-phase tick ...: slews move 0 (a rise or fall of 0 seconds as docs/src has it)"; else by 32 samples
      abbrev pub farthest : Float → Float
      farthest seconds =
          cond (eqb x.phase 0) (times (per_sample w.config.sample_rate seconds) (nearest32 period)) zero32

      -- "In a first chunk slews of fresh lanes then add what is left to their input.": 1 there, in slots per voice
      abbrev pub snap_in : ℕ → ℕ → Float
      snap_in n l = cond (slot_voice n && starts_in l) one32 zero32

      abbrev pub over_slew : ℕ → ℕ → ℕ → Curve → Float → Float
      over_slew n p l c u =
          cond (slews c)
          (slew_step (farthest (rise_of c)) (farthest (fall_of c)) (snap_in n l) (x.slew n p l) u)
          u

      -- THE INPUT, which is also its slew afterwards (engine.rs 1401-1446)
      unfoldable pub input_said : ℕ → ℕ → ℕ → Curve → ℕ → Float
      input_said n p l c i =
          over_slew n p l c (over_curve n p c
          (one_way (both_ways (source_at w.sources i).range) (source_read n p l i)))

      -- both ways where the slot is bipolar (engine.rs 1376-1382)
      abbrev pub sided : ℕ → Float → Float
      sided n u = cond (both_sides (slot_n n).polarity) (less (times u two32) one32) u

      -- "Bipolar source, linear, into a bipolar slot: unchanged, not halved and doubled.": with neither curve nor slew
      -- it is scaled as it is read (engine.rs 1373-1375)
      abbrev pub source_said : ℕ → ℕ → Curve → Option ℕ → Float
      source_said n l c None = zero32
      source_said n l c (Some i) =
          cond (straight c && not (slews c)) (plus (times (source_read n 0 l i) (scale_at n)) (offset_at n))
          (sided n (input_said n 0 l c i))

      -- times the aux, or 1 less the aux where it is inverted (engine.rs 1384-1390)
      abbrev pub times_aux : ℕ → ℕ → Option ℕ → Float → Float
      times_aux n l None u = u
      times_aux n l (Some i) u =
          let a = input_said n 1 l (slot_n n).aux_curve i in
          times u (cond (slot_n n).aux_invert (less one32 a) a)

      abbrev pub gain_said : ℕ → Float → Feeding → Float
      gain_said l set unfed = set
      gain_said l set (fed_by e) = feeder_now e l

      -- THE TERM of slot n in lane l (engine.rs 1345-1399)
      unfoldable pub term : ℕ → ℕ → Float
      term n l =
          times (times_aux n l (slot_n n).aux (source_said n l (slot_n n).source_curve (slot_n n).source))
          (times (gain_said l (x.amount n) (amount_feeder n)) (gain_said l (x.output n) (output_feeder n)))

      -- added to lane l of the destination (engine.rs 1313-1343). "A voice route into a global plan reads the newest
      -- voice only."
      abbrev pub add_newest : ℕ → Float → Option ℕ → Float
      add_newest n a None = a
      add_newest n a (Some v) = plus a (term n v)

      abbrev pub add_term : ℕ → ℕ → Float → Float
      add_term n l a =
          cond (per_voice d)
          (cond (group_active l) (plus a (term n (cond (slot_voice n) l 0))) a)
          (cond (slot_voice n) (add_newest n a x.newest) (plus a (term n 0)))

      -- ---- the sum, slot after slot

      abbrev pub said_base : Float
      said_base = base_by d (feed_at d)

      abbrev pub is_plain : ℕ → Bool
      is_plain n = sends n d && plain_slot n d

      -- "their offsets are summed from 0 in slot order"
      abbrev pub offset_onto : ℕ → Float → Float
      offset_onto n a = cond (is_plain n) (plus a (times (offset_at n) (product n))) a

      unfoldable pub offset_sum : ℕ → Float
      offset_sum zero = zero32
      offset_sum (suc n) = offset_onto n (offset_sum n)

      -- "added to the base, then each input times its scaled gain (scale times gain), where that is not 0, is added in
      -- slot order"
      abbrev pub pick_read : ℕ → ℕ → Option ℕ → Float
      pick_read n l None = zero32
      pick_read n l (Some i) = source_read n 0 l i

      abbrev pub scaled_at : ℕ → Float
      scaled_at n = times (scale_at n) (product n)

      abbrev pub plain_onto : ℕ → ℕ → Float → Float
      plain_onto n l a =
          cond (is_plain n && not (eq (scaled_at n) zero32))
          (plus a (times (pick_read n l (slot_n n).source) (scaled_at n)))
          a

      unfoldable pub plain_sum : ℕ → ℕ → Float
      plain_sum l zero = plus said_base (offset_sum slots)
      plain_sum l (suc n) = plain_onto n l (plain_sum l n)

      -- plain routes come first, in the active span
      abbrev pub first_sum : ℕ → Float
      first_sum l = cond (any_below is_plain slots && spanned l) (plain_sum l slots) said_base

      -- "Other routes follow in slot order; one whose amount and output are both unfed with product 0 adds nothing"
      abbrev pub other_onto : ℕ → ℕ → Float → Float
      other_onto n l a = cond (sends n d && not (plain_slot n d || silent n)) (add_term n l a) a

      unfoldable pub sum_said : ℕ → ℕ → Float
      sum_said l zero = first_sum l
      sum_said l (suc n) = other_onto n l (sum_said l n)

      -- "An off-phase tick on a primed program changes fresh lanes of per-voice plans only"
      abbrev pub stays : ℕ → Bool
      stays l = not (eqb x.phase 0) && (x.primed && not (per_voice d && starts_in l))

      -- SAID: "Any other gets the base and its routes' terms, added and held to the bounds"
      unfoldable pub said : ℕ → Float
      said l =
          cond (stays l) (x.number d l)
          (hold (dest_at w.dests d).min (dest_at w.dests d).max (sum_said l slots))
