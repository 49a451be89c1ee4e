-- A slot's route has the value that `said` gives its slot, and is plain and idle where the slot is. Assumes nothing.
use Rattle.std.specs.Prelude.{Some, None}
use mathlib.Core.Path.{◌≡◌, refl, sym, ap, ap₂, ◌∙◌}
use mathlib.Core.Bool.{Bool, true, false, not, cond, ◌&&◌}
use Prim.Native.Nat.{ℕ, ◌+◌}
use lib.Ieee.{Float, eq}
use Rattle.number.specs.Number.{zero32, one32, two32, plus, less, times, max32}
use Rattle.curve_table.specs.declared.Curve.{Curve}
use Rattle.curve_table.specs.declared.Curve.TheVariants as C
use Rattle.curve_table.specs.Curve.{is_linear, seconds_of}
use Rattle.slew.specs.Slew.{rate_per_sample}
use Rattle.state.specs.declared.Kind.{Kind}
use Rattle.state.specs.declared.Kind.TheVariants as K
use Rattle.state.specs.declared.Scope.{Scope}
use Rattle.state.specs.declared.Scope.TheVariants as S
use Rattle.state.specs.declared.Base.TheVariants as B
use Rattle.std.specs.Prelude.{Option, None, Some}
use Rattle.state.specs.declared.FedBy.{FedBy}
use Rattle.state.specs.declared.Slot.{Slot}
use Rattle.state.specs.declared.Candidate.{Candidate}
use Rattle.state.specs.declared.Route.{Route}
use Rattle.state.specs.declared.Wiring.{Wiring}
use Rattle.state.specs.Registry.{source_at, dest_at}
use Rattle.model.specs.Feeds.{is_voice, dest_voice, feeder_of, aux_thing}
use Rattle.model.specs.Routes.{is_bipolar, unfed_read, read_by, live_gain, slew_for, free_slew, no_aux}
use Rattle.model.specs.Routes.{input_by, aux_by, route_by, two_way, scale_of, offset_of}
use Rattle.model.specs.Env.{Env, Rows, gain_of, part_of, live_amount_of, live_output_of}
use Rattle.model.specs.Input.{input_in}
use Rattle.model.specs.Lanes.{snap_of}
use Rattle.model.specs.RouteValue.{raw_in, sourced, with_aux, gain_in, gained, route_value, idle, whole_row, plain}
use Rattle.model.specs.Sums.{scaled_gain}
use Rattle.model.specs.Rule.{Values, fed_from, slot_of, slot_route, slot_into, owns_of, seen}
use Rattle.model.specs.Said.{Instant, way_of, each_voice, both_sides, straight, slews}
use Rattle.model.specs.Said.{Feeding, unfed, fed_by, is_unfed, slot_n, source_feeder, amount_feeder, output_feeder}
use Rattle.model.specs.Said.{pick_voice, pick_range, scale_at, offset_at, picks_none, simple_slot, way_row}
use Rattle.model.specs.Said.{read_row, pick_row, plain_slot, product, silent, source_said, times_aux, gain_said, term}
use Rattle.model.specs.Said.{input_said, pick_read, scaled_at}
use Rattle.model.specs.Instants.{laned}
use Rattle.model.proofs.SaidInputs.{voice-same, ways-same, AtTick, Opens, instant_on, as_feeder, sounds-same}
use Rattle.model.proofs.SaidTerms.{pick_of, Stands, FedAs, sides-same, scale_same, offset-same, source-voice}
use Rattle.model.proofs.SaidTerms.{snap-same, source-same, input-same, gain-same}

-- ---- curves

straight-same : (c : Curve) → not (not (is_linear c)) ≡ straight c
straight-same C.Linear = refl
straight-same (C.Table rise fall) = refl

free-by : (b : Bool) (up down : Float) → free_slew (cond b (Some (record { up = up; down = down })) None) ≡ not b
free-by true up down = refl
free-by false up down = refl

pub free-same : (rate : Float) (c : Curve) → free_slew (slew_for rate c) ≡ not (slews c)
unfolding slew_for seconds_of
free-same rate C.Linear = free-by (slews C.Linear) (rate_per_sample zero32 rate) (rate_per_sample zero32 rate)
free-same rate (C.Table rise fall) =
    free-by (slews (C.Table rise fall)) (rate_per_sample (max32 rise zero32) rate)
    (rate_per_sample (max32 fall zero32) rate)

-- ---- gains

live_same : (w : Wiring) (f : Feeding) → live_gain (fed_from (as_feeder w f)) ≡ is_unfed f
live_same w unfed = refl
live_same w (fed_by e) = refl

none-same : (rate : Float) (w : Wiring) (a : Option ℕ) (g : Option FedBy) (c : Curve)
    → no_aux (aux_by rate w.sources a (fed_from g) c) ≡ picks_none w (pick_of a)
none-same rate w None g c = refl
none-same rate w (Some i) g c = refl

-- ---- what a slot's source comes to, by its parts: as read and scaled, or its input, both ways where it is bipolar

abbrev shaped : Bool → Float → Float → Float → Bool → Float → Float
shaped b u scale offset both a = cond b (plus (times u scale) offset) (cond both (less (times a two32) one32) a)

shaped-same : {b b' both both' : Bool} {u u' k k' o o' a a' : Float}
    → b ≡ b' → u ≡ u' → k ≡ k' → o ≡ o' → both ≡ both' → a ≡ a' → shaped b u k o both a ≡ shaped b' u' k' o' both' a'
shaped-same p q r s e h = rw (p, q, r, s, e, h)

module _ (w : Wiring) (fed : FedAs w) (t : Env) (phase : ℕ) (v : Values) (o : Opens t) (to : Rows) (d : ℕ)
    (at : AtTick t phase) where
  abbrev x : Instant
  x = instant_on t phase v o

  abbrev proposed : Rows
  proposed e = laned t.stride (to e)

  -- ---- whole rows of signals

  unfed-row : (k : Kind) (s : Scope) (i : ℕ)
      → whole_row t (unfed_read k i (is_voice s)) ≡ way_row w x (way_of k) i (each_voice s)
  unfolding part_of
  unfed-row K.Signal S.Voice i = rw at.up_to
  unfed-row K.Signal S.Global i = refl
  unfed-row K.Audio S.Voice i = rw at.up_to
  unfed-row K.Audio S.Global i = refl
  unfed-row K.Held s i = sym (voice-same s)
  unfed-row K.Velocity s i = sym (voice-same s)
  unfed-row K.Key s i = sym (voice-same s)
  unfed-row K.ReleaseVelocity s i = sym (voice-same s)
  unfed-row K.Random s i = sym (voice-same s)
  unfed-row (K.Alternate inverse) s i = sym (voice-same s)
  unfed-row K.RandomPerRoute s i = refl
  unfed-row K.VoiceLoad s i = sym (voice-same s)
  unfed-row K.Constant s i = refl

  row_by : (f : Feeding) (i : ℕ)
      → whole_row t (read_by (source_at w.sources i) i (fed_from (as_feeder w f)))
      ≡ read_row w x f i (source_at w.sources i)
  row_by unfed i = unfed-row (source_at w.sources i).kind (source_at w.sources i).scope i
  row_by (fed_by e) i = sym (voice-same (dest_at w.dests e).scope)

  module _ (j : ℕ) (s : Stands w (slot_into w d j)) where
    abbrev c : Candidate
    c = slot_into w d j

    abbrev n : ℕ
    n = c.slot

    abbrev r : Route
    r = slot_route w c

    -- ---- polarity

    range_same : is_bipolar (source_at w.sources c.source).range ≡ pick_range w (slot_n w n).source
    range_same = sym (ways-same (source_at w.sources c.source).range) ∙ sym (ap (pick_range w) s.source)

    both-same : two_way (slot_of w c).polarity ≡ both_sides (slot_n w n).polarity
    both-same = sym (sides-same (slot_of w c).polarity) ∙ ap (λ (z : Slot). both_sides z.polarity) (sym s.slot)

    pub scale-is : r.scale ≡ scale_at w n
    unfolding slot_route route_by input_by
    scale-is =
        ap₂ scale_of range_same both-same
        ∙ scale_same w (pick_range w (slot_n w n).source) (both_sides (slot_n w n).polarity)

    pub offset-is : r.offset ≡ offset_at w n
    unfolding slot_route route_by input_by
    offset-is =
        ap₂ offset_of range_same both-same
        ∙ offset-same w (pick_range w (slot_n w n).source) (both_sides (slot_n w n).polarity)

    pub product_is : gain_of t r ≡ product w x n
    unfolding slot_route route_by
    product_is = refl

    -- ---- the source as it is read

    pub raw_same : (l : ℕ)
        → raw_in t (seen v to d) (owns_of w v d) j l r ≡ pick_read w x proposed d n l (slot_n w n).source
    unfolding slot_route route_by input_by
    raw_same l =
        source-same w fed t phase v o to d at n 0 l c.source
        ∙ sym (ap (pick_read w x proposed d n l) s.source)

    -- ---- the term

    pub input-is : (p l i : ℕ) (g : Slot → Curve)
        → input_in t (seen v to d) n p (snap_of t r.voice l) (laned t.stride (v.own n p) l)
        (laned t.stride (v.own n (2 + p)) l) l
        (input_by w.config.sample_rate (source_at w.sources i) i (fed_from (feeder_of w (B.Held i)))
        (g (slot_of w c)))
        ≡ input_said w x proposed d n p l (g (slot_n w n)) i
    input-is p l i g =
        input-same w fed t phase v o to d at n p l i (g (slot_of w c)) (snap_of t r.voice l)
        (snap-same w fed t phase v o to d at c s l)
        ∙ ap (λ (z : Slot). input_said w x proposed d n p l (g z) i) (sym s.slot)

    source-term : (l : ℕ) → sourced t (seen v to d) (owns_of w v d) j l r
        ≡ source_said w x proposed d n l (slot_n w n).source_curve (slot_n w n).source
    unfolding slot_route route_by input_by
    source-term l =
        shaped-same
        (ap₂ ◌&&◌ (straight-same (slot_of w c).source_curve)
        (free-same w.config.sample_rate (slot_of w c).source_curve)
        ∙ ap (λ (z : Slot). straight z.source_curve && not (slews z.source_curve)) (sym s.slot))
        (source-same w fed t phase v o to d at n 0 l c.source)
        scale-is offset-is both-same
        (input-is 0 l c.source (λ (z : Slot). z.source_curve))
        ∙ sym (ap (source_said w x proposed d n l (slot_n w n).source_curve) s.source)

    aux-term : (l : ℕ) (a : Option ℕ) (u : Float)
        → with_aux t (seen v to d) (owns_of w v d) j l r
        (aux_by w.config.sample_rate w.sources a (fed_from (feeder_of w (aux_thing a)))
        (slot_of w c).aux_curve) u
        ≡ times_aux w x proposed d n l (pick_of a) u
    unfolding slot_route route_by
    aux-term l None u = refl
    aux-term l (Some i) u =
        ap₂ (λ (b : Bool) (a : Float). times u (cond b (less one32 a) a))
        (ap (λ (z : Slot). z.aux_invert) (sym s.slot))
        (input-is 1 l i (λ (z : Slot). z.aux_curve))

    gains-same : (l : ℕ) → gained t (seen v to d) l r
        ≡ times (gain_said w x proposed d l (x.amount n) (amount_feeder w n))
        (gain_said w x proposed d l (x.output n) (output_feeder w n))
    unfolding slot_route route_by
    gains-same l =
        ap₂ times
        (ap (λ (g : Option FedBy). gain_in t (seen v to d) l (live_amount_of t n) (fed_from g)) (fed.amount n)
        ∙ gain-same w fed t phase v o to d at (amount_feeder w n) l (live_amount_of t n))
        (ap (λ (g : Option FedBy). gain_in t (seen v to d) l (live_output_of t n) (fed_from g)) (fed.output n)
        ∙ gain-same w fed t phase v o to d at (output_feeder w n) l (live_output_of t n))

    -- THE TERM OF A SLOT
    pub term-same : (l : ℕ) → route_value t (seen v to d) (owns_of w v d) j l r ≡ term w x proposed d n l
    unfolding route_value slot_route route_by input_by term
    term-same l =
        let u = source_said w x proposed d n l (slot_n w n).source_curve (slot_n w n).source in
        ap₂ times
        (ap (with_aux t (seen v to d) (owns_of w v d) j l r r.aux) (source-term l)
        ∙ aux-term l c.aux u
        ∙ sym (ap (λ (p : Option ℕ). times_aux w x proposed d n l p u) s.aux))
        (gains-same l)

    -- ---- plain, and idle

    live-amount : live_gain r.amount ≡ is_unfed (amount_feeder w n)
    unfolding slot_route route_by
    live-amount = ap (λ (g : Option FedBy). live_gain (fed_from g)) (fed.amount n) ∙ live_same w (amount_feeder w n)

    live-output : live_gain r.output ≡ is_unfed (output_feeder w n)
    unfolding slot_route route_by
    live-output = ap (λ (g : Option FedBy). live_gain (fed_from g)) (fed.output n) ∙ live_same w (output_feeder w n)

    row_same : whole_row t r.source.read ≡ pick_row w x (slot_n w n).source
    unfolding slot_route route_by input_by
    row_same =
        ap (λ (g : Option FedBy). whole_row t (read_by (source_at w.sources c.source) c.source (fed_from g)))
        (fed.source c.source)
        ∙ row_by (source_feeder w c.source) c.source
        ∙ sym (ap (pick_row w x) s.source)

    module _ (into : c.dest ≡ d) where
      simple-same : r.simple ≡ simple_slot w n d
      unfolding slot_route route_by input_by simple_slot
      simple-same =
          ap₂ ◌&&◌ (source-voice w fed c.source ∙ sym (ap (pick_voice w) s.source))
          (ap₂ ◌&&◌ (ap (dest_voice w) into ∙ sym (voice-same (dest_at w.dests d).scope))
          (ap₂ ◌&&◌
          (straight-same (slot_of w c).source_curve
          ∙ ap (λ (z : Slot). straight z.source_curve) (sym s.slot))
          (ap₂ ◌&&◌
          (free-same w.config.sample_rate (slot_of w c).source_curve
          ∙ ap (λ (z : Slot). not (slews z.source_curve)) (sym s.slot))
          (ap₂ ◌&&◌
          (none-same w.config.sample_rate w c.aux (feeder_of w (aux_thing c.aux)) (slot_of w c).aux_curve
          ∙ sym (ap (picks_none w) s.aux))
          (ap₂ ◌&&◌ live-amount live-output)))))

      -- A PLAIN SLOT
      pub plain-same : plain t (dest_voice w d) r ≡ plain_slot w x n d
      unfolding plain plain_slot
      plain-same =
          ap₂ ◌&&◌ (sym (voice-same (dest_at w.dests d).scope))
          (ap₂ ◌&&◌ (sym (sounds-same w t phase v o)) (ap₂ ◌&&◌ simple-same row_same))

    -- A SILENT SLOT
    pub idle-same : idle t r ≡ silent w x n
    idle-same = ap₂ ◌&&◌ live-amount (ap₂ ◌&&◌ live-output (ap (λ (u : Float). eq u zero32) product_is))

    -- scale times gain
    pub scaled-same : scaled_gain t r ≡ scaled_at w x proposed d n
    scaled-same = ap₂ times scale-is product_is
