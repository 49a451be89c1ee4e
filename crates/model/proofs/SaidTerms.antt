-- The term that `said` gives a slot is the value of the slot's route, where its slot stands as its candidate says and its feeders are those that `said` finds. Assumes nothing.
use mathlib.Core.Path.{◌≡◌, refl, sym, ap, ap₂, ◌∙◌}
use mathlib.Core.Bool.{Bool, true, false, not, cond, ◌&&◌, ◌||◌}
use Prim.Native.Nat.{ℕ, ◌+◌}
use lib.Ieee.{Float}
use Rattle.number.specs.Number.{one32, zero32}
use Rattle.curve_table.specs.declared.Curve.{Curve}
use Rattle.curve_table.specs.Curve.{is_linear}
use Rattle.slew.specs.Slew.{slew_step}
use Rattle.state.specs.declared.Kind.{Kind}
use Rattle.state.specs.declared.Kind.TheVariants as K
use Rattle.state.specs.declared.Scope.{Scope}
use Rattle.state.specs.declared.Polarity.{Polarity}
use Rattle.state.specs.declared.Polarity.TheVariants as Q
use Rattle.state.specs.declared.Base.TheVariants as B
use Rattle.std.specs.Prelude.{Option, None, Some}
use Rattle.state.specs.declared.FedBy.{FedBy}
use Rattle.state.specs.declared.Candidate.{Candidate}
use Rattle.state.specs.declared.Wiring.{Wiring}
use Rattle.state.specs.Registry.{source_at, dest_at}
use Rattle.model.specs.Feeds.{is_voice, feeder_of, aux_thing}
use Rattle.model.specs.Routes.{is_bipolar, unfed_read, read_by, voice_read, voice_gain, voice_aux, slew_for, input_by}
use Rattle.model.specs.Routes.{aux_by, route_by, two_way, scale_of, offset_of}
use Rattle.model.specs.Env.{Env, Rows}
use Rattle.model.specs.Input.{read_in, unipolar, curved, slewed, input_in}
use Rattle.model.specs.Lanes.{snap_of}
use Rattle.model.specs.RouteValue.{gain_in}
use Rattle.model.specs.Rule.{Values, fed_from, slot_of, slot_route, seen}
use Rattle.model.specs.Said.{way_of, each_voice, both_ways, both_sides, slews, Feeding, unfed, fed_by, slot_n}
use Rattle.model.specs.Said.{source_feeder, amount_feeder, output_feeder, way_voice, read_voice, pick_voice, gain_voice}
use Rattle.model.specs.Said.{slot_voice, scale_by, offset_by, source_read, one_way, over_curve, snap_in, rise_of, fall_of}
use Rattle.model.specs.Said.{farthest, input_said, gain_said}
use Rattle.model.specs.Instants.{laned}
use Rattle.model.proofs.SaidInputs.{voice-same, ways-same, AtTick, as_feeder, starts-same, fed-same, read_same}
use Rattle.model.proofs.SaidInputs.{Opens, instant_on, curve-same, slew-same}

-- ---- what a candidate says of its slot, and what the compiler finds of feeders

abbrev pub pick_of : Option ℕ → Option ℕ
pick_of None = None
pick_of (Some i) = Some i

pub record Stands (w : Wiring) (c : Candidate) : Type 0 where
  pub slot : slot_n w c.slot ≡ slot_of w c
  pub source : (slot_n w c.slot).source ≡ Some c.source
  pub aux : (slot_n w c.slot).aux ≡ pick_of c.aux

pub record FedAs (w : Wiring) : Type 0 where
  pub source : (i : ℕ) → feeder_of w (B.Held i) ≡ as_feeder w (source_feeder w i)
  pub amount : (n : ℕ) → feeder_of w (B.Amount n) ≡ as_feeder w (amount_feeder w n)
  pub output : (n : ℕ) → feeder_of w (B.Output n) ≡ as_feeder w (output_feeder w n)

-- ---- polarity

pub sides-same : (p : Polarity) → both_sides p ≡ two_way p
sides-same Q.Unipolar = refl
sides-same Q.Bipolar = refl

module _ (w : Wiring) where
  pub scale_same : (a b : Bool) → scale_of a b ≡ scale_by w a b
  scale_same false false = refl
  scale_same false true = refl
  scale_same true false = refl
  scale_same true true = refl

  pub offset-same : (a b : Bool) → offset_of a b ≡ offset_by w a b
  offset-same false false = refl
  offset-same false true = refl
  offset-same true false = refl
  offset-same true true = refl

  -- ---- what has a number for each voice

  unfed-voice : (k : Kind) (s : Scope) (i : ℕ) → voice_read (unfed_read k i (is_voice s)) ≡ way_voice w (way_of k) (each_voice s)
  unfed-voice K.Signal s i = sym (voice-same s)
  unfed-voice K.Audio s i = sym (voice-same s)
  unfed-voice K.Held s i = sym (voice-same s)
  unfed-voice K.Velocity s i = sym (voice-same s)
  unfed-voice K.Key s i = sym (voice-same s)
  unfed-voice K.ReleaseVelocity s i = sym (voice-same s)
  unfed-voice K.Random s i = sym (voice-same s)
  unfed-voice (K.Alternate inverse) s i = sym (voice-same s)
  unfed-voice K.RandomPerRoute s i = refl
  unfed-voice K.VoiceLoad s i = sym (voice-same s)
  unfed-voice K.Constant s i = refl

  read-voice : (f : Feeding) (i : ℕ) → voice_read (read_by (source_at w.sources i) i (fed_from (as_feeder w f))) ≡ read_voice w f (source_at w.sources i)
  read-voice unfed i = unfed-voice (source_at w.sources i).kind (source_at w.sources i).scope i
  read-voice (fed_by e) i = sym (voice-same (dest_at w.dests e).scope)

  gain-voice : (f : Feeding) → voice_gain (fed_from (as_feeder w f)) ≡ gain_voice w f
  gain-voice unfed = refl
  gain-voice (fed_by e) = sym (voice-same (dest_at w.dests e).scope)

  module _ (fed : FedAs w) where
    pub source-voice : (i : ℕ) → voice_read (read_by (source_at w.sources i) i (fed_from (feeder_of w (B.Held i)))) ≡ pick_voice w (Some i)
    source-voice i =
        ap (λ (g : Option FedBy). voice_read (read_by (source_at w.sources i) i (fed_from g))) (fed.source i) ∙ read-voice (source_feeder w i) i

    aux-voice : (a : Option ℕ) (c : Curve)
        → voice_aux (aux_by w.config.sample_rate w.sources a (fed_from (feeder_of w (aux_thing a))) c) ≡ pick_voice w (pick_of a)
    unfolding input_by
    aux-voice None c = refl
    aux-voice (Some i) c = source-voice i

    -- A SLOT'S SCOPE
    pub voice-slot : (c : Candidate) → Stands w c → (slot_route w c).voice ≡ slot_voice w c.slot
    unfolding slot_route route_by input_by slot_voice
    voice-slot c s =
        ap₂ ◌||◌ (source-voice c.source ∙ sym (ap (pick_voice w) s.source))
        (ap₂ ◌||◌ (aux-voice c.aux (slot_of w c).aux_curve ∙ sym (ap (pick_voice w) s.aux))
        (ap₂ ◌||◌ (ap (λ (g : Option FedBy). voice_gain (fed_from g)) (fed.amount c.slot) ∙ gain-voice (amount_feeder w c.slot))
        (ap (λ (g : Option FedBy). voice_gain (fed_from g)) (fed.output c.slot) ∙ gain-voice (output_feeder w c.slot))))

    module _ (t : Env) (phase : ℕ) (v : Values) (o : Opens t) (to : Rows) (d : ℕ) (at : AtTick t phase) where
      abbrev proposed : Rows
      proposed e = laned t.stride (to e)

      -- fresh lanes of slots per voice
      pub snap-same : (c : Candidate) → Stands w c → (l : ℕ) → snap_of t (slot_route w c).voice l ≡ snap_in w (instant_on t phase v o) proposed d c.slot l
      snap-same c s l = ap₂ (λ (a b : Bool). cond (a && b) one32 zero32) (voice-slot c s) (sym (starts-same w t phase v o l))

      -- A SOURCE AS A SLOT READS IT
      pub source-same : (n p l i : ℕ)
          → read_in t (seen v to d) (laned t.stride (v.own n (2 + p)) l) l (read_by (source_at w.sources i) i (fed_from (feeder_of w (B.Held i))))
          ≡ source_read w (instant_on t phase v o) proposed d n p l i
      unfolding source_read
      source-same n p l i =
          ap (λ (g : Option FedBy). read_in t (seen v to d) (laned t.stride (v.own n (2 + p)) l) l (read_by (source_at w.sources i) i (fed_from g))) (fed.source i)
          ∙ read_same w t phase v o to d (source_feeder w i) n p l i

      -- AN INPUT OVER ITS CURVE AND ITS SLEW
      pub input-same : (n p l i : ℕ) (c : Curve) (snap : Float) → snap ≡ snap_in w (instant_on t phase v o) proposed d n l
          → input_in t (seen v to d) n p snap (laned t.stride (v.own n p) l) (laned t.stride (v.own n (2 + p)) l) l
          (input_by w.config.sample_rate (source_at w.sources i) i (fed_from (feeder_of w (B.Held i))) c)
          ≡ input_said w (instant_on t phase v o) proposed d n p l c i
      unfolding input_in input_by input_said
      input-same n p l i c snap e =
          let rate = w.config.sample_rate in
          let prev = laned t.stride (v.own n p) l in
          let u = source_read w (instant_on t phase v o) proposed d n p l i in
          let z = over_curve w (instant_on t phase v o) proposed d n p c (one_way w (instant_on t phase v o) proposed d (both_ways (source_at w.sources i).range) u) in
          let up = farthest w (instant_on t phase v o) proposed d (rise_of c) in
          let down = farthest w (instant_on t phase v o) proposed d (fall_of c) in
          ap (λ (y : Float). slewed t snap prev (slew_for rate c) (curved t n p (not (is_linear c)) (unipolar (is_bipolar (source_at w.sources i).range) y))) (source-same n p l i)
          ∙ ap (λ (b : Bool). slewed t snap prev (slew_for rate c) (curved t n p (not (is_linear c)) (unipolar b u))) (sym (ways-same (source_at w.sources i).range))
          ∙ ap (slewed t snap prev (slew_for rate c)) (curve-same w t phase v o to d at n p c _)
          ∙ slew-same w t phase v o to d at c snap prev z
          ∙ ap (λ (y : Float). cond (slews c) (slew_step up down y prev z) z) e

      -- amount or output
      pub gain-same : (f : Feeding) (l : ℕ) (set : Float) → gain_in t (seen v to d) l set (fed_from (as_feeder w f)) ≡ gain_said w (instant_on t phase v o) proposed d l set f
      gain-same unfed l set = refl
      gain-same (fed_by e) l set = fed-same w t phase v o to d e l
