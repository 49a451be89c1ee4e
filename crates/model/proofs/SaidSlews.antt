-- Where ramps start and what slews are after a tick, as `said` has them, is what the routes give. Assumes nothing.
use mathlib.Core.Path.{◌≡◌, refl, sym, ap, ap₂, ◌∙◌}
use mathlib.Core.Bool.{Bool, true, false, not, cond, ◌&&◌, ◌||◌}
use Prim.Native.Nat.{ℕ, ◌<◌}
use lib.Dec.{ltb}
use lib.ListN.{length}
use lib.Ieee.{Float, nan}
use borrow.Author.Tests.{lt-ltb}
use Rattle.std.specs.Prelude.{Option, Some, None}
use Rattle.config.specs.Sizes.{slots, lanes}
use Rattle.curve_table.specs.declared.Curve.{Curve}
use Rattle.std.specs.Prelude.{Option, None, Some}
use Rattle.state.specs.declared.Candidate.{Candidate}
use Rattle.state.specs.declared.Route.{Route}
use Rattle.state.specs.declared.Slot.{Slot}
use Rattle.state.specs.declared.Wiring.{Wiring}
use Rattle.state.specs.Registry.{dest_at}
use Rattle.model.specs.Feeds.{dest_voice, feeder_of, aux_thing}
use Rattle.model.specs.Routes.{free_slew, slew_for, input_by, aux_by, route_by}
use Rattle.model.specs.Env.{Env, Rows, Own, is_fresh}
use Rattle.model.specs.Mix.{Mix}
use Rattle.model.specs.Lanes.{same_group, worked}
use Rattle.model.specs.Slews.{moves_in, aux_slew, source_after, aux_after}
use Rattle.model.specs.Tick.{kept, starting, held_sum, new_to, new_from}
use Rattle.model.specs.Said.{Instant, slews, slot_n, sends, per_voice, group_active, starts_in}
use Rattle.model.specs.SaidAfter.{ramp_said, newest_group, worked_in, moves_for, slew_said, slew_of_source, slew_of_aux}
use Rattle.model.specs.Instants.{laned}
use Rattle.model.specs.Rule.{Values, fed_from, slot_of, slot_route, slot_into, dest_mix, owns_of, seen, lanes_of, ruled}
use Rattle.model.proofs.SaidInputs.{voice-same, and-other, AtTick, Opens, instant_on, group-same, starts-same, stays_same}
use Rattle.model.proofs.SaidTerms.{pick_of, Stands, FedAs, voice-slot}
use Rattle.model.proofs.SaidRoutes.{free-same, input-is, plain-same, idle-same}
use Rattle.model.proofs.SaidSlots.{sent, sent-slot, sent-dest, sent-stands}
use Rattle.model.proofs.SaidFeeds.{fed-as}
use Rattle.model.proofs.SaidSums.{cond_same, lanes-in}

not-twice : (b : Bool) → not (not b) ≡ b
not-twice true = refl
not-twice false = refl

module _ (w : Wiring) (slotted : length w.matrix.slot ≡ slots) (t : Env) (phase : ℕ) (v : Values) (o : Opens t)
    (to : Rows) (d : ℕ) (at : AtTick t phase) where
  abbrev x : Instant
  x = instant_on t phase v o

  abbrev proposed : Rows
  proposed e = laned t.stride (to e)

  abbrev f : Rows
  f = seen v to d

  abbrev s : Own
  s = owns_of w v d

  abbrev m : Mix
  m = dest_mix w d

  -- a lane of the stride
  lane-in : (row : ℕ → Float) (l : ℕ) → l < t.stride → laned t.stride row l ≡ row l
  lane-in row l h = ap (λ (b : Bool). cond b (row l) nan) (lt-ltb l t.stride h)

  -- ---- where ramps start

  ramp-by : (b c : Bool) (start old sum number : Float) → number ≡ cond b old sum
      → cond b start (cond c sum old) ≡ cond b start (cond c number old)
  ramp-by true c start old sum number e = refl
  ramp-by false c start old sum number e = ap (λ (u : Float). cond c u old) (sym e)

  -- a lane that starts in this chunk
  starting-same : (l : ℕ) → per_voice w d && starts_in w x l ≡ starting t m l
  starting-same l =
      ap (λ (b : Bool). b && starts_in w x l) (voice-same (dest_at w.dests d).scope)
      ∙ ap (λ (b : Bool). dest_voice w d && b) (starts-same w t phase v o l)
      ∙ and-other (dest_voice w d) t.snap (is_fresh t l)

  -- A RAMP, where the number is the rule's
  pub ramp-same : 0 < t.stride → (l : ℕ) → l < lanes_of w t d → to d l ≡ ruled w t phase v to d l
      → new_from t phase m f s (v.to d) (v.from d) l ≡ ramp_said w x proposed d (v.from d l) l
  unfolding new_from new_to
  ramp-same wide l h e =
      let k : l < t.stride = lanes-in t.stride wide (dest_voice w d) l h in
      ramp-by (kept t phase m l) (starting t m l || not t.primed) (v.from d l) (v.to d l) (held_sum t f s m l)
      (to d l) e
      ∙ sym (cond_same (stays_same w t phase v o proposed d l) refl
      (cond_same (ap (λ (b : Bool). b || not t.primed) (starting-same l)) (lane-in (to d) l k)
      (lane-in (v.to d) l k)))

  -- ---- slews

  fed : FedAs w
  fed = fed-as w slotted

  newest-same : (a : Option ℕ) (l : ℕ) → same_group l a ≡ newest_group w x proposed d l a
  newest-same None l = refl
  newest-same (Some u) l = refl

  worked-by : (a b : Bool) (l : ℕ) → worked t a b l
      ≡ cond b (cond a (group_active w x l) (newest_group w x proposed d l t.voices.newest)) (ltb l lanes)
  worked-by true true l = sym (group-same w t phase v o l)
  worked-by false true l = newest-same t.voices.newest l
  worked-by true false l = refl
  worked-by false false l = refl

  module _ (n : ℕ) (h : n < slots) (b : sends w n d ≡ true) (l : ℕ) (k : l < t.stride) where
    abbrev j : ℕ
    j = sent w d n

    abbrev c : Candidate
    c = slot_into w d j

    abbrev r : Route
    r = slot_route w c

    stands : Stands w c
    stands = sent-stands w d slotted n h b

    worked-same : worked t (dest_voice w d) r.voice l ≡ worked_in w x proposed d c.slot l
    worked-same =
        worked-by (dest_voice w d) r.voice l
        ∙ ap₂ (λ (a e : Bool).
        cond e (cond a (group_active w x l) (newest_group w x proposed d l t.voices.newest)) (ltb l lanes))
        (sym (voice-same (dest_at w.dests d).scope)) (voice-slot w fed c stands)

    moves-same : moves_in t m r l ≡ moves_for w x proposed d c.slot l
    moves-same =
        ap₂ (λ (a e : Bool). not a && e)
        (ap₂ ◌||◌ (plain-same w fed t phase v o to d at j stands (sent-dest w d slotted n h b))
        (idle-same w fed t phase v o to d at j stands))
        worked-same

    -- a slew is there
    slews-same : (g : Slot → Curve) → not (free_slew (slew_for w.config.sample_rate (g (slot_of w c))))
        ≡ slews (g (slot_n w c.slot))
    slews-same g =
        ap not (free-same w.config.sample_rate (g (slot_of w c)))
        ∙ not-twice (slews (g (slot_of w c)))
        ∙ ap (λ (z : Slot). slews (g z)) (sym stands.slot)

    -- THE SLEW OF A SOURCE
    pub source-slew : source_after t m f s j l ≡ slew_of_source w x proposed d n l
    unfolding source_after slot_route route_by input_by slew_of_source
    source-slew =
        cond_same (ap₂ ◌&&◌ (slews-same (λ (z : Slot). z.source_curve)) moves-same)
        (input-is w fed t phase v o to d at j stands 0 l c.source (λ (z : Slot). z.source_curve))
        (sym (lane-in (v.own c.slot 0) l k))
        ∙ sym (ap (slew_said w x proposed d c.slot 0 l (slot_n w c.slot).source_curve) stands.source)
        ∙ ap (λ (i : ℕ). slew_said w x proposed d i 0 l (slot_n w i).source_curve (slot_n w i).source)
        (sent-slot w d slotted n h b)

    aux-by : (a : Option ℕ)
        → aux_slew t m f s j r l
        (aux_by w.config.sample_rate w.sources a (fed_from (feeder_of w (aux_thing a))) (slot_of w c).aux_curve)
        ≡ slew_said w x proposed d c.slot 1 l (slot_n w c.slot).aux_curve (pick_of a)
    unfolding slot_route route_by input_by
    aux-by None = sym (lane-in (v.own c.slot 1) l k)
    aux-by (Some i) =
        cond_same (ap₂ ◌&&◌ (slews-same (λ (z : Slot). z.aux_curve)) moves-same)
        (input-is w fed t phase v o to d at j stands 1 l i (λ (z : Slot). z.aux_curve))
        (sym (lane-in (v.own c.slot 1) l k))

    -- THE SLEW OF AN AUX
    pub aux-slew : aux_after t m f s j l ≡ slew_of_aux w x proposed d n l
    unfolding aux_after slot_route route_by slew_of_aux
    aux-slew =
        aux-by c.aux
        ∙ sym (ap (slew_said w x proposed d c.slot 1 l (slot_n w c.slot).aux_curve) stands.aux)
        ∙ ap (λ (i : ℕ). slew_said w x proposed d i 1 l (slot_n w i).aux_curve (slot_n w i).aux)
        (sent-slot w d slotted n h b)
