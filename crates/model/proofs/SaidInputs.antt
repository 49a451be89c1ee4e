-- What `said` reads is what a slot's route reads: lanes, fresh lanes, feeders' numbers, sources and inputs over curve and slew. Assumes nothing.
use Rattle.std.specs.Prelude.{Some, None}
use mathlib.Core.Path.{◌≡◌, refl, ap, ap₂, ◌∙◌}
use mathlib.Core.Logic.{◌⊎◌, inl, inr}
use mathlib.Core.Bool.{Bool, true, false, not, cond, ◌&&◌, ◌||◌}
use mathlib.Core.List.{List}
use Prim.Native.Nat.{ℕ, zero, suc, ◌+◌, ◌-◌}
use lib.Dec.{eqb, ltb}
use lib.ListN.{get_or}
use lib.Ieee.{Float, nan, eq, of_int}
use borrow.Author.Tests.{eqb-true}
use Rattle.config.specs.Sizes.{lanes, period}
use Rattle.number.specs.Number.{zero32, nearest32, times}
use Rattle.curve_table.specs.declared.Curve.{Curve}
use Rattle.curve_table.specs.declared.Curve.TheVariants as C
use Rattle.curve_table.specs.Curve.{is_linear, seconds_of}
use Rattle.slew.specs.Slew.{rate_per_sample, reach, slew_step}
use Rattle.feed.proofs.Tests.{which}
use Rattle.state.specs.declared.Kind.{Kind}
use Rattle.state.specs.declared.Kind.TheVariants as K
use Rattle.state.specs.declared.Scope.{Scope}
use Rattle.state.specs.declared.Scope.TheVariants as S
use Rattle.state.specs.declared.Range.{Range}
use Rattle.state.specs.declared.Range.TheVariants as R
use Rattle.std.specs.Prelude.{Option, None}
use Rattle.state.specs.Fed.{by_dest}
use Rattle.state.specs.declared.FedBy.{FedBy}
use Rattle.state.specs.declared.Wiring.{Wiring}
use Rattle.state.specs.Registry.{source_at, dest_at}
use Rattle.model.specs.Feeds.{is_voice, dest_voice}
use Rattle.model.specs.Routes.{is_bipolar, read_by, unfed_read, slew_for}
use Rattle.model.specs.Env.{Env, Rows, is_fresh, part_of, sample_in}
use Rattle.model.specs.Input.{fed_at, read_in, curved, slewed}
use Rattle.model.specs.Lanes.{any_from, group_of, in_group, sounding, in_span}
use Rattle.model.specs.Tick.{off_phase, kept}
use Rattle.model.specs.Rule.{Values, fed_from, dest_mix, seen}
use Rattle.model.specs.Said.{Instant, any_below, way_of, each_voice, both_ways, rise_of, fall_of, slews, per_sample}
use Rattle.model.specs.Said.{Feeding}
use Rattle.model.specs.Said.{unfed, fed_by, any_active, group_active, spanned, starts_in, feeder_now, way_read}
use Rattle.model.specs.Said.{read_back, over_curve, farthest, stays}
use Rattle.model.specs.Instants.{laned, instant_by}

-- ---- scopes and ranges

pub voice-same : (s : Scope) → each_voice s ≡ is_voice s
voice-same S.Voice = refl
voice-same S.Global = refl

pub ways-same : (r : Range) → both_ways r ≡ is_bipolar r
ways-same R.Unipolar = refl
ways-same R.Bipolar = refl

-- ---- marks of lanes

any_same : (l : List Bool) (a c : ℕ) → any_below (λ k. get_or l (a + k) false) c ≡ any_from l a c
any_same l a zero = refl
any_same l a (suc c) = ap (λ (b : Bool). b || get_or l (a + c) false) (any_same l a c)

and_both : (a b c : Bool) → a && (b && c) ≡ (a && b) && c
and_both true b c = refl
and_both false b c = refl

pub and-other : (a b c : Bool) → a && (b && c) ≡ b && (a && c)
and-other true b c = refl
and-other false true c = refl
and-other false false c = refl

-- how the steps of a tick stand
pub record AtTick (t : Env) (phase : ℕ) : Type 0 where
  pub steps : t.steps ≡ cond (off_phase phase) zero32 (nearest32 period)
  pub up_to : t.up_to ≡ t.frame + 1

-- the block's first chunk and the "any fresh" mark, which are only read together
pub record Opens (t : Env) : Type 0 where
  pub opening : Bool
  pub any_fresh : Bool
  pub both : opening && any_fresh ≡ t.snap

abbrev pub instant_on : (t : Env) → ℕ → Values → Opens t → Instant
instant_on t phase v o =
    let x = instant_by t phase v in
    record {
      stride = x.stride;
      primed = x.primed;
      any_fresh = o.any_fresh;
      fresh = x.fresh;
      active = x.active;
      newest = x.newest;
      held = x.held;
      global = x.global;
      base = x.base;
      amount = x.amount;
      output = x.output;
      random = x.random;
      slew = x.slew;
      table = x.table;
      number = x.number;
      heard = x.heard;
      frame = x.frame;
      phase = x.phase;
      opening = o.opening;
    }

-- the feeder as the compiler has it
abbrev pub as_feeder : Wiring → Feeding → Option FedBy
as_feeder w unfed = None
as_feeder w (fed_by e) = by_dest e (dest_voice w e)

module _ (w : Wiring) (t : Env) (phase : ℕ) (v : Values) (o : Opens t) where
  pub group-same : (l : ℕ) → group_active w (instant_on t phase v o) l ≡ in_group t l
  unfolding group_active in_group
  group-same l = any_same t.voices.active _ lanes

  pub sounds-same : any_active w (instant_on t phase v o) 0 t.stride ≡ sounding t
  unfolding sounding
  sounds-same = any_same t.voices.active 0 t.stride

  pub span_same : (l : ℕ) → spanned w (instant_on t phase v o) l ≡ in_span t l
  unfolding spanned in_span
  span_same l =
      ap₂ ◌&&◌ (any_same t.voices.active 0 (group_of l + lanes)) (any_same t.voices.active (group_of l) (t.stride - group_of l))

  pub starts-same : (l : ℕ) → starts_in w (instant_on t phase v o) l ≡ t.snap && is_fresh t l
  starts-same l =
      and_both o.opening o.any_fresh (is_fresh t l) ∙ ap (λ (b : Bool). b && is_fresh t l) o.both

  -- the lane keeps its number
  pub stays_same : (to : Rows) (d l : ℕ) → stays w (instant_on t phase v o) to d l ≡ kept t phase (dest_mix w d) l
  stays_same to d l =
      ap (λ (b : Bool). off_phase phase && (t.primed && not b))
      (ap (λ (b : Bool). b && starts_in w (instant_on t phase v o) l) (voice-same (dest_at w.dests d).scope)
      ∙ ap (λ (b : Bool). dest_voice w d && b) (starts-same l)
      ∙ and-other (dest_voice w d) t.snap (is_fresh t l))

  -- ---- what is read

  module _ (to : Rows) (d : ℕ) where
    abbrev proposed : Rows
    proposed e = laned t.stride (to e)

    -- a feeder's number: after the tick, or of itself before
    pub fed-same : (e l : ℕ) → fed_at t (seen v to d) e (dest_voice w e) l ≡ feeder_now w (instant_on t phase v o) proposed d e l
    fed-same e l = rw (voice-same (dest_at w.dests e).scope) (by (which (eqb e d)))
      where
        lane : ℕ
        lane = cond (is_voice (dest_at w.dests e).scope) l 0

        by : (eqb e d ≡ true) ⊎ (eqb e d ≡ false)
            → cond (ltb lane t.stride) (seen v to d e lane) nan ≡ cond (eqb e d) (laned t.stride (v.to e) lane) (laned t.stride (to e) lane)
        by (inl p) = rw (p, eqb-true e d p)
        by (inr p) = rw p

    -- an unfed source, by its kind
    unfed-same : (k : Kind) (s : Scope) (n p l i : ℕ)
        → read_in t (seen v to d) (laned t.stride (v.own n (2 + p)) l) l (unfed_read k i (is_voice s))
        ≡ way_read w (instant_on t phase v o) proposed d n p l i (each_voice s) (way_of k)
    unfolding sample_in part_of
    unfed-same K.Signal S.Voice n p l i = refl
    unfed-same K.Signal S.Global n p l i = refl
    unfed-same K.Audio S.Voice n p l i = refl
    unfed-same K.Audio S.Global n p l i = refl
    unfed-same K.Held S.Voice n p l i = refl
    unfed-same K.Held S.Global n p l i = refl
    unfed-same K.Velocity S.Voice n p l i = refl
    unfed-same K.Velocity S.Global n p l i = refl
    unfed-same K.Key S.Voice n p l i = refl
    unfed-same K.Key S.Global n p l i = refl
    unfed-same K.ReleaseVelocity S.Voice n p l i = refl
    unfed-same K.ReleaseVelocity S.Global n p l i = refl
    unfed-same K.Random S.Voice n p l i = refl
    unfed-same K.Random S.Global n p l i = refl
    unfed-same (K.Alternate inverse) S.Voice n p l i = refl
    unfed-same (K.Alternate inverse) S.Global n p l i = refl
    unfed-same K.RandomPerRoute S.Voice n p l i = refl
    unfed-same K.RandomPerRoute S.Global n p l i = refl
    unfed-same K.VoiceLoad S.Voice n p l i = refl
    unfed-same K.VoiceLoad S.Global n p l i = refl
    unfed-same K.Constant S.Voice n p l i = refl
    unfed-same K.Constant S.Global n p l i = refl

    -- A SOURCE AS IT IS READ
    pub read_same : (f : Feeding) (n p l i : ℕ)
        → read_in t (seen v to d) (laned t.stride (v.own n (2 + p)) l) l (read_by (source_at w.sources i) i (fed_from (as_feeder w f)))
        ≡ read_back w (instant_on t phase v o) proposed d n p l i f
    read_same unfed n p l i = unfed-same (source_at w.sources i).kind (source_at w.sources i).scope n p l i
    read_same (fed_by e) n p l i = fed-same e l

    -- ---- over curve and slew

    -- how far a slew moves
    module _ (at : AtTick t phase) where
      far-same : (seconds : Float) → reach (rate_per_sample seconds w.config.sample_rate) t.steps ≡ farthest w (instant_on t phase v o) proposed d seconds
      unfolding rate_per_sample reach eq of_int
      far-same seconds = rw at.steps (by (eqb phase 0))
        where
          rate : Float
          rate = per_sample w.config.sample_rate seconds

          by : (b : Bool) → cond (eq (cond (not b) zero32 (nearest32 period)) zero32) zero32 (times rate (cond (not b) zero32 (nearest32 period)))
              ≡ cond b (times rate (nearest32 period)) zero32
          by true = refl
          by false = refl

      -- a slew, where there is one
      slewed-by : (b : Bool) (up down snap prev u : Float) → slewed t snap prev (cond b (Some (record { up = up; down = down })) None) u
          ≡ cond b (slew_step (reach up t.steps) (reach down t.steps) snap prev u) u
      slewed-by true up down snap prev u = refl
      slewed-by false up down snap prev u = refl

      pub curve-same : (n p : ℕ) (c : Curve) (u : Float) → curved t n p (not (is_linear c)) u ≡ over_curve w (instant_on t phase v o) proposed d n p c u
      curve-same n p C.Linear u = refl
      curve-same n p (C.Table rise fall) u = refl

      pub slew-same : (c : Curve) (snap prev u : Float)
          → slewed t snap prev (slew_for w.config.sample_rate c) u
          ≡ cond (slews c) (slew_step (farthest w (instant_on t phase v o) proposed d (rise_of c)) (farthest w (instant_on t phase v o) proposed d (fall_of c)) snap prev u) u
      unfolding slew_for seconds_of
      slew-same C.Linear snap prev u =
          slewed-by (slews C.Linear) (rate_per_sample zero32 w.config.sample_rate) (rate_per_sample zero32 w.config.sample_rate) snap prev u
          ∙ rw (far-same zero32)
      slew-same (C.Table rise fall) snap prev u =
          slewed-by (slews (C.Table rise fall)) (rate_per_sample (rise_of (C.Table rise fall)) w.config.sample_rate)
          (rate_per_sample (fall_of (C.Table rise fall)) w.config.sample_rate) snap prev u
          ∙ rw (far-same (rise_of (C.Table rise fall)), far-same (fall_of (C.Table rise fall)))
