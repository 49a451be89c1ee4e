-- Where the numbers of a destination stand. Assumes nothing.
use mathlib.Core.Path.{◌≡◌, ap}
use mathlib.Core.Bool.{Bool, true, false, not, cond, ◌&&◌}
use mathlib.Core.List.{List, [], ◌∷◌}
use Prim.Native.Nat.{ℕ, suc, ◌+◌, ◌*◌, ◌≤◌}
use native.Mathlib.Omega.{arith}
use lib.Dec.{ltb, eqb}
use lib.ListN.{length, get_or, take, length-take}
use lib.Ieee.{Float, nan}
use Rattle.config.specs.Sizes.{slots, most_voices, most_frames, most_stride, most_chunks}
use Rattle.state_filled.specs.Filled.{no_plan}
use Rattle.state.specs.declared.Plan.{Plan}
use Rattle.state.specs.declared.State.{State}
use Rattle.layout.proofs.Bounds.{product-bound, stride-bound}
use Rattle.model.specs.Counts.{frame_count, stride_of, chunks_most, plan_total, plan_at, at}
use Rattle.model.specs.Layout.{plan_width, plan_size, audio_size}
use Rattle.model.specs.Outputs.{plan_of, plan_place, is_audio_plan, is_control_plan, width_of, lane_of, audio_start, from_place, to_place, audio_number, to_number}
use Rattle.engine_reads.specs.Spot.{spot_of, most_start, Bounded}
use Rattle.engine_reads.specs.declared.Spot.{Spot}

-- ---- places

cond-most : (b : Bool) (n m : ℕ) → n ≤ m → cond b 0 (suc n) ≤ suc m
cond-most true n m h = omega arith
cond-most false n m h = omega arith

plan-most : (d : ℕ) (l : List Plan) → plan_of d l ≤ length l
plan-most d [] = omega arith
plan-most d (p ∷ ps) = cond-most (eqb p.dest d) (plan_of d ps) (length ps) (plan-most d ps)

pub place-most : (st : State) (d : ℕ) → plan_place st d ≤ slots
place-most st d =
    let n = plan_total st.program in
    omega (arith, plan-most d (take n st.program.plan), length-take n st.program.plan)

pub width-least : (s : ℕ) (v : Bool) → 1 ≤ s → 1 ≤ plan_width s v
width-least s true h = h
width-least s false h = omega arith

pub width-most : (s : ℕ) (v : Bool) → s ≤ most_stride → plan_width s v ≤ most_stride
width-most s true h = h
width-most s false h = omega arith

pub lane-most : (b : Bool) (v : ℕ) → v ≤ most_voices → cond b v 0 ≤ most_voices
lane-most true v h = h
lane-most false v h = omega arith

module _ (st : State) (d : ℕ) where
  -- computed from the plan's place
  pub spot_is : {n i s ch f : ℕ} {v a : Bool} → n ≡ plan_total st.program → i ≡ plan_of d (take n st.program.plan) → s ≡ stride_of st
      → ch ≡ chunks_most st → f ≡ frame_count st → v ≡ (get_or st.program.plan i no_plan).voice → a ≡ (get_or st.program.plan i no_plan).audio
      → ◌≡◌ {A = Spot} (record {
        audio = ltb i n && a;
        control = ltb i n && not a;
        voice = v;
        width = plan_width s v;
        from = i * plan_size s ch + 2 * s;
        to = i * plan_size s ch + (2 + ch) * s;
        rows = i * audio_size s f;
      }) (spot_of st d)
  unfolding spot_of plan_at
  spot_is en ei es ec ef ev ea = rw (ea, ev, ei, en, es, ec, ef)

  stride_most : stride_of st ≤ most_stride
  stride_most = stride-bound st.config.voices

  -- ---- what a spot is

  bounds_of : Bounded (spot_of st d)
  unfolding spot_of
  bounds_of =
      let i = plan_place st d in
      let s = stride_of st in
      let n = chunks_most st in
      let most = plan_size most_stride (most_chunks most_frames) in
      let hi : i ≤ slots = place-most st d in
      let hs : s ≤ most_stride = stride_most in
      let hn : n ≤ most_chunks most_frames = omega arith in
      let hf : frame_count st ≤ most_frames = omega arith in
      let size : plan_size s n ≤ most = omega (arith, product-bound s (2 * n + 6) most_stride (2 * most_chunks most_frames + 6) hs (omega arith)) in
      let plans : i * plan_size s n ≤ slots * most = omega (arith, product-bound i (plan_size s n) slots most hi size) in
      let front : (2 + n) * s ≤ (2 + most_chunks most_frames) * most_stride = omega (arith, product-bound (2 + n) s (2 + most_chunks most_frames) most_stride (omega arith) hs) in
      let block : audio_size s (frame_count st) ≤ audio_size most_stride most_frames = omega (arith, product-bound s (frame_count st) most_stride most_frames hs hf) in
      let blocks : i * audio_size s (frame_count st) ≤ most_start = omega (arith, product-bound i (audio_size s (frame_count st)) slots (audio_size most_stride most_frames) hi block) in
      record {
        width-least = width-least s (plan_at st i).voice (omega arith);
        width-most = width-most s (plan_at st i).voice hs;
        from_most = omega arith;
        to_most = omega arith;
        rows_most = omega arith;
      }

  module _ (s : Spot) (e : s ≡ spot_of st d) where
    pub audio-is : s.audio ≡ is_audio_plan st d
    unfolding spot_of
    audio-is = ap (λ (x : Spot). x.audio) e

    pub control-is : s.control ≡ is_control_plan st d
    unfolding spot_of
    control-is = ap (λ (x : Spot). x.control) e

    pub width_is : s.width ≡ width_of st d
    unfolding spot_of
    width_is = ap (λ (x : Spot). x.width) e

    pub bounds : Bounded s
    bounds = rw e bounds_of

    pub rows-start-is : s.rows ≡ audio_start st d 0
    unfolding spot_of
    rows-start-is = rw e (omega arith)

    pub from-start-is : s.from ≡ from_place st d 0
    unfolding spot_of
    from-start-is = rw e (omega arith)

    pub to-start-is : s.to ≡ to_place st d 0
    unfolding spot_of
    to-start-is = rw e (omega arith)

    pub audio-number-is : (m : List Float) (k v : ℕ) → get_or m (s.rows + k * s.width + cond s.voice v 0) nan ≡ audio_number st m d k v
    unfolding spot_of
    audio-number-is m k v = rw e

    pub to-number-is : (m : List Float) (k v : ℕ) → get_or m (s.to + k * s.width + cond s.voice v 0) nan ≡ to_number st m d k v
    unfolding spot_of
    to-number-is m k v = rw e (ap (λ (n : ℕ). get_or m n nan) (omega arith))

    pub from-number-is : (m : List Float) (k v : ℕ)
        → get_or m (s.from + k * s.width + cond s.voice v 0) nan ≡ at m (from_place st d k + lane_of st d v)
    unfolding spot_of
    from-number-is m k v = rw e (ap (λ (n : ℕ). get_or m n nan) (omega arith))
