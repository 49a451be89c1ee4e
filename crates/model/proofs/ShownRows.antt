-- What stands at a chunk's "to" row of a control plan after the step of that chunk, and that no later step moves it: the rows that a tick left. Assumes nothing.
use mathlib.Core.Path.{◌≡◌, refl, sym, ap, ◌∙◌}
use mathlib.Core.Bool.{Bool, true, false, cond, true≢false}
use mathlib.Core.Logic.{◌≢◌, inl, inr, ⊎_elim}
use mathlib.Core.List.{List}
use Prim.Native.Nat.{ℕ, zero, suc, ◌+◌, ◌-◌, ◌≤◌, ◌<◌}
use native.Mathlib.Nat.{eq-or-lt_of_le, le_of_suc-le-suc}
use native.Mathlib.Omega.{arith}
use lib.ListN.{length}
use lib.Ieee.{Float}
use Rattle.state.specs.declared.Chunk.{Chunk}
use Rattle.state.specs.declared.Signals.{Signals}
use Rattle.state.specs.declared.State.{State}
use Rattle.model.specs.Counts.{voice_count, frame_count, stride_of, chunks_most, plan_total, control_total, route_total, plan_at, at}
use Rattle.model.specs.Env.{Env, Own}
use Rattle.model.specs.Layout.{Sizes, plan_width, plan_from, plan_to, chunk_from, chunk_to, PlanPart, from, to, from_at, to_at, of_plan, ValidOfPlan, row_width, start}
use Rattle.model.specs.Mix.{plan_mix}
use Rattle.model.specs.Tick.{fill_from, lanes_from, from_start, own_start, rows_of, own_of, slew_after, new_to, new_from, put_slews, turn, turns, tick_of}
use Rattle.model.specs.Audio.{Sounds, audio_frame, audio_frames, audio_plans, audio_of}
use Rattle.model.specs.World.{World}
use Rattle.model.specs.States.{with_primed, put_state, put_held, put_values, put_audio}
use Rattle.model.specs.Process.{values_of, glided, env_of, snap_at, primed_with, rows_of_chunk, rowed, after_tick, chunk_step}
use Rattle.model.proofs.Conds.{cond_of}
use Rattle.model.proofs.LayoutHolds.{parts-inside, parts-apart, plan-ends}
use Rattle.model.proofs.ProgramLayout.{stride-least}
use Rattle.model.proofs.Frames.{tick-length}
use Rattle.model.proofs.FillFrom.{fill-length, fill-inside, fill-outside}

-- the sizes of the installed program
abbrev pub sizes_at : State → Sizes
sizes_at st =
    record {
      stride = stride_of st;
      chunks = chunks_most st;
      frames = frame_count st;
      plans = plan_total st.program;
      routes = route_total st.program;
      voice = λ i. (plan_at st i).voice;
    }

-- lane l of the "to" row of chunk n, and of the last tick, of plan i
abbrev pub shown_in : Sizes → ℕ → ℕ → ℕ → ℕ
shown_in z i n l = chunk_to z.stride z.chunks i (row_width z i) n + l

abbrev pub last_in : Sizes → ℕ → ℕ → ℕ
last_in z i l = plan_to z.stride z.chunks i + l

module _ (st : State) (i : ℕ) (q : PlanPart) (l : ℕ) (there : i < plan_total st.program) (valid : ValidOfPlan (chunks_most st) q) (lane : l < row_width (sizes_at st) i) where
  -- lane l of part q of plan i
  abbrev spot : ℕ
  spot = start (sizes_at st) (of_plan i q) + l

  -- another part of a plan is filled
  fill-keeps : (d : ℕ) (r : PlanPart) (m : List Float) (g : ℕ → Float) → d < plan_total st.program → ValidOfPlan (chunks_most st) r → of_plan d r ≢ of_plan i q
      → at (fill_from m (start (sizes_at st) (of_plan d r)) g (row_width (sizes_at st) d)) spot ≡ at m spot
  fill-keeps d r m g h v n =
      fill-outside m (start (sizes_at st) (of_plan d r)) g (row_width (sizes_at st) d) spot
      (⊎_elim (λ a. inr (omega arith)) (λ a. inl (omega arith)) (parts-apart (sizes_at st) (stride-least (voice_count st)) (of_plan d r) (of_plan i q) (h, v) (there, valid) n))

  -- slews are put, which stand behind the plans
  slews-keep : (d : ℕ) (g : Own) (k : ℕ) (m : List Float) → at (put_slews st d g k m) spot ≡ at m spot
  unfolding put_slews
  slews-keep d g zero m = refl
  slews-keep d g (suc k) m =
      let e = plan-ends (sizes_at st) (stride-least (voice_count st)) i q (there, valid) in
      let r = (plan_at st d).first + k in
      let half = fill_from (put_slews st d g k m) (own_start st r 0) (g k 0) (stride_of st) in
      fill-outside half (own_start st r 1) (g k 1) (stride_of st) spot (inl (omega arith))
      ∙ fill-outside (put_slews st d g k m) (own_start st r 0) (g k 0) (stride_of st) spot (inl (omega arith))
      ∙ slews-keep d g k m

  frame-keep : (t : Env) (d : ℕ) (m : Sounds) → at (audio_frame st t d m).values spot ≡ at m.values spot
  unfolding audio_frame
  frame-keep t d m = slews-keep d (slew_after t (plan_mix st d) (rows_of st m.values) (own_of st m.values d)) (plan_at st d).count m.values

  frames-keep : (t : Env) (c : Chunk) (d n : ℕ) (m : Sounds) → at (audio_frames st t c d n m).values spot ≡ at m.values spot
  unfolding audio_frames
  frames-keep t c d zero m = refl
  frames-keep t c d (suc n) m = frame-keep _ d (audio_frames st t c d n m) ∙ frames-keep t c d n m

  plans-keep : (t : Env) (c : Chunk) (k : ℕ) (m : Sounds) → at (audio_plans st t c k m).values spot ≡ at m.values spot
  unfolding audio_plans
  plans-keep t c zero m = refl
  plans-keep t c (suc k) m = frames-keep t c (control_total st.program + k) c.len (audio_plans st t c k m) ∙ plans-keep t c k m

  -- the audio rows of a chunk leave it
  sounds-keep : (t : Env) (c : Chunk) (m : Sounds) → at (audio_of st t c m).values spot ≡ at m.values spot
  unfolding audio_of
  sounds-keep t c m = plans-keep t c (plan_total st.program - control_total st.program) m

  -- the rows of chunk j leave it where it is none of them
  rows-keep : (j : ℕ) → j < chunks_most st → ((d : ℕ) → of_plan d (from_at j) ≢ of_plan i q) → ((d : ℕ) → of_plan d (to_at j) ≢ of_plan i q)
      → (k : ℕ) → k ≤ plan_total st.program → (m : List Float) → at (rows_of_chunk st j k m) spot ≡ at m spot
  unfolding rows_of_chunk
  rows-keep j b f g zero h m = refl
  rows-keep j b f g (suc k) h m =
      fill-keeps k (to_at j) _ _ (omega arith) b (g k)
      ∙ fill-keeps k (from_at j) (rows_of_chunk st j k m) _ (omega arith) b (f k)
      ∙ rows-keep j b f g k (omega arith) m

  fill-wide : (d : ℕ) (r : PlanPart) (m : List Float) (g : ℕ → Float) (w : ℕ) → w ≡ row_width (sizes_at st) d → d < plan_total st.program → ValidOfPlan (chunks_most st) r → of_plan d r ≢ of_plan i q
      → at (fill_from m (start (sizes_at st) (of_plan d r)) g w) spot ≡ at m spot
  fill-wide d r m g w e h v n = ap (λ (x : ℕ). at (fill_from m (start (sizes_at st) (of_plan d r)) g x) spot) e ∙ fill-keeps d r m g h v n

  -- a turn leaves it where it is no number and no start of the last tick
  turn-keep : (t : Env) → t.stride ≡ stride_of st → ((d : ℕ) → of_plan d from ≢ of_plan i q) → ((d : ℕ) → of_plan d to ≢ of_plan i q)
      → (phase k : ℕ) → k < plan_total st.program → (m : List Float) → at (turn st t phase k m) spot ≡ at m spot
  unfolding turn
  turn-keep t same f g phase k h m =
      let w : plan_width t.stride (plan_at st k).voice ≡ row_width (sizes_at st) k = ap (λ (s : ℕ). plan_width s (plan_at st k).voice) same in
      let x = plan_mix st k in
      let a = rows_of st m in
      let s = own_of st m k in
      let old = lanes_from m (from_start st k) in
      slews-keep k (slew_after t x a s) (plan_at st k).count _
      ∙ fill-wide k to _ (new_to t phase x a s (a k)) _ w h tt (g k)
      ∙ fill-wide k from m (new_from t phase x a s (a k) old) _ w h tt (f k)

  -- the turns of a tick leave it there
  turns-keep : (t : Env) → t.stride ≡ stride_of st → ((d : ℕ) → of_plan d from ≢ of_plan i q) → ((d : ℕ) → of_plan d to ≢ of_plan i q)
      → (phase k : ℕ) → k ≤ plan_total st.program → (m : List Float) → at (turns st t phase k m) spot ≡ at m spot
  unfolding turns
  turns-keep t same f g phase zero h m = refl
  turns-keep t same f g phase (suc k) h m =
      turn-keep t same f g phase k (omega arith) (turns st t phase k m) ∙ turns-keep t same f g phase k (omega arith) m

control-most : (st : State) → control_total st.program ≤ plan_total st.program
control-most st = omega arith

-- ---- parts that differ

from-differs : (d i j n : ℕ) → of_plan d (from_at j) ≢ of_plan i (to_at n)
from-differs d i j n e = true≢false (cc (e))

start-differs : (d i n : ℕ) → of_plan d from ≢ of_plan i (to_at n)
start-differs d i n e = true≢false (cc (e))

number-differs : (d i n : ℕ) → of_plan d to ≢ of_plan i (to_at n)
number-differs d i n e = true≢false (cc (e))

chunk-differs : (d i j n : ℕ) → j ≢ n → of_plan d (to_at j) ≢ of_plan i (to_at n)
chunk-differs d i j n ne e = ne (cc (e))

plan-differs : (d i n : ℕ) → d ≢ i → of_plan d (to_at n) ≢ of_plan i (to_at n)
plan-differs d i n ne e = ne (cc (e))

from-to : (d i j : ℕ) → of_plan d (from_at j) ≢ of_plan i to
from-to d i j e = true≢false (cc (e))

to-to : (d i j : ℕ) → of_plan d (to_at j) ≢ of_plan i to
to-to d i j e = true≢false (cc (e))

-- ---- the rows of a chunk show what stands in the rows of the last tick

module _ (st : State) (i n l : ℕ) (there : i < plan_total st.program) (valid : n < chunks_most st) (lane : l < row_width (sizes_at st) i) where
  abbrev shown : ℕ
  shown = shown_in (sizes_at st) i n l

  abbrev last : ℕ
  last = last_in (sizes_at st) i l

  rows-length : (j k : ℕ) (m : List Float) → length (rows_of_chunk st j k m) ≡ length m
  unfolding rows_of_chunk
  rows-length j zero m = refl
  rows-length j (suc k) m = simp (fill-length, rows-length j k m)

  row-shows : (m : List Float) → values_of st ≤ length m → (k : ℕ) → k ≡ i → at (rows_of_chunk st n (suc k) m) shown ≡ at m last
  unfolding rows_of_chunk
  row-shows m room k e =
      let inside = parts-inside (sizes_at st) (stride-least (voice_count st)) (of_plan i (to_at n)) (there, valid) in
      let m0 = rows_of_chunk st n i m in
      let m1 = fill_from m0 (chunk_from (stride_of st) (chunks_most st) i (row_width (sizes_at st) i) n) (lanes_from m0 (plan_from (stride_of st) (chunks_most st) i)) (row_width (sizes_at st) i) in
      let long : length m1 ≡ length m =
      fill-length m0 (chunk_from (stride_of st) (chunks_most st) i (row_width (sizes_at st) i) n) (lanes_from m0 (plan_from (stride_of st) (chunks_most st) i)) (row_width (sizes_at st) i) ∙ rows-length n i m in
      rw e
      (fill-inside m1 (chunk_to (stride_of st) (chunks_most st) i (row_width (sizes_at st) i) n) (lanes_from m1 (plan_to (stride_of st) (chunks_most st) i)) (row_width (sizes_at st) i) l lane (omega arith)
      ∙ fill-keeps st i to l there tt lane i (from_at n) m0 _ there valid (from-to i i n)
      ∙ rows-keep st i to l there tt lane n valid (λ d. from-to d i n) (λ d. to-to d i n) i (omega arith) m)

  -- the other plans' rows come after it
  rows-show : (m : List Float) → values_of st ≤ length m → (k : ℕ) → i < k → k ≤ plan_total st.program → at (rows_of_chunk st n k m) shown ≡ at m last
  unfolding rows_of_chunk
  rows-show m room zero h b = absurd (omega arith)
  rows-show m room (suc k) h b = ⊎_elim (λ (e : i ≡ k). row-shows m room k (sym e)) (λ (e : i < k). later e (rows-show m room k e (omega arith))) (eq-or-lt_of_le (le_of_suc-le-suc h))
    where
      later : i < k → at (rows_of_chunk st n k m) shown ≡ at m last → at (rows_of_chunk st n (suc k) m) shown ≡ at m last
      later e x =
          let away : k ≢ i = λ x. omega arith in
          fill-keeps st i (to_at n) l there valid lane k (to_at n) _ _ (omega arith) valid (plan-differs k i n away)
          ∙ fill-keeps st i (to_at n) l there valid lane k (from_at n) (rows_of_chunk st n k m) _ (omega arith) valid (from-differs k i n n)
          ∙ x

-- ---- a step

module _ (samples : List Float) (signals : Signals) (i n l : ℕ) where
  -- after the tick, of another chunk
  after-keeps : (u : World) (j : ℕ) (c : Chunk) (snap : Bool) → i < plan_total u.state.program → n < chunks_most u.state → l < row_width (sizes_at u.state) i
      → j < chunks_most u.state → j ≢ n → at (after_tick samples signals j c snap u).values (shown_in (sizes_at u.state) i n l) ≡ at u.values (shown_in (sizes_at u.state) i n l)
  unfolding glided put_held put_state put_values put_audio
  after-keeps u j c snap there valid lane b ne =
      sounds-keep u.state i (to_at n) l there valid lane (env_of (rowed j u) samples signals c snap) c (record { values = (rowed j u).values; audio = u.audio })
      ∙ rows-keep u.state i (to_at n) l there valid lane j b (λ d. from-differs d i j n) (λ d. chunk-differs d i j n ne) (control_total u.state.program) (control-most u.state) u.values

  -- and of this one
  after-shows : (u : World) (c : Chunk) (snap : Bool) → i < control_total u.state.program → n < chunks_most u.state → l < row_width (sizes_at u.state) i
      → values_of u.state ≤ length u.values
      → at (after_tick samples signals n c snap u).values (shown_in (sizes_at u.state) i n l) ≡ at u.values (last_in (sizes_at u.state) i l)
  unfolding glided put_held put_state put_values put_audio
  after-shows u c snap h valid lane room =
      let there : i < plan_total u.state.program = omega (arith, control-most u.state) in
      sounds-keep u.state i (to_at n) l there valid lane (env_of (rowed n u) samples signals c snap) c (record { values = (rowed n u).values; audio = u.audio })
      ∙ rows-show u.state i n l there valid lane u.values room (control_total u.state.program) h (control-most u.state)

  -- THE STEP OF ANOTHER CHUNK LEAVES THE ROW
  pub step-keeps : (u : World) (j : ℕ) (c : Chunk) → i < plan_total u.state.program → n < chunks_most u.state → l < row_width (sizes_at u.state) i
      → j < chunks_most u.state → j ≢ n → at (chunk_step samples signals j c u).values (shown_in (sizes_at u.state) i n l) ≡ at u.values (shown_in (sizes_at u.state) i n l)
  unfolding chunk_step tick_of plan_at with_primed put_state put_values
  step-keeps u j c there valid lane b ne =
      let t = env_of u samples signals c (snap_at j u) in
      let m = tick_of u.state t c.phase u.values in
      cond_of (λ (y : World). at (after_tick samples signals j c (snap_at j u) y).values (shown_in (sizes_at u.state) i n l) ≡ at u.values (shown_in (sizes_at u.state) i n l))
      c.tick (primed_with u m) u
      (after-keeps (primed_with u m) j c (snap_at j u) there valid lane b ne
      ∙ turns-keep u.state i (to_at n) l there valid lane t refl (λ d. start-differs d i n) (λ d. number-differs d i n) c.phase (control_total u.state.program) (control-most u.state) u.values)
      (after-keeps u j c (snap_at j u) there valid lane b ne)

  -- THE STEP OF THIS ONE SHOWS WHAT ITS TICK LEAVES, or, where it does not tick, what the last one left
  pub step-shows : (u : World) (c : Chunk) → i < control_total u.state.program → n < chunks_most u.state → l < row_width (sizes_at u.state) i
      → values_of u.state ≤ length u.values
      → at (chunk_step samples signals n c u).values (shown_in (sizes_at u.state) i n l)
      ≡ at (cond c.tick (tick_of u.state (env_of u samples signals c (snap_at n u)) c.phase u.values) u.values) (last_in (sizes_at u.state) i l)
  unfolding chunk_step plan_at with_primed put_state put_values
  step-shows u c h valid lane room = by c.tick
    where
      m : List Float
      m = tick_of u.state (env_of u samples signals c (snap_at n u)) c.phase u.values

      by : (t : Bool) → at (after_tick samples signals n c (snap_at n u) (cond t (primed_with u m) u)).values (shown_in (sizes_at u.state) i n l)
          ≡ at (cond t m u.values) (last_in (sizes_at u.state) i l)
      by true =
          after-shows (primed_with u m) c (snap_at n u) h valid lane (omega (arith, tick-length u.state (env_of u samples signals c (snap_at n u)) c.phase u.values))
      by false = after-shows u c (snap_at n u) h valid lane room
