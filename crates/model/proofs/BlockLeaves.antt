-- WHAT A BLOCK LEAVES ALONE in values and audio rows: every number that is in no row of a control plan, of a route, or of an audio plan at a frame of the range. So
-- frames outside the range, the rows of other plans and the spare numbers stay. Assumes nothing.
use mathlib.Core.Path.{◌≡◌, refl, ap, ◌∙◌}
use mathlib.Core.Bool.{Bool, true, false, cond}
use mathlib.Core.Logic.{◌≢◌, ◌⊎◌, ⊎_elim}
use mathlib.Core.List.{List}
use Prim.Native.Nat.{ℕ, zero, suc, ◌+◌, ◌-◌, ◌≤◌, ◌<◌}
use native.Mathlib.Omega.{arith}
use lib.ListN.{length, get_or, set}
use lib.Seq.{get_or-set_other}
use lib.Ieee.{Float, nan}
use Rattle.std.specs.Prelude.{Option, Some, None}
use Rattle.config.specs.Sizes.{slots}
use Rattle.draw.specs.Xorshift.{step, draw_of}
use Rattle.state.specs.declared.Input.{Input}
use Rattle.state.specs.declared.Chunk.{Chunk}
use Rattle.state.specs.declared.Read.{Read}
use Rattle.state.specs.declared.Read.TheVariants as D
use Rattle.state.specs.declared.State.{State}
use Rattle.state.specs.declared.Wiring.{Wiring}
use Rattle.model.specs.Plans.{compiled}
use Rattle.model.specs.Counts.{voice_count, stride_of, chunks_most, plan_total, control_total, route_total, plan_at, route_at, at}
use Rattle.model.specs.Env.{Env, Own}
use Rattle.model.specs.Layout.{Sizes, plan_width, PlanPart, from, to, from_at, to_at, RoutePart, slew, random, of_plan, of_route, of_frame, ValidOfPlan, ValidOfRoute, row_width, start}
use Rattle.model.specs.Mix.{plan_mix}
use Rattle.model.specs.Tick.{fill_from, lanes_from, from_start, own_start, rows_of, own_of, slew_after, new_to, new_from, put_slews, turn, turns, tick_of}
use Rattle.model.specs.Audio.{Sounds, audio_frame, audio_frames, audio_plans, audio_of}
use Rattle.model.specs.Process.{Drawn, draw_voices, random_start, draw_read, draw_aux, draw_routes, rows_of_chunk}
use Rattle.model.proofs.Compiled.{routes-inside}
use Rattle.model.proofs.FillFrom.{fill-outside}
use Rattle.model.proofs.ShownRows.{sizes_at}

-- k is none of the n places from a on
abbrev pub Clear : ℕ → ℕ → ℕ → Type 0
Clear a n k = (k < a) ⊎ (a + n ≤ k)

-- k is in no row that a block may write in the values: of the first `control` plans, and of the routes
pub record OffValues (z : Sizes) (control k : ℕ) : Type 0 where
  pub plans : (d : ℕ) (q : PlanPart) → d < control → ValidOfPlan z.chunks q → Clear (start z (of_plan d q)) (row_width z d) k
  pub routes : (r : ℕ) (q : RoutePart) → r < z.routes → ValidOfRoute q → Clear (start z (of_route r q)) z.stride k

-- and in the audio rows, of the plans behind them, over the frames from s up to e
abbrev pub OffAudio : Sizes → ℕ → ℕ → ℕ → ℕ → Type 0
OffAudio z control s e k = (d f : ℕ) → control ≤ d → d < z.plans → s ≤ f → f < e → Clear (start z (of_frame d f)) (row_width z d) k

module _ (w : Wiring) (slotted : length w.matrix.slot ≡ slots) (st : State) (is : st.program ≡ compiled w) where
  module _ (k : ℕ) (off : OffValues (sizes_at st) (control_total st.program) k) where
    -- ---- slews and rows

    slews-off : (d : ℕ) → d < plan_total st.program → (g : Own) (n : ℕ) → n ≤ (plan_at st d).count → (m : List Float) → at (put_slews st d g n m) k ≡ at m k
    unfolding put_slews
    slews-off d h g zero b m = refl
    slews-off d h g (suc n) b m =
        let r = (plan_at st d).first + n in
        let there : r < route_total st.program = omega (arith, routes-inside w slotted st is d h) in
        fill-outside (fill_from (put_slews st d g n m) (own_start st r 0) (g n 0) (stride_of st)) (own_start st r 1) (g n 1) (stride_of st) k (off.routes r (slew 1) there (omega arith))
        ∙ fill-outside (put_slews st d g n m) (own_start st r 0) (g n 0) (stride_of st) k (off.routes r (slew 0) there (omega arith))
        ∙ slews-off d h g n (omega arith) m

    frame-off : (t : Env) (d : ℕ) → d < plan_total st.program → (m : Sounds) → at (audio_frame st t d m).values k ≡ at m.values k
    unfolding audio_frame
    frame-off t d h m = slews-off d h (slew_after t (plan_mix st d) (rows_of st m.values) (own_of st m.values d)) (plan_at st d).count (omega arith) m.values

    frames-off : (t : Env) (c : Chunk) (d n : ℕ) → d < plan_total st.program → (m : Sounds) → at (audio_frames st t c d n m).values k ≡ at m.values k
    unfolding audio_frames
    frames-off t c d zero h m = refl
    frames-off t c d (suc n) h m = frame-off _ d h (audio_frames st t c d n m) ∙ frames-off t c d n h m

    plans-off : (t : Env) (c : Chunk) (n : ℕ) → control_total st.program + n ≤ plan_total st.program → (m : Sounds) → at (audio_plans st t c n m).values k ≡ at m.values k
    unfolding audio_plans
    plans-off t c zero h m = refl
    plans-off t c (suc n) h m = frames-off t c (control_total st.program + n) c.len (omega arith) (audio_plans st t c n m) ∙ plans-off t c n (omega arith) m

    pub sounds-off : (t : Env) (c : Chunk) (m : Sounds) → at (audio_of st t c m).values k ≡ at m.values k
    unfolding audio_of
    sounds-off t c m = plans-off t c (plan_total st.program - control_total st.program) (omega arith) m

    rows-off : (j n : ℕ) → j < chunks_most st → n ≤ control_total st.program → (m : List Float) → at (rows_of_chunk st j n m) k ≡ at m k
    unfolding rows_of_chunk
    rows-off j zero b h m = refl
    rows-off j (suc n) b h m =
        fill-outside _ (start (sizes_at st) (of_plan n (to_at j))) _ (row_width (sizes_at st) n) k (off.plans n (to_at j) (omega arith) b)
        ∙ fill-outside (rows_of_chunk st j n m) (start (sizes_at st) (of_plan n (from_at j))) _ (row_width (sizes_at st) n) k (off.plans n (from_at j) (omega arith) b)
        ∙ rows-off j n b (omega arith) m

    fill-wide : (n : ℕ) (q : PlanPart) (m : List Float) (g : ℕ → Float) (x : ℕ) → x ≡ row_width (sizes_at st) n → n < control_total st.program → ValidOfPlan (chunks_most st) q
        → at (fill_from m (start (sizes_at st) (of_plan n q)) g x) k ≡ at m k
    fill-wide n q m g x e h v =
        ap (λ (y : ℕ). at (fill_from m (start (sizes_at st) (of_plan n q)) g y) k) e ∙ fill-outside m (start (sizes_at st) (of_plan n q)) g (row_width (sizes_at st) n) k (off.plans n q h v)

    turn-off : (t : Env) → t.stride ≡ stride_of st → (phase n : ℕ) → n < control_total st.program → (m : List Float) → at (turn st t phase n m) k ≡ at m k
    unfolding turn
    turn-off t same phase n h m =
        let x : plan_width t.stride (plan_at st n).voice ≡ row_width (sizes_at st) n = ap (λ (s : ℕ). plan_width s (plan_at st n).voice) same in
        let y = plan_mix st n in
        let a = rows_of st m in
        let s = own_of st m n in
        let old = lanes_from m (from_start st n) in
        slews-off n (omega arith) (slew_after t y a s) (plan_at st n).count (omega arith) _
        ∙ fill-wide n to _ (new_to t phase y a s (a n)) _ x h tt
        ∙ fill-wide n from m (new_from t phase y a s (a n) old) _ x h tt

    turns-off : (t : Env) → t.stride ≡ stride_of st → (phase n : ℕ) → n ≤ control_total st.program → (m : List Float) → at (turns st t phase n m) k ≡ at m k
    unfolding turns
    turns-off t same phase zero h m = refl
    turns-off t same phase (suc n) h m =
        turn-off t same phase n (omega arith) (turns st t phase n m) ∙ turns-off t same phase n (omega arith) m

    pub tick-off : (t : Env) → t.stride ≡ stride_of st → (phase : ℕ) (m : List Float) → at (tick_of st t phase m) k ≡ at m k
    unfolding tick_of
    tick-off t same phase m = turns-off t same phase (control_total st.program) (omega arith) m

    pub chunk-rows-off : (j : ℕ) → j < chunks_most st → (m : List Float) → at (rows_of_chunk st j (control_total st.program) m) k ≡ at m k
    chunk-rows-off j b m = rows-off j (control_total st.program) b (omega arith) m

    -- ---- draws

    drawn-by : (b : Bool) (x y : Drawn) (m : Float) → at x.values k ≡ m → at y.values k ≡ m → at (cond b x y).values k ≡ m
    drawn-by true x y m e f = e
    drawn-by false x y m e f = f

    voices-off : (r p : ℕ) → r < route_total st.program → p < 2 → (n : ℕ) → n ≤ voice_count st → (d : Drawn) → at (draw_voices st (random_start st r p) n d).values k ≡ at d.values k
    unfolding draw_voices
    voices-off r p h b zero i d = refl
    voices-off r p h b (suc n) i d =
        let a = random_start st r p in
        let x = draw_voices st a n d in
        let before = voices-off r p h b n (omega arith) d in
        let away : k ≢ a + n = λ e. ⊎_elim (λ l. omega arith) (λ g. omega arith) (off.routes r (random p) h b) in
        drawn-by (get_or st.marks.renoted n false) (record { draw = step x.draw; values = set x.values (a + n) (draw_of (step x.draw)) }) x (at d.values k)
        (get_or-set_other x.values (a + n) k (draw_of (step x.draw)) nan away ∙ before)
        before

    read-off : (r p : ℕ) → r < route_total st.program → p < 2 → (x : Read) (d : Drawn) → at (draw_read st r p x d).values k ≡ at d.values k
    read-off r p h b (D.Signal i v) d = refl
    read-off r p h b (D.Held i v) d = refl
    read-off r p h b (D.Fed e v) d = refl
    read-off r p h b D.Constant d = refl
    read-off r p h b D.RouteRandom d = voices-off r p h b (voice_count st) (omega arith) d

    aux-off : (r : ℕ) → r < route_total st.program → (x : Option Input) (d : Drawn) → at (draw_aux st r x d).values k ≡ at d.values k
    aux-off r h None d = refl
    aux-off r h (Some i) d = read-off r 1 h (omega arith) i.read d

    pub draws-off : (n : ℕ) → n ≤ route_total st.program → (d : Drawn) → at (draw_routes st n d).values k ≡ at d.values k
    unfolding draw_routes
    draws-off zero h d = refl
    draws-off (suc n) h d =
        aux-off n (omega arith) (route_at st n).aux (draw_read st n 0 (route_at st n).source.read (draw_routes st n d))
        ∙ read-off n 0 (omega arith) (omega arith) (route_at st n).source.read (draw_routes st n d)
        ∙ draws-off n (omega arith) d

  -- ---- audio rows

  module _ (k s e : ℕ) (off : OffAudio (sizes_at st) (control_total st.program) s e k) (t : Env) (same : t.stride ≡ stride_of st) (c : Chunk) (first : s ≤ c.start)
      (last : (n : ℕ) → n < c.len → c.start + n < e) where
    row-wide : (d f : ℕ) (m : List Float) (g : ℕ → Float) (x : ℕ) → x ≡ row_width (sizes_at st) d → control_total st.program ≤ d → d < plan_total st.program → s ≤ f → f < e
        → at (fill_from m (start (sizes_at st) (of_frame d f)) g x) k ≡ at m k
    row-wide d f m g x q a b h i =
        ap (λ (y : ℕ). at (fill_from m (start (sizes_at st) (of_frame d f)) g y) k) q ∙ fill-outside m (start (sizes_at st) (of_frame d f)) g (row_width (sizes_at st) d) k (off d f a b h i)

    frames-stay : (d n : ℕ) → control_total st.program ≤ d → d < plan_total st.program → n ≤ c.len → (m : Sounds) → at (audio_frames st t c d n m).audio k ≡ at m.audio k
    unfolding audio_frames audio_frame
    frames-stay d zero a b h m = refl
    frames-stay d (suc n) a b h m =
        let x : plan_width t.stride (plan_at st d).voice ≡ row_width (sizes_at st) d = ap (λ (i : ℕ). plan_width i (plan_at st d).voice) same in
        row-wide d (c.start + n) (audio_frames st t c d n m).audio _ (plan_width t.stride (plan_at st d).voice) x a b (omega arith) (last n (omega arith))
        ∙ frames-stay d n a b (omega arith) m

    plans-stay : (n : ℕ) → control_total st.program + n ≤ plan_total st.program → (m : Sounds) → at (audio_plans st t c n m).audio k ≡ at m.audio k
    unfolding audio_plans
    plans-stay zero h m = refl
    plans-stay (suc n) h m =
        frames-stay (control_total st.program + n) c.len (omega arith) (omega arith) (omega arith) (audio_plans st t c n m) ∙ plans-stay n (omega arith) m

    pub sounds-stay : (m : Sounds) → at (audio_of st t c m).audio k ≡ at m.audio k
    unfolding audio_of
    sounds-stay m = plans-stay (plan_total st.program - control_total st.program) (omega arith) m
