-- WHAT A BLOCK SHOWS: after it, at each of its chunks that ticks, of each control destination in use and in each lane, `to_part` hands back the number that the tick left.
-- Assumes nothing.
use mathlib.Core.Path.{◌≡◌, refl, sym, ap, ap₂, subst, ◌∙◌}
use mathlib.Core.Bool.{Bool, true, false, not, cond, ◌&&◌, ◌||◌}
use mathlib.Core.Logic.{◌≢◌, ⊎_elim}
use mathlib.Core.List.{List, [], ◌∷◌}
use Prim.Native.Nat.{ℕ, zero, suc, ◌+◌, ◌*◌, ◌-◌, ◌/◌, ◌%◌, ◌≤◌, ◌<◌, min}
use native.Mathlib.Nat.{eq-or-lt_of_le, le_of_suc-le-suc}
use native.Mathlib.Omega.{arith}
use lib.Dec.{eqb, ltb}
use lib.ListN.{length, get_or}
use lib.Ieee.{Float, nan}
use borrow.Author.Tests.{eq-eqb, eqb-true, lt-ltb, le-ltb, ltb-false}
use Rattle.std.specs.Prelude.{Some, None}
use Rattle.list.specs.Part.{part}
use Rattle.list.proofs.Parts.{part_at}
use Rattle.list.proofs.Rows.{row_inside}
use Rattle.feed.proofs.Tests.{and-true-l}
use Rattle.config.specs.Sizes.{slots, period, most_chunks, lane_stride, most_voices, most_frames}
use Rattle.config.specs.declared.Config.{Config}
use Rattle.refusal.specs.Judge.{◌when◌, judged}
use Rattle.feed.specs.Numbers.{In, index_of}
use Rattle.feed.proofs.Keep.{keep-from}
use Rattle.state.specs.declared.Block.{Block}
use Rattle.state.specs.Output as O
use Rattle.state.specs.declared.Wiring.{Wiring}
use Rattle.state.specs.declared.Program.{Program}
use Rattle.state.specs.declared.Signals.{Signals}
use Rattle.state_filled.specs.Filled.{no_plan}
use Rattle.model.specs.Need.{values_need}
use Rattle.model.specs.Feeds.{is_audio, in_use, controls, plan_order}
use Rattle.model.specs.Counts.{frame_count, stride_of, chunks_most, plan_total, control_total, route_total, plan_at, at}
use Rattle.model.specs.Layout.{Sizes, plan_width, row_width}
use Rattle.model.specs.Tick.{tick_of}
use Rattle.model.specs.Chunks.{chunk_total, chunk_of}
use Rattle.model.specs.World.{World}
use Rattle.model.specs.States.{with_block, put_state}
use Rattle.model.specs.Process.{any_stride, any_outside, engine_short, program_short, values_of, env_of, snap_at, chunk_steps, closed, process}
use Rattle.model.specs.Outputs.{chunk_at, plan_place, has_plan, is_audio_plan, is_control_plan, width_of, values_short, values_part_rows, shape_of, to_place, to_part}
use Rattle.model.specs.Rule.{lanes_of}
use Rattle.model.specs.Model.{values_in, walks}
use Rattle.model.specs.Claim.{Moment}
use Rattle.model.specs.Shown.{Shown}
use Rattle.model.proofs.Conds.{cond-true, cond-false}
use Rattle.model.proofs.Compiled.{PlanOf, place_of, plan-of, plan-audio, control-place}
use Rattle.model.proofs.Frames.{Frame, frame_on, steps-frame, closed-frame}
use Rattle.model.proofs.ModelRuns.{Good, good-frame, not-true}
use Rattle.model.proofs.ShownRows.{sizes_at, shown_in, last_in, step-keeps, step-shows}

-- ---- sizes stay

sizes_for : Config → Program → Sizes
sizes_for c p =
    record {
      stride = lane_stride (min c.voices most_voices);
      chunks = most_chunks (min c.max_frames most_frames);
      frames = min c.max_frames most_frames;
      plans = plan_total p;
      routes = route_total p;
      voice = λ i. (get_or p.plan i no_plan).voice;
    }

pub sizes-same : (u v : World) → v.state.config ≡ u.state.config → v.state.program ≡ u.state.program → sizes_at v.state ≡ sizes_at u.state
unfolding sizes_for plan_at
sizes-same u v c p = ap₂ sizes_for c p

pub sizes-frame : {u v : World} → Frame u v → sizes_at v.state ≡ sizes_at u.state
sizes-frame {u} {v} f = sizes-same u v f.config f.program

room-frame : {u v : World} → Frame u v → values_of u.state ≤ length u.values → values_of v.state ≤ length v.values
room-frame {u} {v} f room =
    let e : values_of v.state ≡ values_of u.state = ap₂ needs f.config f.program in
    omega (arith, e, f.long)
  where
    needs : Config → Program → ℕ
    needs c p = values_need (min c.voices most_voices) (min c.max_frames most_frames) (plan_total p) (route_total p)

-- ---- a block has no more chunks than there is room for

pub chunk-most : (b : Block) (n : ℕ) → b.end ≤ n → chunk_total b ≤ most_chunks n
unfolding chunk_total
chunk-most b n h = by (ltb b.start b.end)
  where
    by : (t : Bool) → cond t ((b.phase % period + (b.end - b.start) + (period - 1)) / period) 0 ≤ most_chunks n
    by true = omega arith
    by false = omega arith

-- ---- the steps of a block

-- the values after the tick of chunk n, or as they are where it does not tick
abbrev pub left_at : List Float → Signals → Block → World → ℕ → List Float
left_at samples signals b u n =
    let y = chunk_steps samples signals b n u in
    cond (chunk_of b n).tick (tick_of y.state (env_of y samples signals (chunk_of b n) (snap_at n y)) (chunk_of b n).phase y.values) y.values

module _ (samples : List Float) (signals : Signals) (b : Block) (u : World) (i n l : ℕ) where
  abbrev z : Sizes
  z = sizes_at u.state

  abbrev up_to : ℕ → World
  up_to k = chunk_steps samples signals b k u

  abbrev Keeps : ℕ → Sizes → Type 0
  Keeps k x = i < x.plans → n < x.chunks → l < row_width x i → k < x.chunks → k ≢ n
      → at (chunk_steps samples signals b (suc k) u).values (shown_in x i n l) ≡ at (up_to k).values (shown_in x i n l)

  steps-keep : (k : ℕ) → Keeps k z
  unfolding chunk_steps
  steps-keep k = subst (Keeps k) (sizes-frame (steps-frame samples signals b k u)) (λ there valid lane a ne. step-keeps samples signals i n l (up_to k) k (chunk_of b k) there valid lane a ne)

  abbrev Shows : Sizes → Type 0
  Shows x = i < control_total (up_to n).state.program → n < x.chunks → l < row_width x i
      → at (chunk_steps samples signals b (suc n) u).values (shown_in x i n l)
      ≡ at (left_at samples signals b u n) (last_in x i l)

  module _ (room : values_of u.state ≤ length u.values) (h : i < control_total u.state.program) (lane : l < row_width z i) where
    -- what stands in lane l of plan i after the tick of chunk n, or before the chunk where it does not tick
    abbrev ticked-to : Float
    ticked-to = at (left_at samples signals b u n) (last_in z i l)

    same-program : (up_to n).state.program ≡ u.state.program
    same-program = (steps-frame samples signals b n u).program

    here : n < z.chunks → at (chunk_steps samples signals b (suc n) u).values (shown_in z i n l) ≡ ticked-to
    unfolding chunk_steps
    here valid =
        let f = steps-frame samples signals b n u in
        subst Shows (sizes-frame f) (λ a v k. step-shows samples signals i n l (up_to n) (chunk_of b n) a v k (long f))
        (subst (λ (p : Program). i < control_total p) (sym same-program) h)
        valid
        lane
      where
        long : Frame u (up_to n) → values_of (up_to n).state ≤ length (up_to n).values
        long f = room-frame f room

    -- AFTER EACH LATER CHUNK
    pub steps-show : (k : ℕ) → n < k → k ≤ z.chunks → at (chunk_steps samples signals b k u).values (shown_in z i n l) ≡ ticked-to
    steps-show zero a c = absurd (omega arith)
    steps-show (suc k) a c =
        ⊎_elim
        (λ (e : n ≡ k). subst (λ (x : ℕ). at (chunk_steps samples signals b (suc x) u).values (shown_in z i n l) ≡ ticked-to) e (here (omega arith)))
        (λ (e : n < k). steps-keep k (omega arith) (omega arith) lane (omega arith) (λ x. omega arith) ∙ steps-show k e (omega arith))
        (eq-or-lt_of_le (le_of_suc-le-suc a))

-- ---- the block

pub first-row : (a b c : Bool) → judged (1 when a ∷ 13 when b ∷ 14 when c ∷ []) ≡ 0 → a ≡ false
unfolding judged
first-row true b c e = absurd (omega (arith, e))
first-row false b c e = refl

no-rows : (a : Bool) → a ≡ false → judged (14 when a ∷ []) ≡ 0
unfolding judged
no-rows a e = rw e

module _ (w : Wiring) (slotted : length w.matrix.slot ≡ slots) (samples : List Float) (signals : Signals) (b : Block) (len : ℕ) (u : World) (good : Good w u)
    (fits : b.end ≤ frame_count u.state) where
  abbrev v : World
  v = closed b len (chunk_steps samples signals b (chunk_total b) u)

  v-frame : Frame u v
  v-frame = frame_on (steps-frame samples signals b (chunk_total b) u) (closed-frame b len (chunk_steps samples signals b (chunk_total b) u))

  v-good : Good w v
  v-good = good-frame v-frame good

  module _ (n : ℕ) (there : n < chunk_total b) where
    abbrev y : World
    y = chunk_steps samples signals b n u

    abbrev x : Moment
    x =
        record {
          wiring = w;
          state = y.state;
          env = env_of y samples signals (chunk_of b n) (snap_at n y);
          phase = (chunk_of b n).phase;
          values = y.values;
        }

    y-frame : Frame u y
    y-frame = steps-frame samples signals b n u

    y-good : Good w y
    y-good = good-frame y-frame good

    chunk-there : chunk_at v.state n ≡ Some (chunk_of b n)
    unfolding chunk_at put_state with_block
    chunk-there = cond-true (ltb n (chunk_total b)) (Some (chunk_of b n)) None (lt-ltb n (chunk_total b) there)

    module _ (d : ℕ) (control : In d (controls w)) where
      used : In d (in_use w)
      unfolding controls
      used = (keep-from (λ e. not (is_audio w e)) d (in_use w) control).0

      not-audio : is_audio w d ≡ false
      unfolding controls
      not-audio = not-true (is_audio w d) (keep-from (λ e. not (is_audio w e)) d (in_use w) control).1

      abbrev i : ℕ
      i = index_of d (plan_order w)

      place-v : plan_place v.state d ≡ i
      place-v = place_of w slotted v.state v-good.program d used

      place-y : plan_place y.state d ≡ i
      place-y = place_of w slotted y.state y-good.program d used

      plan-v : PlanOf w v.state d i
      plan-v = plan-of w slotted v.state v-good.program d used

      lanes-v : width_of v.state d ≡ lanes_of w x.env d
      lanes-v =
          ap (λ (k : ℕ). plan_width (stride_of v.state) (plan_at v.state k).voice) place-v
          ∙ ap₂ (λ (s : ℕ) (b : Bool). plan_width s b) (ap (λ (z : Sizes). z.stride) (sizes-frame v-frame ∙ sym (sizes-frame y-frame))) plan-v.voice

      control-v : (has_plan v.state d ≡ true) × ((plan_at v.state (plan_place v.state d)).audio ≡ false)
      control-v =
          let inside : plan_place v.state d < plan_total v.state.program = omega (arith, place-v, control-place w slotted v.state v-good.program d control) in
          (lt-ltb (plan_place v.state d) (plan_total v.state.program) inside, ap (λ (k : ℕ). (plan_at v.state k).audio) place-v ∙ plan-audio w slotted v.state v-good.program d used ∙ not-audio)

      is-control : is_control_plan v.state d ≡ true
      is-control = ap₂ (λ (p q : Bool). p && not q) control-v.0 control-v.1

      is-no-audio : is_audio_plan v.state d ≡ false
      is-no-audio = ap₂ (λ (p q : Bool). p && q) control-v.0 control-v.1

      shape-is : shape_of v.state d ≡ O.Control (lanes_of w x.env d) (chunk_total b)
      unfolding put_state with_block
      shape-is =
          cond-false (is_audio_plan v.state d) (O.Audio (width_of v.state d)) (cond (is_control_plan v.state d) (O.Control (width_of v.state d) (chunk_total b)) O.Unmodulated) is-no-audio
          ∙ cond-true (is_control_plan v.state d) (O.Control (width_of v.state d) (chunk_total b)) O.Unmodulated is-control
          ∙ ap (λ (k : ℕ). O.Control k (chunk_total b)) lanes-v

      -- the number of a lane, in the rows that are handed back and after the tick
      lane-shown : (l : ℕ) → l < lanes_of w x.env d → at v.values (shown_in (sizes_at v.state) (plan_place v.state d) n l) ≡ (values_in y.state (left_at samples signals b u n)).to d l
      unfolding put_state
      lane-shown l lane =
          let h = control-place w slotted u.state good.program d control in
          let wide : row_width (sizes_at u.state) i ≡ lanes_of w x.env d =
          ap (λ (z : Sizes). row_width z i) (sym (sizes-frame v-frame)) ∙ ap (λ (k : ℕ). row_width (sizes_at v.state) k) (sym place-v) ∙ lanes-v in
          let most : chunk_total b ≤ chunks_most u.state = chunk-most b (frame_count u.state) fits in
          ap₂ (λ (z : Sizes) (k : ℕ). at v.values (shown_in z k n l)) (sizes-frame v-frame) place-v
          ∙ steps-show samples signals b u i n l good.room h (subst (λ (k : ℕ). l < k) (sym wide) lane) (chunk_total b) there most
          ∙ ap₂ (λ (z : Sizes) (k : ℕ). at (left_at samples signals b u n) (last_in z k l)) (sym (sizes-frame y-frame)) (sym place-y)

      -- WHAT `to_part` HANDS BACK AT A CHUNK AND A LANE, whether the chunk ticks or not
      pub part-shown : (l : ℕ) → l < lanes_of w x.env d → at (to_part v.state v.values d).numbers (n * lanes_of w x.env d + l) ≡ (values_in y.state (left_at samples signals b u n)).to d l
      unfolding to_part put_state with_block
      part-shown l lane =
          let m = v.values in
          let a = to_place v.state d 0 in
          let k = width_of v.state d in
          let rows = no-rows (values_short v.state m) (le-ltb (length m) (values_of v.state) v-good.room) in
          let taken = ap₂ (λ (p q : Bool). p && q) (eq-eqb (judged (values_part_rows v.state m)) 0 rows) is-control in
          let narrow : l < k = subst (λ (j : ℕ). l < j) (sym lanes-v) lane in
          let inside : n * k + k ≤ chunk_total b * k = row_inside k there in
          ap (λ (j : ℕ). at (to_part v.state m d).numbers (n * j + l)) (sym lanes-v)
          ∙ ap (λ (p : List Float). at p (n * k + l)) (cond-true (eqb (judged (values_part_rows v.state m)) 0 && is_control_plan v.state d) (part m a (a + chunk_total b * k)) [] taken)
          ∙ part_at m a (a + chunk_total b * k) (n * k + l) nan (omega arith)
          ∙ ap (at m) (let e : a + (n * k + l) ≡ shown_in (sizes_at v.state) (plan_place v.state d) n l = omega arith in e)
          ∙ lane-shown l lane

    -- THE TICK OF CHUNK n IS SHOWN
    pub tick-shown : (chunk_of b n).tick ≡ true → Shown x v
    unfolding to_part put_state with_block
    tick-shown ticks =
        record {
          number = n;
          chunk = chunk_of b n;
          stood = refl;
          there = chunk-there;
          shape = shape-is;
          code = λ d. no-rows (values_short v.state v.values) (le-ltb (length v.values) (values_of v.state) v-good.room);
          numbers = λ d l h k. part-shown d h l k ∙ ap (λ (m : List Float). (values_in y.state m).to d l) (cond-true (chunk_of b n).tick (tick_of y.state x.env x.phase y.values) y.values ticks);
        }

-- an accepted block ends inside the most frames
pub walks-fits : (u : World) (samples : List Float) (signals : Signals) (start end : ℕ) → walks u samples signals start end ≡ true → end ≤ frame_count u.state
unfolding process
walks-fits u samples signals start end e =
    let code = (process u samples signals start end).code in
    let a = and-true-l (eqb code 0 && ltb start end) (not (eqb (route_total u.state.program) 0)) e in
    let zero-code = eqb-true code 0 (and-true-l (eqb code 0) (ltb start end) a) in
    ltb-false (frame_count u.state) end
    (first-row (ltb (frame_count u.state) end) (any_stride signals.part) (engine_short u || (program_short u || any_outside (length samples) signals.part)) zero-code)
