-- What a block leaves alone: the installed program, the configuration, and how long the lent values are. Assumes nothing.
use mathlib.Core.Path.{◌≡◌, refl, ◌∙◌}
use mathlib.Core.Bool.{Bool, true, false, cond}
use mathlib.Core.List.{List}
use Prim.Native.Nat.{ℕ, zero, suc, ◌+◌, ◌-◌}
use lib.ListN.{length, length-set, get_or, set}
use lib.Ieee.{Float}
use Rattle.std.specs.Prelude.{Option, Some, None}
use Rattle.draw.specs.Xorshift.{step, draw_of}
use Rattle.state.specs.declared.Read.{Read}
use Rattle.state.specs.declared.Read.TheVariants as D
use Rattle.state.specs.declared.Input.{Input}
use Rattle.state.specs.declared.Block.{Block}
use Rattle.state.specs.declared.Chunk.{Chunk}
use Rattle.state.specs.declared.Signals.{Signals}
use Rattle.state.specs.declared.State.{State}
use Rattle.model.specs.Counts.{voice_count, control_total, plan_total, route_total, route_at}
use Rattle.model.specs.Env.{Env, Own}
use Rattle.model.specs.Tick.{put_slews, turn, turns, tick_of}
use Rattle.model.specs.Audio.{Sounds, audio_frame, audio_frames, audio_plans, audio_of}
use Rattle.model.specs.Chunks.{chunk_of}
use Rattle.model.specs.World.{World}
use Rattle.model.specs.States.{with_marks, with_velocity, with_key, with_draw, with_phase, with_block, with_primed, put_state, put_held, put_globals, put_values, put_audio}
use Rattle.model.specs.Process.{glided, loaded, Drawn, draw_voices, random_start, draw_read, draw_aux, draw_routes, put_drawn, drawn, env_of, snap_at, primed_with, ticked, rows_of_chunk, rowed, sounded, after_tick, chunk_step, chunk_steps, closed}
use Rattle.model.proofs.FillFrom.{fill-length}

-- ---- how long

slews-length : (st : State) (d : ℕ) (g : Own) (k : ℕ) (m : List Float) → length (put_slews st d g k m) ≡ length m
unfolding put_slews
slews-length st d g zero m = refl
slews-length st d g (suc k) m = simp (fill-length, slews-length st d g k m)

turns-length : (st : State) (t : Env) (phase k : ℕ) (m : List Float) → length (turns st t phase k m) ≡ length m
unfolding turns turn
turns-length st t phase zero m = refl
turns-length st t phase (suc k) m = simp (slews-length, fill-length, turns-length st t phase k m)

pub tick-length : (st : State) (t : Env) (phase : ℕ) (m : List Float) → length (tick_of st t phase m) ≡ length m
unfolding tick_of
tick-length st t phase m = turns-length st t phase (control_total st.program) m

rows-length : (st : State) (i n : ℕ) (m : List Float) → length (rows_of_chunk st i n m) ≡ length m
unfolding rows_of_chunk
rows-length st i zero m = refl
rows-length st i (suc n) m = simp (fill-length, rows-length st i n m)

frames-length : (st : State) (t : Env) (c : Chunk) (d n : ℕ) (m : Sounds) → length (audio_frames st t c d n m).values ≡ length m.values
unfolding audio_frames audio_frame
frames-length st t c d zero m = refl
frames-length st t c d (suc n) m = simp (slews-length, frames-length st t c d n m)

plans-length : (st : State) (t : Env) (c : Chunk) (k : ℕ) (m : Sounds) → length (audio_plans st t c k m).values ≡ length m.values
unfolding audio_plans
plans-length st t c zero m = refl
plans-length st t c (suc k) m = frames-length st t c (control_total st.program + k) c.len (audio_plans st t c k m) ∙ plans-length st t c k m

drawn-length : (b : Bool) (x y : Drawn) (n : ℕ) → length x.values ≡ n → length y.values ≡ n → length (cond b x y).values ≡ n
drawn-length true x y n f g = f
drawn-length false x y n f g = g

voices-length : (st : State) (a n : ℕ) (d : Drawn) → length (draw_voices st a n d).values ≡ length d.values
unfolding draw_voices
voices-length st a zero d = refl
voices-length st a (suc n) d =
    let b = draw_voices st a n d in
    drawn-length (get_or st.marks.renoted n false) (record { draw = step b.draw; values = set b.values (a + n) (draw_of (step b.draw)) }) b (length d.values)
    (length-set b.values (a + n) (draw_of (step b.draw)) ∙ voices-length st a n d)
    (voices-length st a n d)

read_length : (st : State) (r p : ℕ) (x : Read) (d : Drawn) → length (draw_read st r p x d).values ≡ length d.values
read_length st r p (D.Signal i v) d = refl
read_length st r p (D.Held i v) d = refl
read_length st r p (D.Fed e v) d = refl
read_length st r p D.Constant d = refl
read_length st r p D.RouteRandom d = voices-length st (random_start st r p) (voice_count st) d

aux-length : (st : State) (r : ℕ) (x : Option Input) (d : Drawn) → length (draw_aux st r x d).values ≡ length d.values
aux-length st r None d = refl
aux-length st r (Some i) d = read_length st r 1 i.read d

routes-length : (st : State) (n : ℕ) (d : Drawn) → length (draw_routes st n d).values ≡ length d.values
unfolding draw_routes
routes-length st zero d = refl
routes-length st (suc n) d =
    aux-length st n (route_at st n).aux (draw_read st n 0 (route_at st n).source.read (draw_routes st n d))
    ∙ read_length st n 0 (route_at st n).source.read (draw_routes st n d)
    ∙ routes-length st n d

-- ---- frames

pub record Frame (u v : World) : Type 0 where
  pub program : v.state.program ≡ u.state.program
  pub config : v.state.config ≡ u.state.config
  pub long : length v.values ≡ length u.values

pub frame_self : (u : World) → Frame u u
frame_self u = record { program = refl; config = refl; long = refl }

pub frame_on : {u v x : World} → Frame u v → Frame v x → Frame u x
frame_on f g = record { program = g.program ∙ f.program; config = g.config ∙ f.config; long = g.long ∙ f.long }

pub loaded-frame : (u : World) → Frame u (loaded u)
unfolding put_globals
loaded-frame u = record { program = refl; config = refl; long = refl }

cond-frame : {u x y : World} (b : Bool) → Frame u x → Frame u y → Frame u (cond b x y)
cond-frame true f g = f
cond-frame false f g = g

drawn-by : (u : World) → Frame u (put_drawn u (draw_routes u.state (route_total u.state.program) (record { draw = u.state.draw; values = u.values })))
unfolding put_values put_state with_draw
drawn-by u =
    record {
      program = refl;
      config = refl;
      long = routes-length u.state (route_total u.state.program) (record { draw = u.state.draw; values = u.values });
    }

pub drawn-frame : (u : World) → Frame u (drawn u)
drawn-frame u = cond-frame u.state.marks.any_renoted (drawn-by u) (frame_self u)

pub primed-frame : (u : World) (m : List Float) → length m ≡ length u.values → Frame u (primed_with u m)
unfolding put_values put_state with_primed
primed-frame u m e = record { program = refl; config = refl; long = e }

rowed-frame : (i : ℕ) (u : World) → Frame u (rowed i u)
unfolding put_values
rowed-frame i u = record { program = refl; config = refl; long = rows-length u.state i (control_total u.state.program) u.values }

sounded-frame : (samples : List Float) (signals : Signals) (c : Chunk) (snap : Bool) (u : World) → Frame u (sounded samples signals c snap u)
unfolding put_values put_audio audio_of
sounded-frame samples signals c snap u =
    record {
      program = refl;
      config = refl;
      long =
          plans-length u.state (env_of u samples signals c snap) c (plan_total u.state.program - control_total u.state.program)
          (record { values = u.values; audio = u.audio });
    }

pub glided-frame : (n : ℕ) (u : World) → Frame u (glided n u)
unfolding glided put_held put_state with_key with_velocity
glided-frame n u = record { program = refl; config = refl; long = refl }

pub after_frame : (samples : List Float) (signals : Signals) (i : ℕ) (c : Chunk) (snap : Bool) (u : World) → Frame u (after_tick samples signals i c snap u)
after_frame samples signals i c snap u =
    frame_on (rowed-frame i u) (frame_on (sounded-frame samples signals c snap (rowed i u)) (glided-frame c.len (sounded samples signals c snap (rowed i u))))

pub ticked-frame : (samples : List Float) (signals : Signals) (c : Chunk) (snap : Bool) (u : World) → Frame u (ticked samples signals c snap u)
ticked-frame samples signals c snap u =
    let t = env_of u samples signals c snap in
    cond-frame c.tick (primed-frame u (tick_of u.state t c.phase u.values) (tick-length u.state t c.phase u.values)) (frame_self u)

step-frame : (samples : List Float) (signals : Signals) (i : ℕ) (c : Chunk) (u : World) → Frame u (chunk_step samples signals i c u)
unfolding chunk_step
step-frame samples signals i c u =
    frame_on (ticked-frame samples signals c (snap_at i u) u) (after_frame samples signals i c (snap_at i u) (ticked samples signals c (snap_at i u) u))

pub steps-frame : (samples : List Float) (signals : Signals) (b : Block) (n : ℕ) (u : World) → Frame u (chunk_steps samples signals b n u)
unfolding chunk_steps
steps-frame samples signals b zero u = frame_self u
steps-frame samples signals b (suc n) u =
    frame_on (steps-frame samples signals b n u) (step-frame samples signals n (chunk_of b n) (chunk_steps samples signals b n u))

pub closed-frame : (b : Block) (len : ℕ) (u : World) → Frame u (closed b len u)
unfolding put_state with_block with_marks with_phase
closed-frame b len u = record { program = refl; config = refl; long = refl }
