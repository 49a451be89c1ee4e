-- What a block and a note leave of the memories that are lent to them to be read: bases and tables. Assumes nothing.
use mathlib.Core.Path.{◌≡◌, refl, ◌∙◌}
use mathlib.Core.Bool.{Bool, not, ◌&&◌, ◌||◌}
use mathlib.Core.List.{List}
use Prim.Native.Nat.{ℕ, zero, suc, ◌-◌}
use lib.Dec.{eqb, ltb}
use lib.ListN.{set}
use lib.Ieee.{Float}
use Rattle.draw.specs.Xorshift.{step, draw_of}
use Rattle.refusal.specs.Judge.{judged}
use Rattle.voice.specs.Notes.{set_note}
use Rattle.state.specs.declared.Block.{Block}
use Rattle.state.specs.declared.Chunk.{Chunk}
use Rattle.state.specs.declared.Signals.{Signals}
use Rattle.model.specs.Counts.{engine_sources, route_total}
use Rattle.model.specs.Tick.{tick_of}
use Rattle.model.specs.Chunks.{chunk_total, chunk_of}
use Rattle.model.specs.World.{World, mark_at, held_place, is_velocity, is_random}
use Rattle.model.specs.States.{with_velocity, with_draw, put_state, put_held, put_globals, put_values, put_audio}
use Rattle.model.specs.Settings.{done_by}
use Rattle.model.specs.NoteCalls.{Note, velocity_target, legato_of, written_at, note_begun, velocity_set, key_set, randoms_set, noted_on, note_on_rows, note_on}
use Rattle.model.specs.Process.{process_rows, glided, loaded, draw_routes, put_drawn, drawn, env_of, snap_at, primed_with, ticked, chunk_step, chunk_steps, block_of, routeless, routed, over_range, process}
use Rattle.model.proofs.Conds.{cond_of}

-- ---- a block

pub record Spares (u v : World) : Type 0 where
  pub bases : v.bases ≡ u.bases
  pub tables : v.tables ≡ u.tables

self : (u : World) → Spares u u
self u = record { bases = refl; tables = refl }

and-then : {u v x : World} → Spares u v → Spares v x → Spares u x
and-then f g = record { bases = g.bases ∙ f.bases; tables = g.tables ∙ f.tables }

drawn-spares : (u : World) → Spares u (drawn u)
unfolding put_values put_state
drawn-spares u =
    cond_of (Spares u) u.state.marks.any_renoted
    (put_drawn u (draw_routes u.state (route_total u.state.program) (record { draw = u.state.draw; values = u.values }))) u
    (record { bases = refl; tables = refl })
    (self u)

ticked-spares : (samples : List Float) (signals : Signals) (c : Chunk) (snap : Bool) (u : World) → Spares u (ticked samples signals c snap u)
unfolding put_values put_state
ticked-spares samples signals c snap u =
    cond_of (Spares u) c.tick (primed_with u (tick_of u.state (env_of u samples signals c snap) c.phase u.values)) u
    (record { bases = refl; tables = refl })
    (self u)

step-spares : (samples : List Float) (signals : Signals) (i : ℕ) (c : Chunk) (u : World) → Spares u (chunk_step samples signals i c u)
unfolding chunk_step glided put_held put_state put_values put_audio
step-spares samples signals i c u =
    let t = ticked-spares samples signals c (snap_at i u) u in
    record { bases = t.bases; tables = t.tables }

steps-spare : (samples : List Float) (signals : Signals) (b : Block) (n : ℕ) (u : World) → Spares u (chunk_steps samples signals b n u)
unfolding chunk_steps
steps-spare samples signals b zero u = self u
steps-spare samples signals b (suc n) u =
    and-then (steps-spare samples signals b n u) (step-spares samples signals n (chunk_of b n) (chunk_steps samples signals b n u))

routed-spares : (samples : List Float) (signals : Signals) (start end : ℕ) (u : World) → Spares u (routed samples signals start end u)
unfolding put_state put_globals
routed-spares samples signals start end u =
    let b = block_of u.state start end in
    let d = drawn-spares (loaded u) in
    let s = steps-spare samples signals b (chunk_total b) (drawn (loaded u)) in
    record { bases = s.bases ∙ d.bases; tables = s.tables ∙ d.tables }

routeless-spares : (len : ℕ) (u : World) → Spares u (routeless len u)
unfolding glided put_held put_state
routeless-spares len u = record { bases = refl; tables = refl }

-- A BLOCK LEAVES BASES AND TABLES
pub block-spares : (u : World) (samples : List Float) (signals : Signals) (start end : ℕ) → Spares u (process u samples signals start end).world
unfolding process
block-spares u samples signals start end =
    cond_of (Spares u) (eqb (judged (process_rows u samples signals end)) 0 && ltb start end) (over_range samples signals start end u) u
    (cond_of (Spares u) (eqb (route_total u.state.program) 0) (routeless (end - start) u) (routed samples signals start end u)
    (routeless-spares (end - start) u)
    (routed-spares samples signals start end u))
    (self u)

-- ---- a note

module _ (v : ℕ) (n : Note) where
  velocity-tables : (u : World) → (velocity_set v n u).tables ≡ u.tables
  unfolding put_held put_state
  velocity-tables u =
      let st = with_velocity u.state (set_note u.state.velocity v (velocity_target u n) (legato_of u n) u.state.config.sample_rate) in
      let m = written_at u.state is_velocity u.state.velocity v (velocity_target u n) (legato_of u n) u.held in
      cond_of (λ (x : World). x.tables ≡ u.tables) (not n.legato || u.state.program.velocity_legato) (put_held (put_state u st) m) u refl refl

  randoms-tables : (k : ℕ) (u : World) → (randoms_set v k u).tables ≡ u.tables
  unfolding randoms_set put_held put_state
  randoms-tables zero u = refl
  randoms-tables (suc k) u =
      let b = randoms_set v k u in
      let st = with_draw b.state (step b.state.draw) in
      let m = set b.held (held_place u.state k v) (draw_of (step b.state.draw)) in
      cond_of (λ (x : World). x.tables ≡ u.tables) (is_random (mark_at u.state k).kind) (put_held (put_state b st) m) b (randoms-tables k u) (randoms-tables k u)

  noted-tables : (u : World) → (noted_on v n u).tables ≡ u.tables
  unfolding put_held put_state
  noted-tables u =
      let a = note_begun v n u in
      randoms-tables (engine_sources u.state) (key_set v n (velocity_set v n a)) ∙ velocity-tables a

  -- A NOTE LEAVES THE TABLES
  pub note-tables : (u : World) → (note_on u v n).world.tables ≡ u.tables
  unfolding note_on done_by
  note-tables u = cond_of (λ (x : World). x.tables ≡ u.tables) (eqb (judged (note_on_rows u v n)) 0) (noted_on v n u) u (noted-tables u) refl
