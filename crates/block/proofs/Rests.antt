-- A block moves of a state what `Small` holds, and nothing else. Assumes nothing.
use mathlib.Core.Path.{◌≡◌, refl, sym, ap, ◌∙◌}
use mathlib.Core.Bool.{Bool, true, false, cond}
use mathlib.Core.List.{List}
use Prim.Native.Nat.{ℕ, zero, suc, ◌-◌}
use lib.Ieee.{Float}
use Rattle.state.specs.declared.Block.{Block}
use Rattle.state.specs.declared.Chunk.{Chunk}
use Rattle.state.specs.declared.Signals.{Signals}
use Rattle.state.specs.declared.State.{State}
use Rattle.model.specs.Chunks.{chunk_total, chunk_of}
use Rattle.model.specs.World.{World, world_of}
use Rattle.model.specs.States.{with_marks, with_velocity, with_key, with_draw, with_phase, with_block, with_primed, put_state, put_held, put_globals, put_values, put_audio}
use Rattle.model.specs.Process.{glided, snap_at, ticked, rowed, sounded, chunk_step, chunk_steps, block_of}
use Rattle.block.specs.declared.Small.{Small}
use Rattle.block.specs.Smalls.{small_of, with_small}
use Rattle.block.specs.Worlds.{loaded_world, drawn_world, closed_world, stepped_world, routed_world}

-- the next state has the rest of st
abbrev pub Rests : State → State → Type 0
Rests st next = with_small st (small_of next) ≡ next

rests-on : (a b c : State) → Rests a b → Rests b c → Rests a c
rests-on a b c f g = ap (λ (x : State). with_small x (small_of c)) f ∙ g

-- either of two worlds
rests-by : (st : State) (b : Bool) (x y : World) → Rests st x.state → Rests st y.state → Rests st (cond b x y).state
rests-by st true x y f g = f
rests-by st false x y f g = g

rests-loaded : (w : World) → Rests w.state (loaded_world w).state
unfolding loaded_world put_globals
rests-loaded w = refl

rests-drawn : (w : World) → Rests w.state (drawn_world w).state
unfolding drawn_world put_values put_state with_draw
rests-drawn w = rests-by w.state w.state.marks.any_renoted _ w refl refl

rests-closed : (b : Block) (len : ℕ) (w : World) → Rests w.state (closed_world b len w).state
unfolding closed_world put_state with_block with_marks with_phase
rests-closed b len w = refl

module _ (samples : List Float) (signals : Signals) where
  rests-ticked : (c : Chunk) (snap : Bool) (w : World) → Rests w.state (ticked samples signals c snap w).state
  unfolding put_state put_values with_primed
  rests-ticked c snap w = rests-by w.state c.tick _ w refl refl

  rests-sounded : (i : ℕ) (c : Chunk) (snap : Bool) (w : World) → Rests w.state (sounded samples signals c snap (rowed i w)).state
  unfolding put_values put_audio
  rests-sounded i c snap w = refl

  rests-glided : (frames : ℕ) (w : World) → Rests w.state (glided frames w).state
  unfolding glided put_held put_state with_key with_velocity
  rests-glided frames w = refl

  rests-step : (i : ℕ) (c : Chunk) (w : World) → Rests w.state (chunk_step samples signals i c w).state
  unfolding chunk_step
  rests-step i c w =
      let t = ticked samples signals c (snap_at i w) w in
      let s = sounded samples signals c (snap_at i w) (rowed i t) in
      let g = glided c.len s in
      rests-on w.state s.state g.state
      (rests-on w.state t.state s.state (rests-ticked c (snap_at i w) w) (rests-sounded i c (snap_at i w) t))
      (rests-glided c.len s)

  rests-steps : (b : Block) (n : ℕ) (w : World) → Rests w.state (chunk_steps samples signals b n w).state
  unfolding chunk_steps
  rests-steps b zero w = refl
  rests-steps b (suc n) w =
      let x = chunk_steps samples signals b n w in
      rests-on w.state x.state (chunk_step samples signals n (chunk_of b n) x).state (rests-steps b n w) (rests-step n (chunk_of b n) x)

  rests-stepped : (b : Block) (len : ℕ) (w : World) → Rests w.state (stepped_world samples signals b len w).state
  unfolding stepped_world
  rests-stepped b len w =
      let l = loaded_world w in
      let d = drawn_world l in
      let s = chunk_steps samples signals b (chunk_total b) d in
      let o = closed_world b len s in
      let opened = rests-on w.state l.state d.state (rests-loaded w) (rests-drawn l) in
      rests-on w.state s.state o.state (rests-on w.state d.state s.state opened (rests-steps b (chunk_total b) d)) (rests-closed b len s)

  -- what has moved of a block with routes, put into the state that it came to
  pub routed-small : (start end : ℕ) (st next : State) (m : Small) (h g a v b t h' g' v' b' : List Float) → m ≡ small_of next
      → world_of next h' g' a v' b' t ≡ routed_world samples signals start end (world_of st h g a v b t)
      → world_of (with_small st m) h' g' a v' b' t ≡ routed_world samples signals start end (world_of st h g a v b t)
  unfolding routed_world
  routed-small start end st next m h g a v b t h' g' v' b' f e =
      let w = world_of st h g a v b t in
      let same : next ≡ (routed_world samples signals start end w).state = ap (λ (x : World). x.state) e in
      let r : Rests st (routed_world samples signals start end w).state = rests-stepped (block_of st start end) (end - start) w in
      let s : with_small st m ≡ next = ap (with_small st) f ∙ ap (λ (x : State). with_small st (small_of x)) same ∙ r ∙ sym same in
      ap (λ (x : State). world_of x h' g' a v' b' t) s ∙ e

-- what is put back as it stood
pub same-small : (st : State) (m : Small) (h g a v b t : List Float) (o : World) → m ≡ small_of st → world_of st h g a v b t ≡ o
    → world_of (with_small st m) h g a v b t ≡ o
same-small st m h g a v b t o e f = ap (λ (x : Small). world_of (with_small st x) h g a v b t) e ∙ f
