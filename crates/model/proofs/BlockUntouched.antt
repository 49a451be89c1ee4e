-- A block leaves every number of values and audio rows that is in none of the rows that it may write; so frames outside its range, rows of other plans, and numbers beyond
-- the needs. Assumes nothing.
use mathlib.Core.Path.{◌≡◌, refl, sym, subst, ◌∙◌}
use mathlib.Core.Bool.{Bool, true, false, cond, ◌&&◌, ◌||◌}
use mathlib.Core.List.{List}
use Prim.Native.Nat.{ℕ, zero, suc, ◌+◌, ◌-◌, ◌≤◌, ◌<◌}
use native.Mathlib.Omega.{arith}
use lib.Dec.{eqb, ltb}
use lib.ListN.{length}
use lib.Ieee.{Float}
use borrow.Author.Tests.{eqb-true, ltb-false}
use Rattle.feed.proofs.Tests.{and-true-l}
use Rattle.config.specs.Sizes.{slots}
use Rattle.state.specs.declared.Block.{Block}
use Rattle.state.specs.declared.Chunk.{Chunk}
use Rattle.state.specs.declared.Program.{Program}
use Rattle.state.specs.declared.Signals.{Signals}
use Rattle.state.specs.declared.Wiring.{Wiring}
use Rattle.model.specs.Plans.{compiled}
use Rattle.model.specs.Counts.{frame_count, chunks_most, control_total, route_total, plan_at, at}
use Rattle.model.specs.Layout.{Sizes}
use Rattle.model.specs.Chunks.{chunk_total, chunk_of}
use Rattle.model.specs.World.{World}
use Rattle.model.specs.Tick.{tick_of}
use Rattle.model.specs.States.{with_primed, put_state, put_held, put_globals, put_values, put_audio}
use Rattle.model.specs.Process.{glided, loaded, draw_routes, put_drawn, drawn, env_of, snap_at, primed_with, rowed, after_tick, chunk_step, chunk_steps, block_of, any_stride, any_outside, engine_short, program_short, routeless, routed, over_range, process}
use Rattle.model.proofs.Conds.{cond_of}
use Rattle.model.proofs.Frames.{Frame, frame_on, loaded-frame, drawn-frame, steps-frame}
use Rattle.model.proofs.ShownRows.{sizes_at}
use Rattle.model.proofs.BlockShows.{sizes-frame, chunk-most, first-row}
use Rattle.model.proofs.BlockLeaves.{OffValues, OffAudio, sounds-off, tick-off, chunk-rows-off, draws-off, sounds-stay}

cond-by : {A : Type 0} (P : A → Type 0) (b : Bool) (x y : A) → (b ≡ true → P x) → P y → P (cond b x y)
cond-by P true x y f p = f refl
cond-by P false x y f p = p

module _ (w : Wiring) (slotted : length w.matrix.slot ≡ slots) (samples : List Float) (signals : Signals) where
  -- ---- values

  after-off : (k j : ℕ) (c : Chunk) (snap : Bool) (u : World) → u.state.program ≡ compiled w → OffValues (sizes_at u.state) (control_total u.state.program) k → j < chunks_most u.state
      → at (after_tick samples signals j c snap u).values k ≡ at u.values k
  unfolding glided put_held put_state put_values put_audio
  after-off k j c snap u is off b =
      sounds-off w slotted u.state is k off (env_of (rowed j u) samples signals c snap) c (record { values = (rowed j u).values; audio = u.audio })
      ∙ chunk-rows-off w slotted u.state is k off j b u.values

  step-off : (k j : ℕ) (c : Chunk) (u : World) → u.state.program ≡ compiled w → OffValues (sizes_at u.state) (control_total u.state.program) k → j < chunks_most u.state
      → at (chunk_step samples signals j c u).values k ≡ at u.values k
  unfolding chunk_step plan_at with_primed put_state put_values
  step-off k j c u is off b =
      let t = env_of u samples signals c (snap_at j u) in
      let m = tick_of u.state t c.phase u.values in
      cond_of (λ (y : World). at (after_tick samples signals j c (snap_at j u) y).values k ≡ at u.values k) c.tick (primed_with u m) u
      (after-off k j c (snap_at j u) (primed_with u m) is off b ∙ tick-off w slotted u.state is k off t refl c.phase u.values)
      (after-off k j c (snap_at j u) u is off b)

  -- what holds of a world's sizes holds of those of a world that it frames
  pub moved : (P : Sizes → ℕ → Type 0) {u v : World} → Frame u v → P (sizes_at u.state) (control_total u.state.program) → P (sizes_at v.state) (control_total v.state.program)
  moved P {u} {v} f p =
      subst (λ (z : Sizes). P z (control_total v.state.program)) (sym (sizes-frame f))
      (subst (λ (p : Program). P (sizes_at u.state) (control_total p)) (sym f.program) p)

  steps-off : (k : ℕ) (b : Block) (u : World) → u.state.program ≡ compiled w → OffValues (sizes_at u.state) (control_total u.state.program) k
      → (n : ℕ) → n ≤ chunks_most u.state → at (chunk_steps samples signals b n u).values k ≡ at u.values k
  unfolding chunk_steps
  steps-off k b u is off zero h = refl
  steps-off k b u is off (suc n) h =
      let y = chunk_steps samples signals b n u in
      let f = steps-frame samples signals b n u in
      let most : n < chunks_most y.state = subst (λ (z : Sizes). n < z.chunks) (sym (sizes-frame f)) (omega arith) in
      step-off k n (chunk_of b n) y (f.program ∙ is) (moved (λ z c. OffValues z c k) f off) most ∙ steps-off k b u is off n (omega arith)

  drawn-off : (k : ℕ) (u : World) → u.state.program ≡ compiled w → OffValues (sizes_at u.state) (control_total u.state.program) k → at (drawn u).values k ≡ at u.values k
  unfolding put_values put_state
  drawn-off k u is off =
      let d = draw_routes u.state (route_total u.state.program) (record { draw = u.state.draw; values = u.values }) in
      cond_of (λ (y : World). at y.values k ≡ at u.values k) u.state.marks.any_renoted (put_drawn u d) u
      (draws-off w slotted u.state is k off (route_total u.state.program) (omega arith) (record { draw = u.state.draw; values = u.values }))
      refl

  -- ---- audio rows

  after-stay : (k s e j : ℕ) (c : Chunk) (snap : Bool) (u : World) → u.state.program ≡ compiled w → OffAudio (sizes_at u.state) (control_total u.state.program) s e k
      → s ≤ c.start → ((n : ℕ) → n < c.len → c.start + n < e) → at (after_tick samples signals j c snap u).audio k ≡ at u.audio k
  unfolding glided put_held put_state put_values put_audio
  after-stay k s e j c snap u is off first last =
      sounds-stay w slotted u.state is k s e off (env_of (rowed j u) samples signals c snap) refl c first last (record { values = (rowed j u).values; audio = u.audio })

  pub step-stay : (k s e j : ℕ) (c : Chunk) (u : World) → u.state.program ≡ compiled w → OffAudio (sizes_at u.state) (control_total u.state.program) s e k
      → s ≤ c.start → ((n : ℕ) → n < c.len → c.start + n < e) → at (chunk_step samples signals j c u).audio k ≡ at u.audio k
  unfolding chunk_step plan_at with_primed put_state put_values
  step-stay k s e j c u is off first last =
      let t = env_of u samples signals c (snap_at j u) in
      let m = tick_of u.state t c.phase u.values in
      cond_of (λ (y : World). at (after_tick samples signals j c (snap_at j u) y).audio k ≡ at u.audio k) c.tick (primed_with u m) u
      (after-stay k s e j c (snap_at j u) (primed_with u m) is off first last)
      (after-stay k s e j c (snap_at j u) u is off first last)

  chunk-first : (b : Block) (n : ℕ) → b.start ≤ (chunk_of b n).start
  unfolding chunk_of
  chunk-first b zero = omega arith
  chunk-first b (suc n) = omega arith

  pub chunk-last : (b : Block) (n i : ℕ) → i < (chunk_of b n).len → (chunk_of b n).start + i < b.end
  unfolding chunk_of
  chunk-last b n i h = omega arith

  steps-stay : (k : ℕ) (b : Block) (u : World) → u.state.program ≡ compiled w → OffAudio (sizes_at u.state) (control_total u.state.program) b.start b.end k
      → (n : ℕ) → at (chunk_steps samples signals b n u).audio k ≡ at u.audio k
  unfolding chunk_steps
  steps-stay k b u is off zero = refl
  steps-stay k b u is off (suc n) =
      let y = chunk_steps samples signals b n u in
      let f = steps-frame samples signals b n u in
      step-stay k b.start b.end n (chunk_of b n) y (f.program ∙ is) (moved (λ z c. OffAudio z c b.start b.end k) f off) (chunk-first b n) (chunk-last b n)
      ∙ steps-stay k b u is off n

  -- ---- a block

  module _ (start end : ℕ) (u : World) (is : u.state.program ≡ compiled w) (k : ℕ) where
    abbrev z : Sizes
    z = sizes_at u.state

    abbrev control : ℕ
    control = control_total u.state.program

    before : Frame u (drawn (loaded u))
    before = frame_on (loaded-frame u) (drawn-frame (loaded u))

    abbrev b : Block
    b = block_of u.state start end

    routed-values : OffValues z control k → end ≤ frame_count u.state → at (routed samples signals start end u).values k ≡ at u.values k
    unfolding put_state put_globals
    routed-values off fits =
        let o = drawn (loaded u) in
        let most : chunk_total b ≤ chunks_most o.state = subst (λ (x : Sizes). chunk_total b ≤ x.chunks) (sym (sizes-frame before)) (chunk-most b (frame_count u.state) fits) in
        steps-off k b o (before.program ∙ is) (moved (λ x c. OffValues x c k) before off) (chunk_total b) most ∙ drawn-off k (loaded u) is off

    routed-audio : OffAudio z control start end k → at (routed samples signals start end u).audio k ≡ at u.audio k
    unfolding put_state put_globals put_values
    routed-audio off =
        let o = drawn (loaded u) in
        steps-stay k b o (before.program ∙ is) (moved (λ x c. OffAudio x c start end k) before off) (chunk_total b)
        ∙ cond_of (λ (y : World). at y.audio k ≡ at u.audio k) u.state.marks.any_renoted
        (put_drawn (loaded u) (draw_routes u.state (route_total u.state.program) (record { draw = u.state.draw; values = u.values }))) (loaded u) refl refl

    accepted-fits : (eqb (process u samples signals start end).code 0 && ltb start end) ≡ true → end ≤ frame_count u.state
    unfolding process
    accepted-fits e =
        let code = (process u samples signals start end).code in
        ltb-false (frame_count u.state) end
        (first-row (ltb (frame_count u.state) end) (any_stride signals.part) (engine_short u || (program_short u || any_outside (length samples) signals.part))
        (eqb-true code 0 (and-true-l (eqb code 0) (ltb start end) e)))

    -- A BLOCK LEAVES EVERY OTHER NUMBER OF THE VALUES
    pub block-values : OffValues z control k → at (process u samples signals start end).world.values k ≡ at u.values k
    unfolding process glided put_held put_state
    block-values off =
        let P : World → Type 0 = λ y. at y.values k ≡ at u.values k in
        cond-by P (eqb (process u samples signals start end).code 0 && ltb start end) (over_range samples signals start end u) u
        (λ e. cond_of P (eqb (route_total u.state.program) 0) (routeless (end - start) u) (routed samples signals start end u) refl (routed-values off (accepted-fits e)))
        refl

    -- AND OF THE AUDIO ROWS
    pub block-audio : (end ≤ frame_count u.state → OffAudio z control start end k) → at (process u samples signals start end).world.audio k ≡ at u.audio k
    unfolding process glided put_held put_state
    block-audio off =
        let P : World → Type 0 = λ y. at y.audio k ≡ at u.audio k in
        cond-by P (eqb (process u samples signals start end).code 0 && ltb start end) (over_range samples signals start end u) u
        (λ e. cond_of P (eqb (route_total u.state.program) 0) (routeless (end - start) u) (routed samples signals start end u) refl (routed-audio (off (accepted-fits e))))
        refl
