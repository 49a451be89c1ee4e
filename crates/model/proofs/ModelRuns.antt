-- A block of the model is the block of the definitions, where a tick of the model is their tick. Assumes nothing.
use mathlib.Core.Path.{◌≡◌, refl, sym, ap, ap₂, subst, ◌∙◌}
use mathlib.Core.Logic.{inl, inr}
use mathlib.Core.Bool.{Bool, true, false, not, ◌&&◌, ◌||◌}
use mathlib.Core.List.{List, [], ◌∷◌}
use Prim.Native.Nat.{ℕ, zero, suc, ◌-◌, ◌≤◌, min}
use native.Mathlib.Omega.{arith}
use lib.Dec.{eqb, ltb}
use lib.ListN.{length}
use lib.Ieee.{Float}
use borrow.Author.Tests.{eqb-true, ltb-false}
use Rattle.config.specs.Sizes.{most_voices, most_frames}
use Rattle.config.specs.declared.Config.{Config}
use Rattle.refusal.specs.Judge.{◌when◌, judged}
use Rattle.feed.proofs.Tests.{which, or-false-l, or-false-r, and-true-l, and_true_r}
use Rattle.state.specs.declared.Block.{Block}
use Rattle.state.specs.declared.Chunk.{Chunk}
use Rattle.state.specs.declared.Program.{Program}
use Rattle.state.specs.declared.Signals.{Signals}
use Rattle.state.specs.declared.Wiring.{Wiring}
use Rattle.model.specs.Need.{values_need}
use Rattle.model.specs.Plans.{compiled}
use Rattle.model.specs.Counts.{frame_count, plan_total, route_total}
use Rattle.model.specs.Tick.{tick_of}
use Rattle.model.specs.Chunks.{chunk_total, chunk_of}
use Rattle.model.specs.World.{World}
use Rattle.model.specs.Process.{values_of, audio_need_of, tables_need_of, any_stride, any_outside, program_short, engine_short, process_rows, loaded, drawn, env_of, snap_at, primed_with, after_tick, chunk_step, chunk_steps, block_of, closed, routeless, routed, over_range, process}
use Rattle.model.specs.Model.{Ticks, Steps, still, ticks, Chunks, none, more, walks, Blocks, quiet, walked}
use Rattle.model.proofs.Conds.{cond-true, cond-false}
use Rattle.model.proofs.Frames.{Frame, frame_on, loaded-frame, drawn-frame, steps-frame}

-- ---- what a tick needs: the program is compiled from w, and the lent values are as long as it needs

pub record Good (w : Wiring) (u : World) : Type 0 where
  pub program : u.state.program ≡ compiled w
  pub room : values_of u.state ≤ length u.values

-- the need follows from configuration and program
abbrev needs : Config → Program → ℕ
needs c p = values_need (min c.voices most_voices) (min c.max_frames most_frames) (plan_total p) (route_total p)

pub good-frame : {w : Wiring} {u v : World} → Frame u v → Good w u → Good w v
good-frame {u = u} {v = v} f g =
    record {
      program = f.program ∙ g.program;
      room = let e : values_of v.state ≡ values_of u.state = ap₂ needs f.config f.program in omega (arith, e, f.long, g.room);
    }

-- ---- an accepted block has room

pub not-true : (b : Bool) → not b ≡ true → b ≡ false
not-true true e = sym e
not-true false e = refl

third : (a b c : Bool) → judged (1 when a ∷ 13 when b ∷ 14 when c ∷ []) ≡ 0 → c ≡ false
unfolding judged
third true b c e = absurd (omega (arith, e))
third false true c e = absurd (omega (arith, e))
third false false true e = absurd (omega (arith, e))
third false false false e = refl

module _ (u : World) (samples : List Float) (signals : Signals) (start end : ℕ) where
  pub accepted-room : (process u samples signals start end).code ≡ 0 → values_of u.state ≤ length u.values
  unfolding process
  accepted-room e =
      let short = third (ltb (frame_count u.state) end) (any_stride signals.part) (engine_short u || (program_short u || any_outside (length samples) signals.part)) e in
      let p = or-false-l (program_short u) (any_outside (length samples) signals.part) (or-false-r (engine_short u) (program_short u || any_outside (length samples) signals.part) short) in
      let values = or-false-l (ltb (length u.values) (values_of u.state)) (ltb (length u.audio) (audio_need_of u.state) || ltb (length u.tables) (tables_need_of u.state)) p in
      ltb-false (length u.values) (values_of u.state) values

  code-zero : walks u samples signals start end ≡ true → (process u samples signals start end).code ≡ 0
  code-zero e =
      let a = and-true-l (eqb (process u samples signals start end).code 0 && ltb start end) (not (eqb (route_total u.state.program) 0)) e in
      eqb-true (process u samples signals start end).code 0 (and-true-l (eqb (process u samples signals start end).code 0) (ltb start end) a)

  pub walks-room : walks u samples signals start end ≡ true → values_of u.state ≤ length u.values
  walks-room e = accepted-room (code-zero e)

  -- such a block goes chunk by chunk
  pub walks-chunks : walks u samples signals start end ≡ true
      → (process u samples signals start end).world
      ≡ closed (block_of u.state start end) (end - start)
      (chunk_steps samples signals (block_of u.state start end) (chunk_total (block_of u.state start end)) (drawn (loaded u)))
  unfolding process
  walks-chunks e =
      let accepted = and-true-l (eqb (process u samples signals start end).code 0 && ltb start end) (not (eqb (route_total u.state.program) 0)) e in
      let routes = and_true_r (eqb (process u samples signals start end).code 0 && ltb start end) (not (eqb (route_total u.state.program) 0)) e in
      cond-true (eqb (judged (process_rows u samples signals end)) 0 && ltb start end) (over_range samples signals start end u) u accepted
      ∙ cond-false (eqb (route_total u.state.program) 0) (routeless (end - start) u) (routed samples signals start end u) (not-true (eqb (route_total u.state.program) 0) routes)

pub walks-good : {w : Wiring} (u : World) (samples : List Float) (signals : Signals) (start end : ℕ) → u.state.program ≡ compiled w → walks u samples signals start end ≡ true → Good w (drawn (loaded u))
walks-good u samples signals start end is e =
    good-frame (frame_on (loaded-frame u) (drawn-frame (loaded u))) (record { program = is; room = walks-room u samples signals start end e })

-- ---- chunks and blocks, of a program whose ticks of the model are the definitions'

module _ (w : Wiring)
    (there : (u : World) (samples : List Float) (signals : Signals) (c : Chunk) (snap : Bool) → Good w u
    → Ticks w u.state (env_of u samples signals c snap) c.phase u.values (tick_of u.state (env_of u samples signals c snap) c.phase u.values))
    (one : (u : World) (samples : List Float) (signals : Signals) (c : Chunk) (snap : Bool) (m : List Float) → Good w u
    → Ticks w u.state (env_of u samples signals c snap) c.phase u.values m → m ≡ tick_of u.state (env_of u samples signals c snap) c.phase u.values)
    (samples : List Float) (signals : Signals) where
  module _ (i : ℕ) (c : Chunk) (u : World) (g : Good w u) where
    abbrev after : World → World
    after = after_tick samples signals i c (snap_at i u)

    abbrev ticked-values : List Float
    ticked-values = tick_of u.state (env_of u samples signals c (snap_at i u)) c.phase u.values

    step-ticks : c.tick ≡ true → chunk_step samples signals i c u ≡ after (primed_with u ticked-values)
    unfolding chunk_step
    step-ticks e = ap after (cond-true c.tick (primed_with u ticked-values) u e)

    step-still : c.tick ≡ false → chunk_step samples signals i c u ≡ after u
    unfolding chunk_step
    step-still e = ap after (cond-false c.tick (primed_with u ticked-values) u e)

    step-there : Steps w samples signals i c u (chunk_step samples signals i c u)
    step-there = elim (which c.tick) [
      | inl e ↦ ticks e ticked-values (there u samples signals c (snap_at i u) g) (step-ticks e)
      | inr e ↦ still e (step-still e)
    ]

    step-one : (v : World) → Steps w samples signals i c u v → v ≡ chunk_step samples signals i c u
    step-one v (still e p) = p ∙ sym (step-still e)
    step-one v (ticks e m tick p) = p ∙ ap (λ (n : List Float). after (primed_with u n)) (one u samples signals c (snap_at i u) m g tick) ∙ sym (step-ticks e)

  module _ (b : Block) where
    chunks-there : (n : ℕ) (u : World) → Good w u → Chunks w samples signals b n u (chunk_steps samples signals b n u)
    unfolding chunk_steps
    chunks-there zero u g = none
    chunks-there (suc n) u g =
        more (chunks-there n u g) (step-there n (chunk_of b n) (chunk_steps samples signals b n u) (good-frame (steps-frame samples signals b n u) g))

    chunks-one : (n : ℕ) (u v : World) → Good w u → Chunks w samples signals b n u v → v ≡ chunk_steps samples signals b n u
    unfolding chunk_steps
    chunks-one zero u v g none = refl
    chunks-one (suc n) u v g (more {v = x} chunks step) = go (chunks-one n u x g chunks)
      where
        go : x ≡ chunk_steps samples signals b n u → v ≡ chunk_step samples signals n (chunk_of b n) (chunk_steps samples signals b n u)
        go e =
            step-one n (chunk_of b n) (chunk_steps samples signals b n u) (good-frame (steps-frame samples signals b n u) g) v
            (subst (λ (y : World). Steps w samples signals n (chunk_of b n) y v) e step)

  module _ (start end : ℕ) (u : World) (is : u.state.program ≡ compiled w) where
    abbrev b₀ : Block
    b₀ = block_of u.state start end

    pub blocks-there : Blocks w samples signals start end u (process u samples signals start end).world
    blocks-there = elim (which (walks u samples signals start end)) [
      | inl e ↦
          walked e (chunk_steps samples signals b₀ (chunk_total b₀) (drawn (loaded u)))
          (chunks-there b₀ (chunk_total b₀) (drawn (loaded u)) (walks-good u samples signals start end is e))
          (walks-chunks u samples signals start end e)
      | inr e ↦ quiet e refl
    ]

    pub blocks-one : (v : World) → Blocks w samples signals start end u v → v ≡ (process u samples signals start end).world
    blocks-one v (quiet e p) = p
    blocks-one v (walked e x chunks p) =
        p
        ∙ ap (closed b₀ (end - start)) (chunks-one b₀ (chunk_total b₀) (drawn (loaded u)) x (walks-good u samples signals start end is e) chunks)
        ∙ sym (walks-chunks u samples signals start end e)
