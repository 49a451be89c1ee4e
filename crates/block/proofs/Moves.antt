-- A chunk of a block whose plans all have audio and are swept, from what its parts ensure. Assumes nothing.
use mathlib.Core.Path.{◌≡◌, refl, sym, ap, ◌∙◌, subst}
use mathlib.Core.Bool.{Bool, true, false, cond}
use mathlib.Core.List.{List}
use Prim.Native.Nat.{ℕ, ◌+◌, ◌-◌, ◌*◌, ◌≤◌, ◌<◌}
use native.Mathlib.Nat.{le_refl}
use native.Mathlib.Omega.{arith}
use lib.Ieee.{Float}
use Rattle.voice.specs.declared.Notes.{Notes}
use Rattle.voice.specs.Notes.{advanced}
use Rattle.state.specs.declared.Block.{Block}
use Rattle.state.specs.declared.Chunk.{Chunk}
use Rattle.state.specs.declared.Signals.{Signals}
use Rattle.state.specs.declared.State.{State}
use Rattle.model.specs.Audio.{audio_of}
use Rattle.model.specs.Chunks.{chunk_total, chunk_of}
use Rattle.model.specs.Counts.{voice_count, frame_count, stride_of, engine_sources, control_total}
use Rattle.model.specs.Env.{Env}
use Rattle.model.specs.Process.{rows_of_chunk, glided, ticked, rowed, snap_at, chunk_step, chunk_steps}
use Rattle.model.specs.States.{with_velocity, with_key, with_primed, put_values}
use Rattle.model.specs.Tick.{turns, tick_of}
use Rattle.model.specs.World.{World, world_of, is_velocity, is_key}
use Rattle.block_opening.specs.Marks.{moved_if}
use Rattle.audio_rows.specs.declared.Sweeping.{Sweeping}
use Rattle.audio_rows.specs.declared.Work.{Work}
use Rattle.audio_rows.specs.Passes.{ReadyBy, PreparedBy}
use Rattle.audio_rows.specs.Rows.{sounds}
use Rattle.audio_rows.specs.Work.{Sized, audio_room, Installed, work_env}
use Rattle.audio_rows.proofs.Sweeps.{ready-sooner, prepared-sooner}
use Rattle.block.specs.declared.Glides.{Glides}
use Rattle.block.specs.declared.Moving.{Moving}
use Rattle.block.specs.Moves.{moving_of, moved_by, glides_of, whole_of}
use Rattle.block.specs.Scenes.{work_of}
use Rattle.block.proofs.Steps.{work-sized, held-fit, ticked-not, ticked-is, sounded-is, glided-is, step_is}
use Rattle.block.proofs.Blocks.{chunk_end, steps-none}

pub glides-are : (st : State) (stride sources voices : ℕ) → stride ≡ stride_of st → sources ≡ engine_sources st → voices ≡ voice_count st
    → record { mark = st.mark; stride = stride; sources = sources; voices = voices } ≡ glides_of st
glides-are st stride sources voices a b c = rw (a, b, c)

-- what has moved after chunk c
abbrev pub moved_in : Moving → Chunk → Moving
moved_in m c =
    record { primed = cond c.tick true m.primed; velocity = advanced m.velocity c.len; key = advanced m.key c.len }

pub moved-in : (m : Moving) (c : Chunk) (primed : Bool) (vel key : Notes) → primed ≡ cond c.tick true m.primed → vel ≡ advanced m.velocity c.len
    → key ≡ advanced m.key c.len → record { primed = primed; velocity = vel; key = key } ≡ moved_in m c
moved-in m c primed vel key a b d = rw (a, b, d)

-- held numbers after it
abbrev pub held_in : Glides → Moving → Moving → List Float → List Float
held_in g m r h =
    moved_if g.mark is_key g.stride g.sources m.key.glide r.key.value g.voices
    (moved_if g.mark is_velocity g.stride g.sources m.velocity.glide r.velocity.value g.voices h)

pub held-in : (g : Glides) (m : Moving) (vel key : Notes) (h i o : List Float)
    → i ≡ moved_if g.mark is_velocity g.stride g.sources m.velocity.glide vel.value g.voices h
    → o ≡ moved_if g.mark is_key g.stride g.sources m.key.glide key.value g.voices i
    → o
    ≡ moved_if g.mark is_key g.stride g.sources m.key.glide key.value g.voices
    (moved_if g.mark is_velocity g.stride g.sources m.velocity.glide vel.value g.voices h)
held-in g m vel key h i o e f = f ∙ ap (moved_if g.mark is_key g.stride g.sources m.key.glide key.value g.voices) e

pub nothing-moved : (st : State) (m : Moving) → m ≡ moving_of st → st ≡ moved_by st m
unfolding with_velocity with_key with_primed
nothing-moved st m e = rw e

-- ---- the block as one chunk

pub whole-low : (st : State) (b : Block) {c : Chunk} → c ≡ whole_of b → b.start ≤ b.end → b.end ≤ frame_count st → c.start ≤ 4096
whole-low st b e h k = rw e (omega arith)

pub whole-sized : (st : State) (b : Block) (signals : Signals) {c : Chunk} {w : Work} → c ≡ whole_of b → w ≡ work_of st c false signals → b.start ≤ b.end → b.end ≤ frame_count st → Sized w c
whole-sized st b signals {c} {w} e f h k =
    let end : c.start + c.len ≤ frame_count st = rw e (omega arith) in
    work-sized st c false signals w f end

-- what is swept up to its end
abbrev Swept : Work → Chunk → Sweeping → List Float → Type 0
Swept w c z xs = PreparedBy w c z xs × ((n : ℕ) → audio_room w ≤ n → ReadyBy c n z xs)

pub whole-swept : (st : State) (b : Block) (signals : Signals) (z : Sweeping) (xs : List Float) {c : Chunk} {w : Work} → c ≡ whole_of b → w ≡ work_of st c false signals → Swept w c z xs
    → Swept (work_of st (whole_of b) false signals) (whole_of b) z xs
whole-swept st b signals z xs {c} {w} e f p =
    subst (λ (d : Chunk). Swept (work_of st d false signals) d z xs) e (subst (λ (u : Work). Swept u c z xs) f p)

-- its chunks

pub chunk-within : (b : Block) (i : ℕ) {c : Chunk} → c ≡ chunk_of b i → i < chunk_total b → b.start ≤ b.end → c.start + c.len ≤ b.start + (b.end - b.start)
chunk-within b i e h k = rw e (omega (arith, chunk_end b i b.end h (le_refl b.end)))

pub chunk-ready : (b : Block) (i size room : ℕ) (z : Sweeping) (xs : List Float) {c : Chunk} → c ≡ chunk_of b i → i < chunk_total b → b.start ≤ b.end → room ≡ size
    → ReadyBy (whole_of b) size z xs → ReadyBy c room z xs
chunk-ready b i size room z xs {c} e h k f r =
    ready-sooner z.field (whole_of b) c (z.control + z.count) size room xs z.leads.starts z.leads.steps z.leads.gains z.leads.offsets (chunk-within b i e h k) f r

pub glides-fit : (st : State) (g : Glides) (n : ℕ) → g ≡ glides_of st → stride_of st * engine_sources st ≤ n
    → (g.sources ≤ 128) × (g.stride ≤ 64) × (g.voices ≤ g.stride) × (g.stride * g.sources ≤ n)
glides-fit st g n e h = rw e (held-fit st (stride_of st) (engine_sources st) (voice_count st) n refl refl refl h)

pub steps-begin : (st : State) (m : Moving) (b : Block) (signals : Signals) (samples h g a v x t : List Float) → m ≡ moving_of st
    → world_of (moved_by st m) h g a v x t ≡ chunk_steps samples signals b 0 (world_of st h g a v x t)
steps-begin st m b signals samples h g a v x t e =
    ap (λ (s : State). world_of s h g a v x t) (sym (nothing-moved st m e)) ∙ steps-none samples signals b (world_of st h g a v x t)

pub moved-world : (st : State) (m : Moving) (r : State) (h g a v x t : List Float) (o : World) → r ≡ moved_by st m → world_of (moved_by st m) h g a v x t ≡ o → world_of r h g a v x t ≡ o
moved-world st m r h g a v x t o e f = ap (λ (s : State). world_of s h g a v x t) e ∙ f

-- ---- no control plans

tick-none : (st : State) (e : Env) (phase : ℕ) (v : List Float) → control_total st.program ≡ 0 → v ≡ tick_of st e phase v
unfolding tick_of turns
tick-none st e phase v h = rw h

rowed-none : (st : State) (i : ℕ) (h g a v b t : List Float) → control_total st.program ≡ 0 → world_of st h g a v b t ≡ rowed i (world_of st h g a v b t)
unfolding put_values rows_of_chunk
rowed-none st i h g a v b t e = rw e

-- ---- the step

module _ (st : State) (m : Moving) (c : Chunk) (signals : Signals) (samples h g a v x t : List Float) (none : control_total st.program ≡ 0) where
  -- once it has ticked
  abbrev primed : Moving
  primed = record { primed = cond c.tick true m.primed; velocity = m.velocity; key = m.key }

  now-none : (n : Moving) → control_total (moved_by st n).program ≡ 0
  unfolding with_velocity with_key with_primed
  now-none n = none

  ticks-not : c.tick ≡ false → moved_by st primed ≡ moved_by st m
  ticks-not e = rw e

  ticks : c.tick ≡ true → moved_by st primed ≡ with_primed (moved_by st m) true
  unfolding with_velocity with_key with_primed
  ticks e = rw e

  ticked-by : (snap k : Bool) → c.tick ≡ k → world_of (moved_by st primed) h g a v x t ≡ ticked samples signals c snap (world_of (moved_by st m) h g a v x t)
  ticked-by snap false e =
      ap (λ (s : State). world_of s h g a v x t) (ticks-not e) ∙ ticked-not (moved_by st m) c snap signals samples h g a v x t e
  ticked-by snap true e =
      ap (λ (s : State). world_of s h g a v x t) (ticks e)
      ∙ ticked-is (moved_by st m) c snap signals samples h g a v x t e v (tick-none (moved_by st m) _ c.phase v (now-none m))

  prepared : (b : Block) (z : Sweeping) (snap : Bool) → c.start + c.len ≤ b.start + (b.end - b.start) → PreparedBy (work_of st (whole_of b) false signals) (whole_of b) z samples
      → PreparedBy (work_of (moved_by st primed) c snap signals) c z samples
  unfolding with_velocity with_key with_primed
  prepared b z snap e p =
      prepared-sooner (work_of st (whole_of b) false signals) (work_of (moved_by st primed) c snap signals) (whole_of b) c z samples refl refl refl refl refl refl refl refl refl e p

  glided-by : (y k : List Float) (gl : Glides) → gl ≡ glides_of st → k ≡ held_in gl m (moved_in m c) h
      → world_of (moved_by st (moved_in m c)) k g a v y t ≡ glided c.len (world_of (moved_by st primed) h g a v y t)
  unfolding with_velocity with_key with_primed
  glided-by y k gl e f =
      let z : k ≡ held_in (glides_of st) m (moved_in m c) h = f ∙ ap (λ (l : Glides). held_in l m (moved_in m c) h) e in
      glided-is c.len (moved_by st primed) h g a v y t _ k (stride_of st) (engine_sources st) (voice_count st) (advanced m.velocity c.len) (advanced m.key c.len) refl refl refl refl refl refl z

  -- THE STEP of a chunk that ends within the block
  pub only_step : (i : ℕ) (b : Block) (z : Sweeping) (r : Moving) (gl : Glides) (y k : List Float) → c.start + c.len ≤ b.start + (b.end - b.start)
      → PreparedBy (work_of st (whole_of b) false signals) (whole_of b) z samples
      → ((u : State) (w : Work) (hh bb vv : List Float) → Installed u w → PreparedBy w c z samples → sounds vv y ≡ audio_of u (work_env w hh g a bb samples) c (sounds vv x))
      → gl ≡ glides_of st → r ≡ moved_in m c → k ≡ held_in gl m r h
      → world_of (moved_by st r) k g a v y t ≡ chunk_step samples signals i c (world_of (moved_by st m) h g a v x t)
  only_step i b z r gl y k e p f l q j =
      let w : World = world_of (moved_by st m) h g a v x t in
      let snap : Bool = snap_at i w in
      let held : k ≡ held_in gl m (moved_in m c) h = j ∙ ap (λ (n : Moving). held_in gl m n h) q in
      let last : world_of (moved_by st r) k g a v y t ≡ world_of (moved_by st (moved_in m c)) k g a v y t = ap (λ (n : Moving). world_of (moved_by st n) k g a v y t) q in
      step_is samples signals i c snap w (world_of (moved_by st primed) h g a v x t) (world_of (moved_by st primed) h g a v x t) (world_of (moved_by st primed) h g a v y t)
      (world_of (moved_by st r) k g a v y t)
      refl
      (ticked-by snap c.tick refl)
      (rowed-none (moved_by st primed) i h g a v x t (now-none primed))
      (sounded-is (moved_by st primed) c snap signals (work_of (moved_by st primed) c snap signals) refl samples h g a v x t v y
      (λ u n. f u (work_of (moved_by st primed) c snap signals) h t v n (prepared b z snap e p)))
      (last ∙ glided-by y k gl l held)
