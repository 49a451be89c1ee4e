-- The block, from what its parts ensure. Assumes nothing.
use mathlib.Core.Path.{◌≡◌, refl, sym, ap, ◌∙◌}
use mathlib.Core.Logic.{◌≢◌}
use mathlib.Core.Bool.{true, false, cond}
use mathlib.Core.List.{List}
use Prim.Native.Nat.{ℕ, zero, suc, ◌+◌, ◌-◌, ◌*◌, ◌%◌, ◌≤◌, ◌<◌}
use native.Mathlib.Omega.{arith}
use borrow.Author.Tests.{ne_eqb, lt-ltb, le-ltb}
use lib.Dec.{eqb}
use lib.Ieee.{Float}
use Rattle.config.specs.Sizes.{most_chunks}
use Rattle.voice.specs.declared.Marks.{Marks}
use Rattle.voice.specs.Marks.{marks_cleared}
use Rattle.state.specs.declared.Block.{Block}
use Rattle.state.specs.declared.Chunk.{Chunk}
use Rattle.state.specs.declared.SignalPart.{SignalPart}
use Rattle.state.specs.declared.Signals.{Signals}
use Rattle.state.specs.declared.State.{State}
use Rattle.model.specs.Counts.{voice_count, frame_count, stride_of, chunks_most, engine_sources, plan_total, route_total}
use Rattle.model.specs.World.{World, world_of}
use Rattle.model.specs.States.{with_marks, with_draw, with_phase, with_block, put_state, put_globals, put_values}
use Rattle.model.specs.Chunks.{chunk_total, chunk_of}
use Rattle.model.specs.Process.{Drawn, values_of, put_drawn, chunk_step, chunk_steps, block_of, over_range}
use Rattle.model.specs.Need.{values_rows}
use Rattle.block_chunks.proofs.Chunks.{inside}
use Rattle.block_opening.specs.declared.Lengths.{Lengths}
use Rattle.block_opening.specs.Codes.{counts_of, code_by}
use Rattle.block_opening.specs.Marks.{load_in, load_if}
use Rattle.block_opening.specs.Draws.{drawn_routes}
use Rattle.block_opening.proofs.Codes.{accepted}
use Rattle.block_opening.proofs.Worlds.{loaded-by-parts, drawn-by-parts}
use Rattle.block.specs.Room.{Room, Keeps}
use Rattle.block.specs.Scenes.{drawn_of}
use Rattle.block.specs.Worlds.{loaded_world, drawn_world, closed_world, routeless_world, stepped_world, routed_world, run_world, answered_world}
use Rattle.block.proofs.Steps.{sources-kept, values-kept, audio-kept, chunks-kept, frames-kept}

-- ---- the chunks of a block

pub chunk_end : (b : Block) (i n : ℕ) → i < chunk_total b → b.end ≤ n → (chunk_of b i).start + (chunk_of b i).len ≤ n
unfolding chunk_of
chunk_end b zero n h k = let f = inside b 0 h in omega (arith, f.some)
chunk_end b (suc i) n h k = let f = inside b (suc i) h in omega (arith, f.some, f.room)

pub chunk-below : (b : Block) (i n : ℕ) → i < chunk_total b → b.end ≤ n → i < most_chunks n
chunk-below b i n h k = let f = inside b i h in omega (arith, f.some, f.room)

module _ (samples : List Float) (signals : Signals) (b : Block) (w : World) where
  pub steps-none : w ≡ chunk_steps samples signals b 0 w
  unfolding chunk_steps
  steps-none = refl

  steps_next : (i : ℕ) → chunk_step samples signals i (chunk_of b i) (chunk_steps samples signals b i w) ≡ chunk_steps samples signals b (i + 1) w
  unfolding chunk_steps
  steps_next i = let q : suc i ≡ i + 1 = omega arith in ap (λ (k : ℕ). chunk_steps samples signals b k w) q

  pub steps-more : (i : ℕ) (c : Chunk) (x o : World) → x ≡ chunk_steps samples signals b i w → c ≡ chunk_of b i → o ≡ chunk_step samples signals i c x
      → o ≡ chunk_steps samples signals b (i + 1) w
  steps-more i c x o e f g =
      g ∙ ap (chunk_step samples signals i c) e ∙ ap (λ (d : Chunk). chunk_step samples signals i d (chunk_steps samples signals b i w)) f ∙ steps_next i

  pub steps_all : (i n : ℕ) (o : World) → o ≡ chunk_steps samples signals b i w → i ≡ n → n ≡ chunk_total b → o ≡ chunk_steps samples signals b (chunk_total b) w
  steps_all i n o e f g = e ∙ ap (λ (k : ℕ). chunk_steps samples signals b k w) (f ∙ g)

-- what a step asks for
pub step-ready : {st next : State} → Keeps st next → (b : Block) (i h h' v v' s s' : ℕ) (c : Chunk) → h' ≡ h → v' ≡ v → s' ≡ s → Room st h v s → b.end ≤ frame_count st
    → i < chunk_total b → c ≡ chunk_of b i → Room next h' v' s' × (i < chunks_most next) × (c.start + c.len ≤ frame_count next)
step-ready {st} {next} k b i h h' v v' s s' c eh ev es r he hi ec =
    let low = chunk-below b i (frame_count st) hi he in
    let in-frames = chunk_end b i (frame_count st) hi he in (
      record { held = omega (arith, sources-kept k, r.held); values = omega (arith, values-kept k, r.values); audio = omega (arith, audio-kept k, r.audio) },
      omega (arith, chunks-kept k, low),
      rw ec (omega (arith, frames-kept k, in-frames)),
    )

-- what the steps ask for
pub steps-ready : {st next : State} → Keeps st next → (b : Block) (start end h v v' s : ℕ) → v' ≡ v → Room st h v s → b ≡ block_of st start end → start < end → end ≤ frame_count st
    → Room next h v' s × (b.start ≤ b.end) × (b.end ≤ frame_count next)
steps-ready k b start end h v v' s ev r eb hs he =
    (record { held = omega (arith, sources-kept k, r.held); values = omega (arith, values-kept k, r.values); audio = omega (arith, audio-kept k, r.audio) }, rw eb (omega arith), rw eb (omega (arith, frames-kept k, he)))

-- ---- open and close

module _ (st : State) (n stride chunks plans routes : ℕ) where
  pub draws-fit : (long : ℕ) → routes ≡ route_total st.program → plans ≡ plan_total st.program → n ≡ voice_count st → stride ≡ stride_of st → chunks ≡ chunks_most st
      → values_of st ≤ long
      → (1 ≤ stride) × (n ≤ stride) × (stride ≤ 64) × (chunks ≤ 130) × (plans ≤ 64) × (routes ≤ 64) × (stride * values_rows chunks plans routes ≤ long)
  draws-fit long er ep en es ec h = (omega arith, omega arith, omega arith, omega arith, omega arith, omega arith, rw (er, ep, es, ec) h)

  pub draws-are : (v : List Float) (x : Drawn) → routes ≡ route_total st.program → plans ≡ plan_total st.program → n ≡ voice_count st → stride ≡ stride_of st
      → chunks ≡ chunks_most st → x ≡ drawn_routes st.marks.renoted n stride chunks plans st.program.route routes (drawn_of st.draw v)
      → x ≡ drawn_routes st.marks.renoted (voice_count st) (stride_of st) (chunks_most st) (plan_total st.program) st.program.route (route_total st.program) (drawn_of st.draw v)
  draws-are v x er ep en es ec e = e ∙ rw (er, ep, en, es, ec)

module _ (st : State) (h g a v b t : List Float) where
  pub loaded-is : (m : List Float) (n : ℕ) (x : Float) → n ≡ engine_sources st → x ≡ load_in st.voices st.config.voices st.limit
      → m ≡ load_if st.mark x n g → world_of st h m a v b t ≡ loaded_world (world_of st h g a v b t)
  unfolding loaded_world put_globals
  loaded-is m n x en ex em = rw (em, ex, en) (sym (loaded-by-parts (world_of st h g a v b t)))

  pub drawn-not : st.marks.any_renoted ≡ false → world_of st h g a v b t ≡ drawn_world (world_of st h g a v b t)
  unfolding drawn_world
  drawn-not e = rw e

  pub drawn-is : st.marks.any_renoted ≡ true → (d : ℕ) (m : List Float)
      → drawn_of d m ≡ drawn_routes st.marks.renoted (voice_count st) (stride_of st) (chunks_most st) (plan_total st.program) st.program.route (route_total st.program) (drawn_of st.draw v)
      → world_of (with_draw st d) h g a m b t ≡ drawn_world (world_of st h g a v b t)
  unfolding drawn_world put_values put_state
  drawn-is e d m f =
      let w = world_of st h g a v b t in
      let r = drawn_routes st.marks.renoted (voice_count st) (stride_of st) (chunks_most st) (plan_total st.program) st.program.route (route_total st.program) (drawn_of st.draw v) in
      let x : put_drawn w r ≡ cond st.marks.any_renoted (put_drawn w r) w = rw e in
      ap (put_drawn w) f ∙ x ∙ sym (drawn-by-parts w)

  pub closed_is : (block : Block) (len phase : ℕ) (marks : Marks) → phase ≡ (st.phase % 32 + len % 32) % 32 → marks ≡ marks_cleared st.marks
      → world_of (with_block (with_marks (with_phase st phase) marks) block) h g a v b t ≡ closed_world block len (world_of st h g a v b t)
  unfolding closed_world put_state
  closed_is block len phase marks e f =
      let same : phase ≡ (st.phase % 32 + len) % 32 = omega arith in
      rw (same, f)

pub drawn-keeps : (st : State) (d : ℕ) → Keeps st (with_draw st d)
unfolding with_draw
drawn-keeps st d = record { config = refl; sources = refl; program = refl }

-- ---- the block

module _ (samples : List Float) (signals : Signals) (start end : ℕ) (w : World) where
  pub routed-is : (b : Block) (x y z o : World) → b ≡ block_of w.state start end → x ≡ loaded_world w → y ≡ drawn_world x
      → z ≡ chunk_steps samples signals b (chunk_total b) y → o ≡ closed_world b (end - start) z → o ≡ routed_world samples signals start end w
  unfolding routed_world stepped_world
  routed-is b x y z o eb ex ey ez eo =
      eo
      ∙ ap (closed_world b (end - start)) (ez ∙ ap (chunk_steps samples signals b (chunk_total b)) (ey ∙ ap drawn_world ex))
      ∙ ap (λ (d : Block). stepped_world samples signals d (end - start) w) eb

  pub run_none : w.state.program.routes ≡ 0 → (o : World) → o ≡ routeless_world (end - start) w → o ≡ run_world samples signals start end w
  unfolding run_world
  run_none e o f = f ∙ rw e

  pub run-some : w.state.program.routes ≢ 0 → (o : World) → o ≡ routed_world samples signals start end w → o ≡ run_world samples signals start end w
  unfolding run_world
  run-some e o f =
      let no : eqb (route_total w.state.program) 0 ≡ false = ne_eqb (route_total w.state.program) 0 (λ z. e (omega arith)) in
      f ∙ rw no

  pub answered-refused : (code : ℕ) → code ≢ 0 → w ≡ answered_world code samples signals start end w
  unfolding answered_world
  answered-refused code n = rw (ne_eqb code 0 n)

  pub answered-empty : (code : ℕ) → code ≡ 0 → end ≤ start → w ≡ answered_world code samples signals start end w
  unfolding answered_world
  answered-empty code z n = rw (z, le-ltb start end n)

  pub answered-run : (code : ℕ) → code ≡ 0 → start < end → (o : World) → o ≡ run_world samples signals start end w
      → o ≡ answered_world code samples signals start end w
  unfolding answered_world
  answered-run code z n o e = e ∙ rw (z, lt-ltb start end n)

  pub run_is : run_world samples signals start end w ≡ over_range samples signals start end w
  unfolding run_world routeless_world routed_world stepped_world closed_world drawn_world loaded_world
  run_is = refl

-- a block that is not refused has room
pub has_room : (st : State) (l : Lengths) (parts : List SignalPart) (end : ℕ) → code_by (counts_of st) l parts end ≡ 0
    → Room st l.held l.values l.audio × ((engine_sources st ≤ l.globals) × (end ≤ frame_count st))
has_room st l parts end h =
    let a = accepted (counts_of st) l parts end h in
    (record { held = a.held; values = a.values; audio = a.audio }, (a.globals, a.frames))
