-- The parts of a block that open and close it, of a world, by the definitions that this crate's functions meet. Assumes nothing.
use mathlib.Core.Path.{◌≡◌, sym, ap, ◌∙◌}
use mathlib.Core.Bool.{cond}
use Prim.Native.Nat.{ℕ}
use lib.Ieee.{Float}
use Rattle.voice.specs.Notes.{advanced}
use Rattle.model.specs.Counts.{voice_count, stride_of, chunks_most, engine_sources, plan_total, control_total, route_total}
use Rattle.model.specs.World.{World, is_velocity, is_key, load_by}
use Rattle.model.specs.States.{with_velocity, with_key, put_state, put_held, put_globals, put_values}
use Rattle.model.specs.Process.{Drawn, loaded, drawn, put_drawn, glided, rowed}
use Rattle.block_opening.specs.Marks.{load_in, load_if, moved_if}
use Rattle.block_opening.specs.Draws.{drawn_routes}
use Rattle.block_opening.specs.Rows.{chunk_rows}
use Rattle.block_opening.proofs.Marks.{load-of-state, load-by-marks, moved-by-marks}
use Rattle.block_opening.proofs.Draws.{drawn_of, routes-of-state}
use Rattle.block_opening.proofs.Rows.{rows-of-state}

module _ (w : World) where
  pub loaded-by-parts :
      loaded w ≡ put_globals w (load_if w.state.mark (load_in w.state.voices w.state.config.voices w.state.limit) (engine_sources w.state) w.globals)
  loaded-by-parts =
      let st = w.state in
      ap (put_globals w)
      (ap (λ (x : Float). load_by st x (engine_sources st) w.globals) (sym (load-of-state st))
      ∙ sym (load-by-marks st (load_in st.voices st.config.voices st.limit) (engine_sources st) w.globals))

  pub drawn-by-parts :
      drawn w
      ≡ cond w.state.marks.any_renoted
      (put_drawn w (drawn_routes w.state.marks.renoted (voice_count w.state) (stride_of w.state) (chunks_most w.state) (plan_total w.state.program) w.state.program.route (route_total w.state.program) (drawn_of w.state.draw w.values)))
      w
  drawn-by-parts =
      let st = w.state in
      ap (λ (d : Drawn). cond st.marks.any_renoted (put_drawn w d) w)
      (sym (routes-of-state st (route_total st.program) (drawn_of st.draw w.values)))

  pub rowed-by-parts : (i : ℕ)
      → rowed i w ≡ put_values w (chunk_rows w.state.program.plan (stride_of w.state) (chunks_most w.state) i (control_total w.state.program) w.values)
  rowed-by-parts i = ap (put_values w) (sym (rows-of-state w.state i (control_total w.state.program) w.values))

  pub glided-by-parts : (frames : ℕ)
      → glided frames w
      ≡ (let st = w.state in
      let v = advanced st.velocity frames in
      let k = advanced st.key frames in
      let m = moved_if st.mark is_velocity (stride_of st) (engine_sources st) st.velocity.glide v.value (voice_count st) w.held in
      put_held (put_state w (with_key (with_velocity st v) k)) (moved_if st.mark is_key (stride_of st) (engine_sources st) st.key.glide k.value (voice_count st) m))
  unfolding glided
  glided-by-parts frames =
      let st = w.state in
      let v = advanced st.velocity frames in
      let k = advanced st.key frames in
      rw (moved-by-marks st is_velocity st.velocity v (voice_count st) w.held, moved-by-marks st is_key st.key k (voice_count st))
