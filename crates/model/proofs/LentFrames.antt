-- One frame lemma a call: what it does on the memories lent to it alone, the others [], is what it does on the whole world. Assumes nothing.
use mathlib.Core.Path.{◌≡◌, refl, ap, ◌∙◌}
use mathlib.Core.Bool.{Bool, true, false, not, cond, ◌||◌}
use mathlib.Core.List.{List, []}
use Prim.Native.Nat.{ℕ, zero, suc, max}
use lib.Dec.{eqb}
use lib.ListN.{set, replicate}
use lib.Ieee.{Float}
use Rattle.draw.specs.Xorshift.{step, draw_of}
use Rattle.number.specs.Number.{zero32}
use Rattle.refusal.specs.Judge.{Row, judged}
use Rattle.list.specs.Rows.{on_row}
use Rattle.voice.specs.Notes.{set_note}
use Rattle.model.specs.Feeds.{is_voice}
use Rattle.model.specs.Counts.{stride_of, engine_sources}
use Rattle.model.specs.World.{World, world_of, mark_at, held_place, is_velocity, is_random}
use Rattle.model.specs.States.{with_gains, with_limit, with_draw, with_velocity, put_state, put_held, put_globals, put_bases}
use Rattle.model.specs.Settings.{done_by, held_rows, held_world, set_held, voice_held_rows, set_voice_held, base_rows, set_base, with_amount, with_output, gain_rows, set_amount, set_output, set_voice_limit, set_draw}
use Rattle.model.specs.NoteCalls.{Note, velocity_target, legato_of, written_at, note_begun, velocity_set, key_set, randoms_set, alternated, released_to, noted_on, note_on_rows, note_on, note_off_rows, note_off, ended, voice_ended_rows, voice_ended}

-- a choice inside a world that has the other memories
over-cond : (f : World → World) (b : Bool) (x y : World) → cond b (f x) (f y) ≡ f (cond b x y)
over-cond f true x y = refl
over-cond f false x y = refl

done-over : (f : World → World) (rows : List Row) (w next : World) → (done_by rows (f w) (f next)).world ≡ f (done_by rows w next).world
unfolding done_by
done-over f rows w next = over-cond f (eqb (judged rows) 0) next w

module _ (w : World) where
  -- ---- held and global numbers are lent

  abbrev pub held_globals : World
  held_globals = world_of w.state w.held w.globals [] [] [] []

  abbrev pub over_held_globals : World → World
  over_held_globals u = world_of u.state u.held u.globals w.bases w.values w.audio w.tables

  pub held-frame : (i : ℕ) (x : Float) → (set_held w i x).world ≡ over_held_globals (set_held held_globals i x).world
  unfolding set_held put_held put_globals
  held-frame i x =
      let l = held_globals in
      let row = on_row l.held (stride_of l.state) i (replicate (stride_of l.state) x) in
      ap (λ (next : World). (done_by (held_rows w i x) w next).world)
      (over-cond over_held_globals (is_voice (mark_at w.state i).scope) (put_held l row) (put_globals l (set l.globals i x)))
      ∙ done-over over_held_globals (held_rows l i x) l (held_world l i x)

  -- ---- held numbers are

  abbrev pub held_alone : World
  held_alone = world_of w.state w.held [] [] [] [] []

  abbrev pub over_held : World → World
  over_held u = world_of u.state u.held w.globals w.bases w.values w.audio w.tables

  pub voice-held-frame : (i v : ℕ) (x : Float) → (set_voice_held w i v x).world ≡ over_held (set_voice_held held_alone i v x).world
  unfolding set_voice_held put_held
  voice-held-frame i v x =
      let l = held_alone in
      done-over over_held (voice_held_rows l i v x) l (put_held l (set l.held (held_place l.state i v) x))

  pub note-off-frame : (v : ℕ) (x : Float) → (note_off w v x).world ≡ over_held (note_off held_alone v x).world
  unfolding note_off put_held
  note-off-frame v x = done-over over_held (note_off_rows held_alone v x) held_alone (released_to v x held_alone)

  -- ---- bases are

  abbrev pub bases_alone : World
  bases_alone = world_of w.state [] [] w.bases [] [] []

  abbrev pub over_bases : World → World
  over_bases u = world_of u.state w.held w.globals u.bases w.values w.audio w.tables

  pub base-frame : (d : ℕ) (x : Float) → (set_base w d x).world ≡ over_bases (set_base bases_alone d x).world
  unfolding set_base put_bases
  base-frame d x = let l = bases_alone in done-over over_bases (base_rows l d x) l (put_bases l (set l.bases d x))

  -- ---- nothing is

  abbrev pub nothing_lent : World
  nothing_lent = world_of w.state [] [] [] [] [] []

  abbrev pub over_nothing : World → World
  over_nothing u = world_of u.state w.held w.globals w.bases w.values w.audio w.tables

  pub amount-frame : (n : ℕ) (x : Float) → (set_amount w n x).world ≡ over_nothing (set_amount nothing_lent n x).world
  unfolding set_amount put_state
  amount-frame n x =
      let l = nothing_lent in
      done-over over_nothing (gain_rows n x) l (put_state l (with_gains l.state (with_amount l.state.gains n x)))

  pub output-frame : (n : ℕ) (x : Float) → (set_output w n x).world ≡ over_nothing (set_output nothing_lent n x).world
  unfolding set_output put_state
  output-frame n x =
      let l = nothing_lent in
      done-over over_nothing (gain_rows n x) l (put_state l (with_gains l.state (with_output l.state.gains n x)))

  pub limit-frame : (n : ℕ) → (set_voice_limit w n).world ≡ over_nothing (set_voice_limit nothing_lent n).world
  unfolding set_voice_limit put_state
  limit-frame n = done-over over_nothing [] nothing_lent (put_state nothing_lent (with_limit w.state (max n 1)))

  pub draw-frame : (x : ℕ) → (set_draw w x).world ≡ world_of (with_draw w.state x) w.held w.globals w.bases w.values w.audio w.tables
  unfolding set_draw done_by judged put_state
  draw-frame x = refl

  -- held numbers, to be read only
  pub ended-frame : (v : ℕ) → (voice_ended w v).world ≡ over_nothing (voice_ended held_alone v).world
  unfolding voice_ended put_state
  ended-frame v = done-over over_nothing (voice_ended_rows held_alone v) held_alone (put_state held_alone (ended w.state v))

  -- ---- held numbers and tables are

  abbrev pub held_tables : World
  held_tables = world_of w.state w.held [] [] [] [] w.tables

  abbrev pub over_held_tables : World → World
  over_held_tables u = world_of u.state u.held w.globals w.bases w.values w.audio u.tables

  velocity-over : (v : ℕ) (n : Note) (u : World) → velocity_set v n (over_held_tables u) ≡ over_held_tables (velocity_set v n u)
  unfolding put_held put_state
  velocity-over v n u =
      let st = with_velocity u.state (set_note u.state.velocity v (velocity_target u n) (legato_of u n) u.state.config.sample_rate) in
      let m = written_at u.state is_velocity u.state.velocity v (velocity_target u n) (legato_of u n) u.held in
      over-cond over_held_tables (not n.legato || u.state.program.velocity_legato) (put_held (put_state u st) m) u

  randoms-over : (v k : ℕ) (u : World) → randoms_set v k (over_held_tables u) ≡ over_held_tables (randoms_set v k u)
  unfolding randoms_set put_held put_state
  randoms-over v zero u = refl
  randoms-over v (suc k) u = ap drawn_by (randoms-over v k u) ∙ over-cond over_held_tables (is_random (mark_at u.state k).kind) (drawn_in (randoms_set v k u)) (randoms_set v k u)
    where
      drawn_in : World → World
      drawn_in b =
          put_held (put_state b (with_draw b.state (step b.state.draw)))
          (set b.held (held_place u.state k v) (draw_of (step b.state.draw)))

      drawn_by : World → World
      drawn_by b = cond (is_random (mark_at u.state k).kind) (drawn_in b) b

  noted-over : (v : ℕ) (n : Note) (u : World) → noted_on v n (over_held_tables u) ≡ over_held_tables (noted_on v n u)
  unfolding put_held put_state
  noted-over v n u =
      let s = engine_sources u.state in
      let a = note_begun v n u in
      ap (λ (x : World). released_to v zero32 (alternated v (randoms_set v s (key_set v n x)))) (velocity-over v n a)
      ∙ ap (λ (x : World). released_to v zero32 (alternated v x)) (randoms-over v s (key_set v n (velocity_set v n a)))

  pub note-on-frame : (v : ℕ) (n : Note) → (note_on w v n).world ≡ over_held_tables (note_on held_tables v n).world
  unfolding note_on
  note-on-frame v n =
      ap (λ (next : World). (done_by (note_on_rows w v n) w next).world) (noted-over v n held_tables)
      ∙ done-over over_held_tables (note_on_rows held_tables v n) held_tables (noted_on v n held_tables)
