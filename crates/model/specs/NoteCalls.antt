-- Notes on an engine (engine.rs 450-526; document 01, Chunk and value). Definitions only.
use Rattle.std.specs.Prelude.{Bool, true, false, not, cond, ◌&&◌, ◌||◌, List, [], ◌∷◌, ℕ, zero, suc, ◌+◌, leb, ltb}
use Rattle.std.specs.Prelude.{length, set, pos, Float}
use Rattle.std.specs.Float.{fin}
use Rattle.draw.specs.Xorshift.{step, draw_of}
use Rattle.refusal.specs.Judge.{Row, ◌when◌, judged}
use Rattle.list.specs.Rows.{row_at}
use Rattle.number.specs.Number.{zero32, one32, over, finite}
use Rattle.curve_table.specs.Table.{points, lookup_of, cell_of, part_of, between, diagonal_at}
use Rattle.slots_tables.specs.Tables.{velocity_place, key_place}
use Rattle.voice.specs.declared.Legato.{Legato}
use Rattle.voice.specs.declared.Notes.{Notes}
use Rattle.voice.specs.Voices.{sounded_on, ended_of, is_sounding}
use Rattle.voice.specs.Marks.{marks_on, marks_ended}
use Rattle.voice.specs.Notes.{legato_time, glides_to, value_of, set_note, ended_note}
use Rattle.state.specs.declared.Kind.{Kind}
use Rattle.state.specs.declared.Kind.TheVariants as K
use Rattle.state.specs.declared.NoteCurve.{NoteCurve}
use Rattle.state.specs.declared.NoteCurve.TheVariants as N
use Rattle.state.specs.Answers.{Flag}
use Rattle.state.specs.declared.State.{State}
use Rattle.model.specs.Counts.{voice_count, engine_sources}
use Rattle.model.specs.World.{World, mark_at, held_place, held_of, is_velocity, is_key, is_release, is_random}
use Rattle.model.specs.States.{with_voices, with_marks, with_velocity, with_key, with_alternate, with_draw, put_state}
use Rattle.model.specs.States.{put_held}
use Rattle.model.specs.Process.{tables_need_of}
use Rattle.model.specs.Settings.{Done, done_by, held_short, number_row}

-- what a note brings (engine.rs 68-103)
pub record Note : Type 0 where
  -- the key's number, 0 to 127
  pub key : Float
  -- its velocity, 0 to 1
  pub velocity : Float
  -- the voice sounds on
  pub legato : Bool
  -- how long a legato note glides
  pub glide_seconds : Float

-- engine.rs 94-102: not legato, with 0 seconds
unfoldable pub new_note : Float → Float → Note
new_note key velocity = record { key = key; velocity = velocity; legato = false; glide_seconds = zero32 }

abbrev pub voice_row : State → ℕ → Row
voice_row st v = 2 when leb (voice_count st) v

-- ---- note curves: "Linear" answers what the diagonal table would

unfoldable pub note_curve : List Float → ℕ → NoteCurve → Float → Float
unfolding lookup_of cell_of part_of
note_curve tables place N.Linear x = between (diagonal_at (cell_of x)) (diagonal_at (cell_of x + 1)) (part_of x)
note_curve tables place N.Table x = lookup_of (row_at tables points place) x

abbrev pub most_key32 : Float
most_key32 = fin false 127 (pos 0)

abbrev pub velocity_target : World → Note → Float
velocity_target w n = note_curve w.tables velocity_place w.state.program.velocity n.velocity

abbrev pub key_target : World → Note → Float
key_target w n = note_curve w.tables key_place w.state.program.key (over n.key most_key32)

-- ---- note-on, part after part

abbrev pub legato_of : World → Note → Legato
legato_of w n = legato_time n.legato w.state.program.glide n.glide_seconds

-- a value set at once is written to the sources of its kind; one that glides is not (engine.rs 701-731)
abbrev pub written_at : State → (Kind → Bool) → Notes → ℕ → Float → Legato → List Float → List Float
written_at st p old v target time m = cond (glides_to (value_of old v) target time) m (held_of st p v target m)

-- sounding, renoted, and fresh unless legato
abbrev pub note_begun : ℕ → Note → World → World
note_begun v n w =
    put_state w (with_marks (with_voices w.state (sounded_on w.state.voices v))
    (marks_on w.state.marks v n.legato))

-- the velocity, unless the note is legato and the program does not set it then
abbrev pub velocity_set : ℕ → Note → World → World
velocity_set v n w =
    let st = w.state in
    cond (not n.legato || st.program.velocity_legato)
    (put_held (put_state w (with_velocity st
    (set_note st.velocity v (velocity_target w n) (legato_of w n) st.config.sample_rate)))
    (written_at st is_velocity st.velocity v (velocity_target w n) (legato_of w n) w.held))
    w

abbrev pub key_set : ℕ → Note → World → World
key_set v n w =
    let st = w.state in
    put_held (put_state w (with_key st (set_note st.key v (key_target w n) (legato_of w n) st.config.sample_rate)))
    (written_at st is_key st.key v (key_target w n) (legato_of w n) w.held)

-- "one for each Random source at note-on", ascending, of the first k sources
unfoldable pub randoms_set : ℕ → ℕ → World → World
randoms_set v zero w = w
randoms_set v (suc k) w =
    let b = randoms_set v k w in
    let d = step b.state.draw in
    cond (is_random (mark_at w.state k).kind)
    (put_held (put_state b (with_draw b.state d)) (set b.held (held_place w.state k v) (draw_of d)))
    b

-- alternate flips, engine-wide, and is 1 or 0 in the lane, the inverse one the other way round
abbrev pub alternate_in : Bool → Kind → Float → Float
alternate_in on K.Signal x = x
alternate_in on K.Audio x = x
alternate_in on K.Held x = x
alternate_in on K.Velocity x = x
alternate_in on K.Key x = x
alternate_in on K.ReleaseVelocity x = x
alternate_in on K.Random x = x
alternate_in on (K.Alternate inverse) x = cond (cond inverse (not on) on) one32 zero32
alternate_in on K.RandomPerRoute x = x
alternate_in on K.VoiceLoad x = x
alternate_in on K.Constant x = x

abbrev pub is_alternate : Kind → Bool
is_alternate K.Signal = false
is_alternate K.Audio = false
is_alternate K.Held = false
is_alternate K.Velocity = false
is_alternate K.Key = false
is_alternate K.ReleaseVelocity = false
is_alternate K.Random = false
is_alternate (K.Alternate inverse) = true
is_alternate K.RandomPerRoute = false
is_alternate K.VoiceLoad = false
is_alternate K.Constant = false

unfoldable pub alternates : State → Bool → ℕ → ℕ → List Float → List Float
alternates st on v zero m = m
alternates st on v (suc k) m =
    let b = alternates st on v k m in
    cond (is_alternate (mark_at st k).kind) (set b (held_place st k v) (alternate_in on (mark_at st k).kind zero32)) b

abbrev pub alternated : ℕ → World → World
alternated v w =
    let on = not w.state.alternate in
    put_held (put_state w (with_alternate w.state on)) (alternates w.state on v (engine_sources w.state) w.held)

abbrev pub released_to : ℕ → Float → World → World
released_to v x w = put_held w (held_of w.state is_release v x w.held)

-- in this order
abbrev pub noted_on : ℕ → Note → World → World
noted_on v n w =
    released_to v zero32 (alternated v
    (randoms_set v (engine_sources w.state) (key_set v n (velocity_set v n (note_begun v n w)))))

-- ---- the calls

abbrev pub note_finite : Note → Bool
note_finite n = finite n.key && (finite n.velocity && finite n.glide_seconds)

abbrev pub note_on_rows : World → ℕ → Note → List Row
note_on_rows w v n =
    voice_row w.state v ∷ 6 when not (note_finite n) ∷ 14 when
    (held_short w || ltb (length w.tables) (tables_need_of w.state)) ∷ []

unfoldable pub note_on : World → ℕ → Note → Done
unfolding done_by note_curve randoms_set alternates
note_on w v n = done_by (note_on_rows w v n) w (noted_on v n w)

-- engine.rs 490-498: active or not
abbrev pub note_off_rows : World → ℕ → Float → List Row
note_off_rows w v x = voice_row w.state v ∷ number_row x ∷ 14 when held_short w ∷ []

unfoldable pub note_off : World → ℕ → Float → Done
unfolding done_by
note_off w v x = done_by (note_off_rows w v x) w (released_to v x w)

-- engine.rs 501-520
abbrev pub ended : State → ℕ → State
ended st v =
    with_key
    (with_velocity (with_marks (with_voices st (ended_of st.voices v)) (marks_ended st.marks v))
    (ended_note st.velocity v))
    (ended_note st.key v)

abbrev pub voice_ended_rows : World → ℕ → List Row
voice_ended_rows w v = voice_row w.state v ∷ 14 when held_short w ∷ []

unfoldable pub voice_ended : World → ℕ → Done
unfolding done_by
voice_ended w v = done_by (voice_ended_rows w v) w (put_state w (ended w.state v))

-- engine.rs 524-526
unfoldable pub is_active : State → ℕ → Flag
unfolding judged
is_active st v =
    let code = judged (voice_row st v ∷ []) in
    record { code = code; on = cond (leb (voice_count st) v) false (is_sounding st.voices v) }
