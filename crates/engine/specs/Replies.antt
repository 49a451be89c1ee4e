-- What the readers of an engine say: number and values of each case (document 01, The form to use in each place). The
-- numbers of the cases stand in `model`. Definitions only.
use Rattle.std.specs.Prelude.{◌&&◌, ◌||◌, List, [], ◌∷◌, ℕ, ltb, length, Float, Option, Some, None}
use Rattle.refusal.specs.Judge.{Row, ◌when◌}
use Rattle.reply.specs.Reply.{Reply, accepts, only, by_rows}
use Rattle.state.specs.declared.Chunk.{Chunk}
use Rattle.state.specs.Output.{Output}
use Rattle.state.specs.Output as O
use Rattle.state.specs.Reading.{Reading}
use Rattle.state.specs.Reading as R
use Rattle.state.specs.Ramped.{Ramped}
use Rattle.state.specs.Ramped as M
use Rattle.state.specs.declared.State.{State}
use Rattle.model.specs.Counts.{frame_count}
use Rattle.model.specs.Chunks.{chunk_total, chunk_of}
use Rattle.model.specs.NoteCalls.{voice_row}
use Rattle.model.specs.Outputs.{output_number, reading_number, ramped_number, values_short, audio_short, shape_of}
use Rattle.model.specs.Outputs.{is_audio_plan}
use Rattle.model.specs.Outputs.{is_control_plan, audio_number, to_number, has_latest, latest_number, ramp_length}

-- ---- each case

abbrev pub chunk_reply : Option Chunk → Reply Chunk
chunk_reply None = accepts []
chunk_reply (Some c) = accepts (c ∷ [])

-- the width of its rows, and of a control destination the number of chunks
abbrev pub output_values : Output → List ℕ
output_values (O.Refused n) = []
output_values O.Unmodulated = []
output_values (O.Audio w) = w ∷ []
output_values (O.Control w n) = w ∷ n ∷ []

abbrev pub output_reply : Output → Reply ℕ
output_reply o = record { number = output_number o; values = output_values o }

abbrev pub reading_values : Reading → List Float
reading_values (R.Refused n) = []
reading_values R.Nothing = []
reading_values (R.Value x) = x ∷ []

abbrev pub reading_reply : Reading → Reply Float
reading_reply r = record { number = reading_number r; values = reading_values r }

-- how many numbers were written
abbrev pub ramped_values : Ramped → List ℕ
ramped_values (M.Refused n) = []
ramped_values M.Nothing = []
ramped_values (M.Filled n) = n ∷ []

abbrev pub ramped_reply : Ramped → Reply ℕ
ramped_reply r = record { number = ramped_number r; values = ramped_values r }

-- ---- what each call says

unfoldable pub chunk_says : State → ℕ → Reply Chunk
unfolding by_rows chunk_total chunk_of
chunk_says st i = by_rows [] (only (ltb i (chunk_total st.block)) (chunk_of st.block i))

abbrev pub output_rows : State → List Float → List Float → List Row
output_rows st values audio = 14 when (values_short st values || audio_short st audio) ∷ []

unfoldable pub output_says : State → List Float → List Float → ℕ → Reply ℕ
unfolding by_rows chunk_total
output_says st values audio d = by_rows (output_rows st values audio) (output_values (shape_of st d))

abbrev pub at_rows : State → List Float → ℕ → List Row
at_rows st audio v = voice_row st v ∷ 14 when audio_short st audio ∷ []

unfoldable pub at_says : State → List Float → ℕ → ℕ → ℕ → Reply Float
unfolding by_rows
at_says st audio d k v =
    by_rows (at_rows st audio v) (only (is_audio_plan st d && ltb k (frame_count st)) (audio_number st audio d k v))

abbrev pub value_rows : State → List Float → ℕ → List Row
value_rows st values v = voice_row st v ∷ 14 when values_short st values ∷ []

unfoldable pub value_says : State → List Float → ℕ → ℕ → ℕ → Reply Float
unfolding by_rows chunk_total
value_says st values d c v =
    by_rows (value_rows st values v)
    (only (is_control_plan st d && ltb c (chunk_total st.block)) (to_number st values d c v))

abbrev pub latest_rows : State → List Float → List Float → ℕ → List Row
latest_rows st values audio v = voice_row st v ∷ 14 when (values_short st values || audio_short st audio) ∷ []

unfoldable pub latest_says : State → List Float → List Float → ℕ → ℕ → Reply Float
unfolding by_rows chunk_total
latest_says st values audio d v =
    by_rows (latest_rows st values audio v) (only (has_latest st d) (latest_number st values audio d v))

abbrev pub ramp_rows : State → List Float → ℕ → List Float → List Row
ramp_rows st values v out = voice_row st v ∷ 14 when (values_short st values || ltb (length out) (ramp_length st)) ∷ []

unfoldable pub ramp_says : State → List Float → ℕ → ℕ → List Float → Reply ℕ
unfolding by_rows
ramp_says st values d v out = by_rows (ramp_rows st values v out) (only (is_control_plan st d) (ramp_length st))
