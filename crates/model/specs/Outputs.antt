-- What is read of an engine: the shape of an output, its rows, chunks and single numbers (engine.rs 105-190, 382-390,
-- 613-690; document 01, Chunk and value). Definitions only.
use Rattle.std.specs.Prelude.{◌≡◌, refl, Bool, true, false, not, cond, ◌&&◌, ◌||◌, List, [], ◌∷◌, ◌++◌, map, ℕ, zero}
use Rattle.std.specs.Prelude.{Option, Some, None}
use Rattle.std.specs.Prelude.{suc, ◌+◌, ◌-◌, ◌*◌, min, eqb, ltb, length, take, Float}
use Rattle.std.specs.Float.{nan}
use Rattle.config.specs.Sizes.{period, most_destinations}
use Rattle.feed.specs.Numbers.{up_from}
use Rattle.refusal.specs.Judge.{Row, ◌when◌, judged}
use Rattle.list.specs.Part.{part, on_part}
use Rattle.number.specs.Number.{plus, less, times, over, nearest32}
use Rattle.voice.specs.Voices.{is_sounding}
use Rattle.state.specs.declared.Plan.{Plan}
use Rattle.state.specs.declared.Chunk.{Chunk}
use Rattle.state.specs.Output.{Output}
use Rattle.state.specs.Output as O
use Rattle.state.specs.Reading.{Reading}
use Rattle.state.specs.Reading as R
use Rattle.state.specs.Ramped.{Ramped}
use Rattle.state.specs.Ramped as M
use Rattle.state.specs.declared.Program.{Program}
use Rattle.state.specs.declared.State.{State}
use Rattle.model.specs.Counts.{voice_count, frame_count, stride_of, chunks_most, plan_total, plan_at, at}
use Rattle.model.specs.Layout.{plan_width, chunk_from, chunk_to, audio_row}
use Rattle.model.specs.Chunks.{chunk_total, chunk_of, chunk_list}
use Rattle.model.specs.Process.{values_of, audio_need_of}
use Rattle.model.specs.NoteCalls.{voice_row}

-- engine.rs 382, 388
unfoldable pub engine_stride : State → ℕ
engine_stride st = stride_of st

unfoldable pub engine_program : State → Program
engine_program st = st.program

-- ---- chunks

unfoldable pub chunk_count : State → ℕ
unfolding chunk_total
chunk_count st = chunk_total st.block

unfoldable pub chunk_at : State → ℕ → Option Chunk
unfolding chunk_total chunk_of
chunk_at st i = cond (ltb i (chunk_total st.block)) (Some (chunk_of st.block i)) None

-- ---- the plan of a destination

-- the place of the first plan of d; their number where none is
abbrev pub plan_of : ℕ → List Plan → ℕ
plan_of d [] = 0
plan_of d (p ∷ ps) = cond (eqb p.dest d) 0 (suc (plan_of d ps))

abbrev pub plan_place : State → ℕ → ℕ
plan_place st d = plan_of d (take (plan_total st.program) st.program.plan)

abbrev pub has_plan : State → ℕ → Bool
has_plan st d = ltb (plan_place st d) (plan_total st.program)

abbrev pub is_audio_plan : State → ℕ → Bool
is_audio_plan st d = has_plan st d && (plan_at st (plan_place st d)).audio

abbrev pub is_control_plan : State → ℕ → Bool
is_control_plan st d = has_plan st d && not (plan_at st (plan_place st d)).audio

abbrev pub width_of : State → ℕ → ℕ
width_of st d = plan_width (stride_of st) (plan_at st (plan_place st d)).voice

-- the lane that is read for a voice
abbrev pub lane_of : State → ℕ → ℕ → ℕ
lane_of st d v = cond (plan_at st (plan_place st d)).voice v 0

-- ---- outputs and their rows

abbrev pub values_short : State → List Float → Bool
values_short st values = ltb (length values) (values_of st)

abbrev pub audio_short : State → List Float → Bool
audio_short st audio = ltb (length audio) (audio_need_of st)

abbrev pub shape_of : State → ℕ → Output
shape_of st d =
    cond (is_audio_plan st d) (O.Audio (width_of st d))
    (cond (is_control_plan st d) (O.Control (width_of st d) (chunk_total st.block)) O.Unmodulated)

unfoldable pub output_of : State → List Float → List Float → ℕ → Output
unfolding chunk_total
output_of st values audio d = cond (values_short st values || audio_short st audio) (O.Refused 14) (shape_of st d)

-- a part of a lent memory, with the call's number
pub record Parted : Type 0 where
  -- the number that the call hands back
  pub code : ℕ
  -- the part
  pub numbers : List Float

-- by the rows that judge the call: the n numbers from a on; none where the call is refused, or where the test fails
abbrev pub part_by : List Row → Bool → List Float → ℕ → ℕ → Parted
part_by rows b m a n =
    record { code = judged rows; numbers = cond (eqb (judged rows) 0 && b) (part m a (a + n)) [] }

-- a short memory: 14, and no numbers; no such plan: 0, and no numbers; else the numbers
short-part : (m : List Float) (a n : ℕ) → part_by (14 when true ∷ []) true m a n ≡ record { code = 14; numbers = [] }
unfolding judged
short-part m a n = refl

no_part : (m : List Float) (a n : ℕ) → part_by (14 when false ∷ []) false m a n ≡ record { code = 0; numbers = [] }
unfolding judged
no_part m a n = refl

some-part : (x y z : Float) → part_by (14 when false ∷ []) true (x ∷ y ∷ z ∷ []) 1 2
    ≡ record { code = 0; numbers = y ∷ z ∷ [] }
unfolding judged part
some-part x y z = refl

abbrev pub audio_part_rows : State → List Float → List Row
audio_part_rows st audio = 14 when audio_short st audio ∷ []

abbrev pub values_part_rows : State → List Float → List Row
values_part_rows st values = 14 when values_short st values ∷ []

abbrev pub audio_start : State → ℕ → ℕ → ℕ
audio_start st d k = audio_row (stride_of st) (frame_count st) (plan_place st d) (width_of st d) k

unfoldable pub audio_part : State → List Float → ℕ → Parted
unfolding part judged
audio_part st audio d =
    part_by (audio_part_rows st audio) (is_audio_plan st d) audio (audio_start st d 0) (frame_count st * width_of st d)

unfoldable pub frame_part : State → List Float → ℕ → ℕ → Parted
unfolding part judged
frame_part st audio d k =
    part_by (audio_part_rows st audio) (is_audio_plan st d && ltb k (frame_count st)) audio (audio_start st d k)
    (width_of st d)

abbrev pub from_place : State → ℕ → ℕ → ℕ
from_place st d c = chunk_from (stride_of st) (chunks_most st) (plan_place st d) (width_of st d) c

abbrev pub to_place : State → ℕ → ℕ → ℕ
to_place st d c = chunk_to (stride_of st) (chunks_most st) (plan_place st d) (width_of st d) c

unfoldable pub from_part : State → List Float → ℕ → Parted
unfolding part judged chunk_total
from_part st values d =
    let n = chunk_total st.block * width_of st d in
    part_by (values_part_rows st values) (is_control_plan st d) values (from_place st d 0) n

unfoldable pub to_part : State → List Float → ℕ → Parted
unfolding part judged chunk_total
to_part st values d =
    let n = chunk_total st.block * width_of st d in
    part_by (values_part_rows st values) (is_control_plan st d) values (to_place st d 0) n

-- ---- single numbers

-- a number by the rows that judge the call, and whether there is one
abbrev pub reading_by : List Row → Bool → Float → Reading
reading_by rows b x = cond (eqb (judged rows) 0) (cond b (R.Value x) R.Nothing) (R.Refused (judged rows))

abbrev pub audio_number : State → List Float → ℕ → ℕ → ℕ → Float
audio_number st audio d k v = at audio (audio_start st d k + lane_of st d v)

abbrev pub to_number : State → List Float → ℕ → ℕ → ℕ → Float
to_number st values d c v = at values (to_place st d c + lane_of st d v)

-- engine.rs 129-132
unfoldable pub audio_at : State → List Float → ℕ → ℕ → ℕ → Reading
unfolding judged
audio_at st audio d k v =
    reading_by (voice_row st v ∷ 14 when audio_short st audio ∷ []) (is_audio_plan st d && ltb k (frame_count st))
    (audio_number st audio d k v)

-- engine.rs 167-170
unfoldable pub control_value : State → List Float → ℕ → ℕ → ℕ → Reading
unfolding judged chunk_total
control_value st values d c v =
    reading_by (voice_row st v ∷ 14 when values_short st values ∷ [])
    (is_control_plan st d && ltb c (chunk_total st.block))
    (to_number st values d c v)

-- the number after the last chunk, or at its last frame (engine.rs 642-656)
abbrev pub last_frame : State → ℕ
last_frame st = st.block.end - 1

abbrev pub latest_number : State → List Float → List Float → ℕ → ℕ → Float
latest_number st values audio d v =
    cond (is_audio_plan st d) (audio_number st audio d (last_frame st) v)
    (to_number st values d (chunk_total st.block - 1) v)

abbrev pub has_latest : State → ℕ → Bool
has_latest st d = has_plan st d && ltb 0 (chunk_total st.block)

unfoldable pub latest_of : State → List Float → List Float → ℕ → ℕ → Reading
unfolding judged chunk_total
latest_of st values audio d v =
    reading_by (voice_row st v ∷ 14 when (values_short st values || audio_short st audio) ∷ []) (has_latest st d)
    (latest_number st values audio d v)

-- ---- every destination's latest number (engine.rs 667-690)

abbrev pub program_dests : State → ℕ
program_dests st = min st.program.dests most_destinations

-- NaN without a plan, without chunks, or where v is not an active voice
abbrev pub latest_in : State → List Float → List Float → ℕ → ℕ → Float
latest_in st values audio d v =
    cond (has_latest st d && (ltb v (voice_count st) && is_sounding st.voices v))
    (latest_number st values audio d v) nan

abbrev pub latest_row : State → List Float → List Float → ℕ → ℕ → List Float
latest_row st values audio n d = map (latest_in st values audio d) (up_from 0 n)

abbrev pub latest_rows : State → List Float → List Float → ℕ → List ℕ → List Float
latest_rows st values audio n [] = []
latest_rows st values audio n (d ∷ ds) = latest_row st values audio n d ++ latest_rows st values audio n ds

pub record Written : Type 0 where
  -- the number that the call hands back
  pub code : ℕ
  -- the memory lent for the answer, afterwards
  pub out : List Float

unfoldable pub latest_all : State → List Float → List Float → ℕ → List Float → Written
unfolding judged chunk_total on_part
latest_all st values audio n out =
    let need = n * program_dests st in
    let code = judged (14 when (values_short st values || (audio_short st audio || ltb (length out) need)) ∷ []) in
    record {
      code = code;
      out = cond (eqb code 0)
          (on_part out 0 need (latest_rows st values audio n (up_from 0 (program_dests st)))) out;
    }

-- ---- the ramp (engine.rs 178-190): from + (to - from) / 32 × (phase + j), a number a frame

abbrev pub ramp_at : Float → Float → ℕ → Float
ramp_at from to j = plus from (times (over (less to from) (nearest32 period)) (nearest32 j))

-- n frames of a chunk from place j of the ramp on
abbrev pub ramp_from : Float → Float → ℕ → ℕ → List Float
ramp_from from to j zero = []
ramp_from from to j (suc n) = ramp_at from to j ∷ ramp_from from to (suc j) n

abbrev pub ramp_chunk : State → List Float → ℕ → ℕ → ℕ → Chunk → List Float
ramp_chunk st values d v i c =
    ramp_from (at values (from_place st d i + lane_of st d v)) (to_number st values d i v) c.phase c.len

abbrev pub ramp_chunks : State → List Float → ℕ → ℕ → ℕ → List Chunk → List Float
ramp_chunks st values d v i [] = []
ramp_chunks st values d v i (c ∷ cs) = ramp_chunk st values d v i c ++ ramp_chunks st values d v (suc i) cs

-- the frames of the last block's chunks
abbrev pub ramp_length : State → ℕ
ramp_length st = st.block.end - st.block.start

pub record RampWritten : Type 0 where
  -- what the call answers
  pub answer : Ramped
  -- the memory lent for the ramp, afterwards
  pub out : List Float

abbrev pub ramped : State → List Float → ℕ → ℕ → List Float → RampWritten
ramped st values d v out =
    cond (is_control_plan st d)
    (record {
      answer = M.Filled (ramp_length st);
      out = on_part out 0 (ramp_length st) (ramp_chunks st values d v 0 (chunk_list st.block));
    })
    (record { answer = M.Nothing; out = out })

unfoldable pub ramp_of : State → List Float → ℕ → ℕ → List Float → RampWritten
unfolding judged chunk_list on_part
ramp_of st values d v out =
    let code = judged (voice_row st v ∷ 14 when (values_short st values || ltb (length out) (ramp_length st)) ∷ []) in
    cond (eqb code 0) (ramped st values d v out) (record { answer = M.Refused code; out = out })

-- ---- each case of an answer, by its number (docs/CALLS.md, What a refusal holds)

abbrev pub output_number : Output → ℕ
output_number (O.Refused n) = n
output_number O.Unmodulated = 0
output_number (O.Audio w) = 0
output_number (O.Control w n) = 0

abbrev pub reading_number : Reading → ℕ
reading_number (R.Refused n) = n
reading_number R.Nothing = 0
reading_number (R.Value x) = 0

abbrev pub ramped_number : Ramped → ℕ
ramped_number (M.Refused n) = n
ramped_number M.Nothing = 0
ramped_number (M.Filled n) = 0
