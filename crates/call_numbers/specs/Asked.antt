-- THE TABLE OF THE PUBLIC CALLS THAT HAND A NUMBER BACK: each with its arguments, its numbers as docs/CALLS.md lists
-- them, its rows in the order in which they are judged, and the number in its answer, by the definition that its
-- promise cites. A call is added by a line in each of the four; tools/calls holds the numbers to the page.
-- Definitions only.
use Rattle.std.specs.Prelude.{Bool, not, ◌&&◌, ◌||◌, List, [], ◌∷◌, ℕ, ◌*◌, ltb, length, Float}
use Rattle.refusal.specs.Judge.{Row, ◌when◌}
use Rattle.number.specs.Number.{finite}
use Rattle.config.specs.Sizes.{most_signal_stride}
use Rattle.config.specs.Configuration.{config_rows}
use Rattle.config.specs.declared.Config.{Config}
use Rattle.curve_table.specs.Table.{all_allowed, table_rows as lookupRows}
use Rattle.curve_table.specs.Curve.{curve_rows}
use Rattle.curve_table.specs.declared.Curve.{Curve}
use Rattle.slots_tables.specs.Rows.{finite_row, table_rows, curve_allowed}
use Rattle.slots.specs.Slots.{numbers_finite}
use Rattle.matrix_editing.specs.Drag.{both_finite}
use Rattle.state.specs.declared.Kind.{Kind}
use Rattle.state.specs.declared.Scope.{Scope}
use Rattle.state.specs.declared.Range.{Range}
use Rattle.state.specs.declared.Sources.{Sources}
use Rattle.state.specs.declared.Dest.{Dest}
use Rattle.state.specs.declared.Destinations.{Destinations}
use Rattle.std.specs.Prelude.{Option}
use Rattle.state.specs.declared.Target.{Target}
use Rattle.state.specs.declared.Polarity.{Polarity}
use Rattle.state.specs.declared.Slot.{Slot}
use Rattle.state.specs.declared.Matrix.{Matrix}
use Rattle.state.specs.declared.Wiring.{Wiring}
use Rattle.state.specs.declared.Program.{Program}
use Rattle.state.specs.declared.Signals.{Signals}
use Rattle.state.specs.declared.State.{State}
use Rattle.state.specs.Registry.{dest_count}
use Rattle.source.specs.declared.Counts.{Counts}
use Rattle.source.specs.Registry.{add_rows as sourceRows, find_rows, found_reply, add_source, find_source}
use Rattle.source.specs.Standard.{standard_rows, standard_sources}
use Rattle.dest.specs.Entries.{registered}
use Rattle.dest.specs.Adding.{add_rows as destRows, add_dest}
use Rattle.curve.specs.CurveCalls.{lookup_call, slew_call}
use Rattle.matrix.specs.declared.CurveSlot.{CurveSlot}
use Rattle.matrix.specs.declared.NoteSlot.{NoteSlot}
use Rattle.matrix.specs.declared.SortBy.{SortBy}
use Rattle.matrix.specs.Edits.{slot_row, slot_at, set_slot, add_route, remove_slot, set_bypass, set_slot_amount}
use Rattle.matrix.specs.Edits.{set_slot_output}
use Rattle.matrix.specs.Edits.{sort_rows, load_rows}
use Rattle.matrix.specs.Edits.{set_polarity, set_aux, set_linear, set_curve, set_note_curve, sort_slots, load_matrix}
use Rattle.matrix.specs.Routes.{drag_route, create_vibrato, create_velocity_to_amp, drag_polarity, limit_depth}
use Rattle.matrix.specs.Replies.{add_rows, drag_rows}
use Rattle.program.specs.Sizes.{stride_call, max_chunks_call}
use Rattle.model.specs.World.{World}
use Rattle.model.specs.Compile.{Memories, compile_rows, compile, empty_program}
use Rattle.model.specs.Settings.{new_rows, new_engine, bind_signal, held_rows, set_held, voice_held_rows}
use Rattle.model.specs.Settings.{set_voice_held}
use Rattle.model.specs.Settings.{base_rows, set_base}
use Rattle.model.specs.Settings.{gain_rows, set_amount, set_output, set_voice_limit, swap_rows, swap_program}
use Rattle.model.specs.NoteCalls.{Note, voice_row, note_on_rows, note_on, note_off_rows, note_off, voice_ended_rows}
use Rattle.model.specs.NoteCalls.{voice_ended, is_active}
use Rattle.model.specs.Process.{process_rows, process}
use Rattle.model.specs.Outputs.{values_short, audio_short, program_dests, output_of, audio_at, control_value, ramp_of}
use Rattle.model.specs.Outputs.{latest_of, latest_all}
use Rattle.model.specs.Outputs.{audio_part_rows, values_part_rows, audio_part, from_part, to_part, frame_part}
use Rattle.engine.specs.Replies.{output_reply, reading_reply, ramped_reply, output_rows, at_rows, value_rows, ramp_rows}
use Rattle.engine.specs.Replies.{latest_rows}

-- a call with its arguments; of an engine its state, or its state with the memories that are lent
pub data Asked : Type 0 where
  source-add : Sources → List ℕ → Kind → Scope → Range → Asked
  source-find : Sources → List ℕ → Asked
  source-standard : Counts → List ℕ → List ℕ → Asked
  dest-add : Destinations → Dest → Asked
  curve-lookup : List Float → Float → Asked
  curve-slew : Curve → Asked
  matrix-slot : Matrix → ℕ → Asked
  matrix-set-slot : Matrix → ℕ → Slot → Asked
  matrix-add : Matrix → ℕ → Target → Float → Polarity → Asked
  matrix-remove : Matrix → ℕ → Asked
  matrix-set-bypass : Matrix → ℕ → Bool → Asked
  matrix-set-amount : Matrix → ℕ → Float → Asked
  matrix-set-output : Matrix → ℕ → Float → Asked
  matrix-set-polarity : Matrix → ℕ → Polarity → Asked
  matrix-set-aux : Matrix → ℕ → Option ℕ → Bool → Asked
  matrix-set-curve : Matrix → List Float → ℕ → CurveSlot → List Float → Float → Float → Asked
  matrix-set-linear : Matrix → ℕ → CurveSlot → Asked
  matrix-set-note-curve : Matrix → List Float → NoteSlot → List Float → Asked
  matrix-sort : Matrix → List Float → SortBy → Asked
  matrix-load : Matrix → List Float → Matrix → List Float → Asked
  matrix-drag : Matrix → ℕ → Target → Float → Float → Bool → Bool → Asked
  matrix-create-vibrato : Matrix → List ℕ → ℕ → Target → Float → Asked
  matrix-create-velocity-to-amp : Matrix → ℕ → Target → Float → Asked
  matrix-drag-polarity : Float → Bool → Asked
  matrix-limit-depth : Float → Polarity → Float → Asked
  program-stride : Config → Asked
  program-max-chunks : Config → Asked
  program-compile : Wiring → List Float → Memories → Asked
  program-empty : Config → Asked
  engine-new : Sources → Destinations → Config → World → Asked
  engine-swap : State → Program → Asked
  engine-set-held : World → ℕ → Float → Asked
  engine-set-voice-held : World → ℕ → ℕ → Float → Asked
  engine-set-base : World → ℕ → Float → Asked
  engine-set-amount : World → ℕ → Float → Asked
  engine-set-output : World → ℕ → Float → Asked
  engine-set-voice-limit : World → ℕ → Asked
  engine-note-on : World → ℕ → Note → Asked
  engine-note-off : World → ℕ → Float → Asked
  engine-voice-ended : World → ℕ → Asked
  engine-is-active : State → ℕ → Asked
  engine-bind : Signals → ℕ → ℕ → ℕ → ℕ → Asked
  engine-process : World → List Float → Signals → ℕ → ℕ → Asked
  engine-output : State → List Float → List Float → ℕ → Asked
  engine-audio-part : State → List Float → ℕ → Asked
  engine-from-part : State → List Float → ℕ → Asked
  engine-to-part : State → List Float → ℕ → Asked
  engine-frame : State → List Float → ℕ → ℕ → Asked
  engine-at : State → List Float → ℕ → ℕ → ℕ → Asked
  engine-value : State → List Float → ℕ → ℕ → ℕ → Asked
  engine-ramp : State → List Float → ℕ → ℕ → List Float → Asked
  engine-latest : State → List Float → List Float → ℕ → ℕ → Asked
  engine-latest-all : State → List Float → List Float → ℕ → List Float → Asked

-- ---- the numbers that it may hand back (docs/CALLS.md, rows)

abbrev pub numbers : Asked → List ℕ
numbers (source-add s key kind scope range) = 9 ∷ 12 ∷ 15 ∷ []
numbers (source-find s key) = 15 ∷ []
numbers (source-standard n bytes lengths) = 9 ∷ 12 ∷ 14 ∷ 15 ∷ []
numbers (dest-add ds d) = 9 ∷ 10 ∷ 11 ∷ 12 ∷ []
numbers (curve-lookup t x) = 6 ∷ 15 ∷ []
numbers (curve-slew c) = 6 ∷ []
numbers (matrix-slot m n) = 5 ∷ []
numbers (matrix-set-slot m n s) = 5 ∷ 6 ∷ []
numbers (matrix-add m source t x p) = 6 ∷ []
numbers (matrix-remove m n) = 5 ∷ []
numbers (matrix-set-bypass m n on) = 5 ∷ []
numbers (matrix-set-amount m n x) = 5 ∷ 6 ∷ []
numbers (matrix-set-output m n x) = 5 ∷ 6 ∷ []
numbers (matrix-set-polarity m n p) = 5 ∷ []
numbers (matrix-set-aux m n p on) = 5 ∷ []
numbers (matrix-set-curve m tables n which t rise fall) = 5 ∷ 6 ∷ 14 ∷ 15 ∷ []
numbers (matrix-set-linear m n which) = 5 ∷ []
numbers (matrix-set-note-curve m tables which t) = 6 ∷ 14 ∷ 15 ∷ []
numbers (matrix-sort m tables by) = 6 ∷ 14 ∷ []
numbers (matrix-load m tables other others) = 6 ∷ 14 ∷ []
numbers (matrix-drag m source t at x toggle limit) = 6 ∷ []
numbers (matrix-create-vibrato m lfos wheel t x) = 6 ∷ []
numbers (matrix-create-velocity-to-amp m velocity t x) = 6 ∷ []
numbers (matrix-drag-polarity at toggle) = 6 ∷ []
numbers (matrix-limit-depth at p x) = 6 ∷ []
numbers (program-stride c) = 6 ∷ 13 ∷ []
numbers (program-max-chunks c) = 6 ∷ 13 ∷ []
numbers (program-compile w tables l) = 6 ∷ 13 ∷ 14 ∷ []
numbers (program-empty c) = 6 ∷ 13 ∷ []
numbers (engine-new ss ds c w) = 6 ∷ 13 ∷ 14 ∷ []
numbers (engine-swap st p) = 6 ∷ 7 ∷ 8 ∷ []
numbers (engine-set-held w i x) = 3 ∷ 6 ∷ 14 ∷ []
numbers (engine-set-voice-held w i v x) = 2 ∷ 3 ∷ 6 ∷ 14 ∷ []
numbers (engine-set-base w d x) = 4 ∷ 6 ∷ 14 ∷ []
numbers (engine-set-amount w n x) = 5 ∷ 6 ∷ []
numbers (engine-set-output w n x) = 5 ∷ 6 ∷ []
numbers (engine-set-voice-limit w n) = []
numbers (engine-note-on w v n) = 2 ∷ 6 ∷ 14 ∷ []
numbers (engine-note-off w v x) = 2 ∷ 6 ∷ 14 ∷ []
numbers (engine-voice-ended w v) = 2 ∷ 14 ∷ []
numbers (engine-is-active st v) = 2 ∷ []
numbers (engine-bind s src a n stride) = 13 ∷ []
numbers (engine-process w samples signals start end) = 1 ∷ 13 ∷ 14 ∷ []
numbers (engine-output st values audio d) = 14 ∷ []
numbers (engine-audio-part st audio d) = 14 ∷ []
numbers (engine-from-part st values d) = 14 ∷ []
numbers (engine-to-part st values d) = 14 ∷ []
numbers (engine-frame st audio d k) = 14 ∷ []
numbers (engine-at st audio d k v) = 2 ∷ 14 ∷ []
numbers (engine-value st values d c v) = 2 ∷ 14 ∷ []
numbers (engine-ramp st values d v out) = 2 ∷ 14 ∷ []
numbers (engine-latest st values audio d v) = 2 ∷ 14 ∷ []
numbers (engine-latest-all st values audio n out) = 14 ∷ []

-- ---- its rows

abbrev pub rows : Asked → List Row
rows (source-add s key kind scope range) = sourceRows s key
rows (source-find s key) = find_rows key
rows (source-standard n bytes lengths) = standard_rows n bytes lengths
rows (dest-add ds d) = destRows (registered ds) (dest_count ds) d
rows (curve-lookup t x) = lookupRows t
rows (curve-slew c) = curve_rows c
rows (matrix-slot m n) = slot_row n ∷ []
rows (matrix-set-slot m n s) = slot_row n ∷ finite_row (numbers_finite s) ∷ []
rows (matrix-add m source t x p) = add_rows x
rows (matrix-remove m n) = slot_row n ∷ []
rows (matrix-set-bypass m n on) = slot_row n ∷ []
rows (matrix-set-amount m n x) = slot_row n ∷ finite_row (finite x) ∷ []
rows (matrix-set-output m n x) = slot_row n ∷ finite_row (finite x) ∷ []
rows (matrix-set-polarity m n p) = slot_row n ∷ []
rows (matrix-set-aux m n p on) = slot_row n ∷ []
rows (matrix-set-curve m tables n which t rise fall) = slot_row n ∷ table_rows (curve_allowed t rise fall) tables t
rows (matrix-set-linear m n which) = slot_row n ∷ []
rows (matrix-set-note-curve m tables which t) = table_rows (all_allowed t) tables t
rows (matrix-sort m tables by) = sort_rows m tables
rows (matrix-load m tables other others) = load_rows tables other others
rows (matrix-drag m source t at x toggle limit) = drag_rows at x
rows (matrix-create-vibrato m lfos wheel t x) = add_rows x
rows (matrix-create-velocity-to-amp m velocity t x) = add_rows x
rows (matrix-drag-polarity at toggle) = finite_row (finite at) ∷ []
rows (matrix-limit-depth at p x) = finite_row (both_finite at x) ∷ []
rows (program-stride c) = config_rows c.sample_rate c.max_frames c.voices
rows (program-max-chunks c) = config_rows c.sample_rate c.max_frames c.voices
rows (program-compile w tables l) = compile_rows w tables l
rows (program-empty c) = config_rows c.sample_rate c.max_frames c.voices
rows (engine-new ss ds c w) = new_rows ss ds c w
rows (engine-swap st p) = swap_rows st p
rows (engine-set-held w i x) = held_rows w i x
rows (engine-set-voice-held w i v x) = voice_held_rows w i v x
rows (engine-set-base w d x) = base_rows w d x
rows (engine-set-amount w n x) = gain_rows n x
rows (engine-set-output w n x) = gain_rows n x
rows (engine-set-voice-limit w n) = []
rows (engine-note-on w v n) = note_on_rows w v n
rows (engine-note-off w v x) = note_off_rows w v x
rows (engine-voice-ended w v) = voice_ended_rows w v
rows (engine-is-active st v) = voice_row st v ∷ []
rows (engine-bind s src a n stride) = 13 when ltb most_signal_stride stride ∷ []
rows (engine-process w samples signals start end) = process_rows w samples signals end
rows (engine-output st values audio d) = output_rows st values audio
rows (engine-audio-part st audio d) = audio_part_rows st audio
rows (engine-from-part st values d) = values_part_rows st values
rows (engine-to-part st values d) = values_part_rows st values
rows (engine-frame st audio d k) = audio_part_rows st audio
rows (engine-at st audio d k v) = at_rows st audio v
rows (engine-value st values d c v) = value_rows st values v
rows (engine-ramp st values d v out) = ramp_rows st values v out
rows (engine-latest st values audio d v) = latest_rows st values audio v
rows (engine-latest-all st values audio n out) =
    14 when (values_short st values || (audio_short st audio || ltb (length out) (n * program_dests st))) ∷ []

-- ---- the number in its answer

abbrev pub code : Asked → ℕ
code (source-add s key kind scope range) = (add_source s key kind scope range).code
code (source-find s key) = (found_reply (find_source s key)).number
code (source-standard n bytes lengths) = (standard_sources n bytes lengths).code
code (dest-add ds d) = (add_dest ds d).code
code (curve-lookup t x) = (lookup_call t x).code
code (curve-slew c) = (slew_call c).code
code (matrix-slot m n) = (slot_at m n).code
code (matrix-set-slot m n s) = (set_slot m n s).code
code (matrix-add m source t x p) = (add_route m source t x p).code
code (matrix-remove m n) = (remove_slot m n).code
code (matrix-set-bypass m n on) = (set_bypass m n on).code
code (matrix-set-amount m n x) = (set_slot_amount m n x).code
code (matrix-set-output m n x) = (set_slot_output m n x).code
code (matrix-set-polarity m n p) = (set_polarity m n p).code
code (matrix-set-aux m n p on) = (set_aux m n p on).code
code (matrix-set-curve m tables n which t rise fall) = (set_curve m tables n which t rise fall).answer.code
code (matrix-set-linear m n which) = (set_linear m n which).code
code (matrix-set-note-curve m tables which t) = (set_note_curve m tables which t).answer.code
code (matrix-sort m tables by) = (sort_slots m tables by).answer.code
code (matrix-load m tables other others) = (load_matrix m tables other others).answer.code
code (matrix-drag m source t at x toggle limit) = (drag_route m source t at x toggle limit).code
code (matrix-create-vibrato m lfos wheel t x) = (create_vibrato m lfos wheel t x).code
code (matrix-create-velocity-to-amp m velocity t x) = (create_velocity_to_amp m velocity t x).code
code (matrix-drag-polarity at toggle) = (drag_polarity at toggle).code
code (matrix-limit-depth at p x) = (limit_depth at p x).code
code (program-stride c) = (stride_call c).code
code (program-max-chunks c) = (max_chunks_call c).code
code (program-compile w tables l) = (compile w tables l).answer.code
code (program-empty c) = (empty_program c).code
code (engine-new ss ds c w) = (new_engine ss ds c w).code
code (engine-swap st p) = (swap_program st p).code
code (engine-set-held w i x) = (set_held w i x).code
code (engine-set-voice-held w i v x) = (set_voice_held w i v x).code
code (engine-set-base w d x) = (set_base w d x).code
code (engine-set-amount w n x) = (set_amount w n x).code
code (engine-set-output w n x) = (set_output w n x).code
code (engine-set-voice-limit w n) = (set_voice_limit w n).code
code (engine-note-on w v n) = (note_on w v n).code
code (engine-note-off w v x) = (note_off w v x).code
code (engine-voice-ended w v) = (voice_ended w v).code
code (engine-is-active st v) = (is_active st v).code
code (engine-bind s src a n stride) = (bind_signal s src a n stride).code
code (engine-process w samples signals start end) = (process w samples signals start end).code
code (engine-output st values audio d) = (output_reply (output_of st values audio d)).number
code (engine-audio-part st audio d) = (audio_part st audio d).code
code (engine-from-part st values d) = (from_part st values d).code
code (engine-to-part st values d) = (to_part st values d).code
code (engine-frame st audio d k) = (frame_part st audio d k).code
code (engine-at st audio d k v) = (reading_reply (audio_at st audio d k v)).number
code (engine-value st values d c v) = (reading_reply (control_value st values d c v)).number
code (engine-ramp st values d v out) = (ramped_reply (ramp_of st values d v out).answer).number
code (engine-latest st values audio d v) = (reading_reply (latest_of st values audio d v)).number
code (engine-latest-all st values audio n out) = (latest_all st values audio n out).code
