-- THE LOWEST NUMBER: whatever public call is made, on whatever arguments and state, the number that it hands back is
-- the least of the rows that apply, is handed back only where its row applies, and is one of those that docs/CALLS.md
-- lists for the call; 0 only where no row applies. Assumes nothing.
use mathlib.Core.Path.{◌≡◌, refl, sym}
use mathlib.Core.Logic.{◌≢◌}
use mathlib.Core.Bool.{Bool, true, false, cond, not, ◌&&◌}
use mathlib.Core.List.{List, [], ◌∷◌}
use Prim.Native.Nat.{ℕ, zero, suc}
use native.Mathlib.Decide.{ℕ_discrete}
use lib.Dec.{T, eqb, ltb}
use lib.ListN.{length, get_or, take}
use lib.Ieee.{Float}
use borrow.Author.Tests.{eq-eqb, ne_eqb}
use Rattle.refusal.specs.Judge.{Row, First, ◌when◌, judged}
use Rattle.refusal.proofs.Laws.{judged-first}
use Rattle.number.specs.Number.{finite}
use Rattle.config.specs.Sizes.{slots}
use Rattle.config.specs.Configuration.{config_code}
use Rattle.curve_table.specs.Table.{table_code}
use Rattle.curve_table.specs.Curve.{curve_code}
use Rattle.reply.specs.Reply.{Reply, only, by_rows, ordered, Lowest}
use Rattle.reply.proofs.Replies.{by_number}
use Rattle.reply.proofs.Lowest.{lowest-of}
use Rattle.state.specs.declared.Source.{Source}
use Rattle.state.specs.declared.Sources.{Sources}
use Rattle.state.specs.declared.Slot.{Slot}
use Rattle.state.specs.declared.Matrix.{Matrix}
use Rattle.state.specs.declared.State.{State}
use Rattle.state.specs.declared.Target.{Target}
use Rattle.std.specs.Prelude.{Some}
use Rattle.state.specs.declared.Polarity.TheVariants as L
use Rattle.slots.specs.Slots.{first_empty, route_slot, kept_amount, with_aux}
use Rattle.matrix_editing.specs.Drag.{both_finite}
use Rattle.matrix_editing.specs.Free.{first_free}
use Rattle.source.specs.Registry.{added_or, add_source, registered, find_rows, found_reply, find_source, places_of, found_says}
use Rattle.source.proofs.Registry.{find-said}
use Rattle.source.specs.Standard.{StandardMade, standard_sources}
use Rattle.dest.specs.Adding.{DestAdded, add_code, add_dest}
use Rattle.curve.specs.CurveCalls.{Looked, lookup_call, Slewed, slew_call}
use Rattle.matrix.specs.Place as P
use Rattle.matrix.specs.Answers.{Placed, PolarityMade, Depth}
use Rattle.matrix.specs.Edits.{answered, edited, placed, tabled, slot_at, set_slot, add_route, remove_slot, set_bypass}
use Rattle.matrix.specs.Edits.{set_slot_amount}
use Rattle.matrix.specs.Edits.{set_slot_output, set_polarity, set_aux, set_linear, set_curve, set_note_curve, sort_slots}
use Rattle.matrix.specs.Edits.{load_matrix}
use Rattle.matrix.specs.Routes.{drag_route, add_vibrato, create_vibrato, create_velocity_to_amp, drag_polarity, limit_depth}
use Rattle.matrix.specs.Replies.{add_rows}
use Rattle.program.specs.Sizes.{counted, stride_call, max_chunks_call}
use Rattle.model.specs.Compile.{compile, empty_program}
use Rattle.model.specs.Settings.{done_by, new_engine, bind_signal, set_held, set_voice_held, set_base, set_amount, set_output}
use Rattle.model.specs.Settings.{set_voice_limit, swap_program}
use Rattle.model.specs.NoteCalls.{note_on, note_off, voice_ended, is_active}
use Rattle.model.specs.Process.{process}
use Rattle.model.specs.Counts.{frame_count}
use Rattle.model.specs.Chunks.{chunk_total}
use Rattle.model.specs.Outputs.{is_audio_plan, is_control_plan, shape_of, audio_number, to_number, has_latest, latest_number, ramp_length}
use Rattle.model.specs.Outputs.{audio_part, from_part, to_part, frame_part}
use Rattle.model.specs.Outputs.{output_of, audio_at, control_value, ramp_of, latest_of, latest_all}
use Rattle.engine.specs.Replies.{output_values, output_reply, reading_reply, ramped_reply}
use Rattle.engine.specs.Replies.{output_rows, at_rows, value_rows, ramp_rows, latest_rows}
use Rattle.engine.specs.Replies.{output_says, at_says, value_says, ramp_says, latest_says}
use Rattle.engine.proofs.Replies.{output-said, at-said, value-said, ramp-said, latest-said}
use Rattle.call_numbers.specs.Asked.{Asked, source-add, source-find, source-standard, dest-add, curve-lookup}
use Rattle.call_numbers.specs.Asked.{matrix-slot}
use Rattle.call_numbers.specs.Asked.{matrix-set-slot, matrix-add, matrix-remove, matrix-set-bypass, matrix-set-amount}
use Rattle.call_numbers.specs.Asked.{matrix-set-output, matrix-set-polarity, matrix-set-aux, matrix-set-curve}
use Rattle.call_numbers.specs.Asked.{matrix-set-linear}
use Rattle.call_numbers.specs.Asked.{matrix-set-note-curve, matrix-sort, matrix-load, matrix-drag}
use Rattle.call_numbers.specs.Asked.{matrix-create-vibrato}
use Rattle.call_numbers.specs.Asked.{matrix-create-velocity-to-amp, matrix-drag-polarity, matrix-limit-depth}
use Rattle.call_numbers.specs.Asked.{program-stride}
use Rattle.call_numbers.specs.Asked.{program-max-chunks, program-compile, program-empty, engine-new, engine-swap}
use Rattle.call_numbers.specs.Asked.{engine-set-held}
use Rattle.call_numbers.specs.Asked.{engine-set-voice-held, engine-set-base, engine-set-amount, engine-set-output}
use Rattle.call_numbers.specs.Asked.{engine-set-voice-limit, engine-note-on, engine-note-off, engine-voice-ended}
use Rattle.call_numbers.specs.Asked.{engine-is-active}
use Rattle.call_numbers.specs.Asked.{engine-bind, engine-process, engine-output, engine-at, engine-value}
use Rattle.call_numbers.specs.Asked.{engine-ramp, engine-latest}
use Rattle.call_numbers.specs.Asked.{curve-slew, engine-audio-part, engine-from-part, engine-to-part, engine-frame}
use Rattle.call_numbers.specs.Asked.{engine-latest-all, numbers, rows, code}

-- ---- a code beside what was made, or what is left

-- one thing where the code is 0, another with the code where it is not
either : {A : Type 0} (number : A → ℕ) (n : ℕ) (a b : A) → number a ≡ 0 → number b ≡ n → number (cond (eqb n 0) a b) ≡ n
either number n a b p q =
    elim (ℕ_discrete n 0) [ yes e ↦ rw (eq-eqb n 0 e) (rw e p) | no ne ↦ rw (ne_eqb n 0 ne) q ]

-- one thing where a test holds, 6 where it does not
six : {A : Type 0} (number : A → ℕ) (t : Bool) (a b : A) → number a ≡ 0 → number b ≡ 6 → number (cond t a b) ≡ judged (6 when not t ∷ [])
unfolding judged
six number true a b p q = p
six number false a b p q = q

added : (n : ℕ) (s : Sources) (e : Source) → (added_or n s e).code ≡ n
added zero s e = refl
added (suc n) s e = refl

count : (n k : ℕ) → (counted n k).code ≡ n
count zero k = refl
count (suc n) k = refl

-- a full matrix carries no number
accepted : (b : Bool) (m next : Matrix) (i : ℕ) → (cond {A = Placed} b (record { code = 0; place = P.At i; matrix = next }) (record { code = 0; place = P.Full; matrix = m })).code ≡ 0
accepted true m next i = refl
accepted false m next i = refl

placing : (n : ℕ) (m : Matrix) (i : ℕ) (s : Slot) → (placed n m i s).code ≡ n
unfolding placed
placing n m i s = either (λ (p : Placed). p.code) n _ _ (accepted (ltb i slots) m _ i) refl

none_free : (b : Bool) (m : Matrix) (i : ℕ) (s : Slot) → (cond b (placed 0 m i s) (record { code = 0; place = P.NoFreeLfo; matrix = m })).code ≡ 0
none_free true m i s = placing 0 m i s
none_free false m i s = refl

-- what a reply by rows has as its number
replied : {A : Type 0} (x : Reply A) (rs : List Row) (vs : List A) → x ≡ by_rows rs vs → x.number ≡ judged rs
replied x rs vs h = rw h (by_number rs vs)

finding : (s : Sources) (key : List ℕ) → (found_reply (find_source s key)).number ≡ judged (find_rows key)
unfolding found_says
finding s key =
    replied (found_reply (find_source s key)) (find_rows key) (take 1 (places_of 0 key (registered s)))
    (find-said s key (find_source s key) refl).1

vibrato : (m : Matrix) (lfos : List ℕ) (wheel : ℕ) (t : Target) (x : Float) → (create_vibrato m lfos wheel t x).code ≡ judged (add_rows x)
unfolding create_vibrato add_vibrato
vibrato m lfos wheel t x =
    let free = ltb (first_free lfos m.slot) (length lfos) in
    let slot = with_aux (Some wheel) false (route_slot (get_or lfos (first_free lfos m.slot) 0) t (kept_amount x) L.Bipolar) in
    six (λ (p : Placed). p.code) (finite x)
    (cond free (placed 0 m (first_empty m.slot) slot) (record { code = 0; place = P.NoFreeLfo; matrix = m }))
    (record { code = 6; place = P.Refused; matrix = m })
    (none_free free m (first_empty m.slot) slot)
    refl

module _ (st : State) where
  outputs : (values audio : List Float) (d : ℕ) → (output_reply (output_of st values audio d)).number ≡ judged (output_rows st values audio)
  unfolding output_says
  outputs values audio d =
      replied (output_reply (output_of st values audio d)) (output_rows st values audio) (output_values (shape_of st d))
      (output-said st values audio d (output_of st values audio d) refl).1

  ats : (audio : List Float) (d k v : ℕ) → (reading_reply (audio_at st audio d k v)).number ≡ judged (at_rows st audio v)
  unfolding at_says
  ats audio d k v =
      replied (reading_reply (audio_at st audio d k v)) (at_rows st audio v)
      (only (is_audio_plan st d && ltb k (frame_count st)) (audio_number st audio d k v))
      (at-said st audio d k v (audio_at st audio d k v) refl).1

  values_of : (values : List Float) (d c v : ℕ) → (reading_reply (control_value st values d c v)).number ≡ judged (value_rows st values v)
  unfolding value_says
  values_of values d c v =
      replied (reading_reply (control_value st values d c v)) (value_rows st values v)
      (only (is_control_plan st d && ltb c (chunk_total st.block)) (to_number st values d c v))
      (value-said st values d c v (control_value st values d c v) refl).1

  latests : (values audio : List Float) (d v : ℕ) → (reading_reply (latest_of st values audio d v)).number ≡ judged (latest_rows st values audio v)
  unfolding latest_says
  latests values audio d v =
      replied (reading_reply (latest_of st values audio d v)) (latest_rows st values audio v)
      (only (has_latest st d) (latest_number st values audio d v))
      (latest-said st values audio d v (latest_of st values audio d v) refl).1

  ramps : (values : List Float) (d v : ℕ) (out : List Float) → (ramped_reply (ramp_of st values d v out).answer).number ≡ judged (ramp_rows st values v out)
  unfolding ramp_says
  ramps values d v out =
      replied (ramped_reply (ramp_of st values d v out).answer) (ramp_rows st values v out)
      (only (is_control_plan st d) (ramp_length st))
      (ramp-said st values d v out (ramp_of st values d v out).answer refl)

-- ---- the number of every call is what its rows say

pub code-judged : (c : Asked) → code c ≡ judged (rows c)
unfolding add_source standard_sources add_code add_dest table_code lookup_call answered edited tabled slot_at set_slot add_route remove_slot set_bypass set_slot_amount set_slot_output set_polarity set_aux set_linear set_curve set_note_curve sort_slots load_matrix drag_route create_velocity_to_amp drag_polarity limit_depth config_code stride_call max_chunks_call compile empty_program done_by new_engine bind_signal set_held set_voice_held set_base set_amount set_output set_voice_limit swap_program note_on note_off voice_ended is_active process latest_all curve_code slew_call audio_part from_part to_part frame_part
code-judged (source-add s key kind scope range) = added _ s _
code-judged (source-find s key) = finding s key
code-judged (source-standard n bytes lengths) = either (λ (p : StandardMade). p.code) _ _ _ refl refl
code-judged (dest-add ds d) = either (λ (p : DestAdded). p.code) _ _ _ refl refl
code-judged (curve-lookup t x) = either (λ (p : Looked). p.code) _ _ _ refl refl
code-judged (curve-slew c) = either (λ (p : Slewed). p.code) _ _ _ refl refl
code-judged (matrix-slot m n) = refl
code-judged (matrix-set-slot m n s) = refl
code-judged (matrix-add m source t x p) = placing _ m _ _
code-judged (matrix-remove m n) = refl
code-judged (matrix-set-bypass m n on) = refl
code-judged (matrix-set-amount m n x) = refl
code-judged (matrix-set-output m n x) = refl
code-judged (matrix-set-polarity m n p) = refl
code-judged (matrix-set-aux m n p on) = refl
code-judged (matrix-set-curve m tables n which t rise fall) = refl
code-judged (matrix-set-linear m n which) = refl
code-judged (matrix-set-note-curve m tables which t) = refl
code-judged (matrix-sort m tables by) = refl
code-judged (matrix-load m tables other others) = refl
code-judged (matrix-drag m source t at x toggle limit) = placing _ m _ _
code-judged (matrix-create-vibrato m lfos wheel t x) = vibrato m lfos wheel t x
code-judged (matrix-create-velocity-to-amp m velocity t x) = placing _ m _ _
code-judged (matrix-drag-polarity at toggle) = six (λ (p : PolarityMade). p.code) (finite at) _ _ refl refl
code-judged (matrix-limit-depth at p x) = six (λ (p : Depth). p.code) (both_finite at x) _ _ refl refl
code-judged (program-stride c) = count _ _
code-judged (program-max-chunks c) = count _ _
code-judged (program-compile w tables l) = refl
code-judged (program-empty c) = refl
code-judged (engine-new ss ds c w) = refl
code-judged (engine-swap st p) = refl
code-judged (engine-set-held w i x) = refl
code-judged (engine-set-voice-held w i v x) = refl
code-judged (engine-set-base w d x) = refl
code-judged (engine-set-amount w n x) = refl
code-judged (engine-set-output w n x) = refl
code-judged (engine-set-voice-limit w n) = refl
code-judged (engine-note-on w v n) = refl
code-judged (engine-note-off w v x) = refl
code-judged (engine-voice-ended w v) = refl
code-judged (engine-is-active st v) = refl
code-judged (engine-bind s src a n stride) = refl
code-judged (engine-process w samples signals start end) = refl
code-judged (engine-output st values audio d) = outputs st values audio d
code-judged (engine-audio-part st audio d) = refl
code-judged (engine-from-part st values d) = refl
code-judged (engine-to-part st values d) = refl
code-judged (engine-frame st audio d k) = refl
code-judged (engine-at st audio d k v) = ats st audio d k v
code-judged (engine-value st values d c v) = values_of st values d c v
code-judged (engine-ramp st values d v out) = ramps st values d v out
code-judged (engine-latest st values audio d v) = latests st values audio d v
code-judged (engine-latest-all st values audio n out) = refl

-- ---- one computed test a call: its rows ascend, and their numbers are those of the page

pub rows-tested : (c : Asked) → T (ordered (numbers c) (rows c))
rows-tested (source-add s key kind scope range) = tt
rows-tested (source-find s key) = tt
rows-tested (source-standard n bytes lengths) = tt
rows-tested (dest-add ds d) = tt
rows-tested (curve-lookup t x) = tt
rows-tested (curve-slew c) = tt
rows-tested (matrix-slot m n) = tt
rows-tested (matrix-set-slot m n s) = tt
rows-tested (matrix-add m source t x p) = tt
rows-tested (matrix-remove m n) = tt
rows-tested (matrix-set-bypass m n on) = tt
rows-tested (matrix-set-amount m n x) = tt
rows-tested (matrix-set-output m n x) = tt
rows-tested (matrix-set-polarity m n p) = tt
rows-tested (matrix-set-aux m n p on) = tt
rows-tested (matrix-set-curve m tables n which t rise fall) = tt
rows-tested (matrix-set-linear m n which) = tt
rows-tested (matrix-set-note-curve m tables which t) = tt
rows-tested (matrix-sort m tables by) = tt
rows-tested (matrix-load m tables other others) = tt
rows-tested (matrix-drag m source t at x toggle limit) = tt
rows-tested (matrix-create-vibrato m lfos wheel t x) = tt
rows-tested (matrix-create-velocity-to-amp m velocity t x) = tt
rows-tested (matrix-drag-polarity at toggle) = tt
rows-tested (matrix-limit-depth at p x) = tt
rows-tested (program-stride c) = tt
rows-tested (program-max-chunks c) = tt
rows-tested (program-compile w tables l) = tt
rows-tested (program-empty c) = tt
rows-tested (engine-new ss ds c w) = tt
rows-tested (engine-swap st p) = tt
rows-tested (engine-set-held w i x) = tt
rows-tested (engine-set-voice-held w i v x) = tt
rows-tested (engine-set-base w d x) = tt
rows-tested (engine-set-amount w n x) = tt
rows-tested (engine-set-output w n x) = tt
rows-tested (engine-set-voice-limit w n) = tt
rows-tested (engine-note-on w v n) = tt
rows-tested (engine-note-off w v x) = tt
rows-tested (engine-voice-ended w v) = tt
rows-tested (engine-is-active st v) = tt
rows-tested (engine-bind s src a n stride) = tt
rows-tested (engine-process w samples signals start end) = tt
rows-tested (engine-output st values audio d) = tt
rows-tested (engine-audio-part st audio d) = tt
rows-tested (engine-from-part st values d) = tt
rows-tested (engine-to-part st values d) = tt
rows-tested (engine-frame st audio d k) = tt
rows-tested (engine-at st audio d k v) = tt
rows-tested (engine-value st values d c v) = tt
rows-tested (engine-ramp st values d v out) = tt
rows-tested (engine-latest st values audio d v) = tt
rows-tested (engine-latest-all st values audio n out) = tt

-- ---- THE THEOREM

pub lowest-number : (c : Asked) → Lowest (numbers c) (rows c) (code c)
lowest-number c = lowest-of (numbers c) (rows c) (code c) (code-judged c) (rows-tested c)

-- the first row that applies, also where rows will stand in another order than that of their numbers
pub first-number : (c : Asked) → code c ≢ 0 → First (rows c) (code c)
first-number c ne = judged-first (rows c) (code c) (sym (code-judged c)) ne
