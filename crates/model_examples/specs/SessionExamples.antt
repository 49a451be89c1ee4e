-- The definitions of calls on an engine, computed on sessions that the Rust ran (oracle/sessions.py writes this file from the oracle's answers).
use Rattle.std.specs.Prelude.{◌≡◌, refl, Bool, true, false, List, [], ◌∷◌, map, ℕ, pos, negsuc, length, replicate, Float, ltb, cond, ◌++◌}
use Rattle.std.specs.Float.{nan, inf, fin, binary32}
use Rattle.std.specs.Float.Ieee.{lt, le, eq, ne, add, sub, mul, div, is_nan, of_int, to_bits, to_unsigned, neg}
use Rattle.number.specs.Number.{zero32, abs_of, hold, max32, min32, finite, clamp_to}
use Rattle.curve_table.specs.declared.Curve.TheVariants as C
use Rattle.curve_table.specs.Curve.{seconds_of}
use Rattle.slew.specs.Slew.{rate_per_sample}
use Rattle.feed.specs.Order.{order}
use Rattle.refusal.specs.Judge.{judged}
use Rattle.list.specs.Fill.{fill}
use Rattle.list.specs.Part.{part, on_part}
use Rattle.list.specs.Padded.{padded}
use Rattle.voice.specs.Voices.{no_voices, ranks_on, sounded_on, ended_of, newest_after, active_count}
use Rattle.voice.specs.Marks.{no_marks, marks_on, marks_ended, marks_swapped, marks_cleared}
use Rattle.voice.specs.Notes.{no_notes, advanced, moving, moved_value, moved_glide, set_note, set_value, set_glide, legato_time, ended_note}
use Rattle.voice.specs.Joined.{joined}
use Rattle.state.specs.declared.Kind.TheVariants as K
use Rattle.state.specs.declared.Scope.TheVariants as S
use Rattle.state.specs.declared.Range.TheVariants as R
use Rattle.state.specs.declared.Rate.TheVariants as T
use Rattle.state.specs.declared.Feed.TheVariants as F
use Rattle.std.specs.Prelude.{None, Some}
use Rattle.state.specs.declared.Polarity.TheVariants as Q
use Rattle.state.specs.declared.NoteCurve.TheVariants as N
use Rattle.state.specs.declared.Source.{Source}
use Rattle.state.specs.declared.Dest.{Dest}
use Rattle.state.specs.declared.Slot.{Slot}
use Rattle.state.specs.declared.Wiring.{Wiring}
use Rattle.state.specs.Registry.{target_place}
use Rattle.slots_tables.specs.Tables.{slot_names, any_names, names_table}
use Rattle.model.specs.Wiring.{verdict, verdicts_from, verdicts, candidates, skipped_of}
use Rattle.model.specs.Feeds.{in_use, counted_feed, used_dests, feeder_of, readers_of, reads, hears_audio, is_audio, controls, audios, plan_order}
use Rattle.model.specs.Routes.{slew_for, input_by, route_by, route_in}
use Rattle.model.specs.Plans.{plan_by, plans_of, all_routes, compiled}
use Rattle.model.specs.Compile.{empty_of}
use Rattle.model.specs.Counts.{plan_at, route_at}
use Rattle.model.specs.Env.{part_of, sample_in}
use Rattle.model.specs.Input.{input_in}
use Rattle.model.specs.Lanes.{in_group, sounding, in_span}
use Rattle.model.specs.RouteValue.{route_value, plain}
use Rattle.model.specs.Sums.{offsets, some_plain, all_plain, plains, others, tick_sum, audio_sum}
use Rattle.model.specs.Slews.{source_after, aux_after}
use Rattle.model.specs.Tick.{fill_from, put_slews, new_to, new_from, turn, turns, tick_of}
use Rattle.model.specs.Audio.{new_audio, audio_frame, audio_frames, audio_plans, audio_of}
use Rattle.model.specs.Chunks.{chunk_total, chunk_of}
use Rattle.model.specs.World.{held_by, load_by}
use Rattle.model.specs.States.{with_voices, with_marks, with_velocity, with_key, with_gains, with_draw, with_alternate, with_limit, with_phase, with_block, with_primed, with_program, put_state, put_held, put_globals, put_bases, put_values, put_audio}
use Rattle.model.specs.Process.{moved_held, glided, draw_voices, draw_routes, rows_of_chunk, chunk_step, chunk_steps, process}
use Rattle.model.specs.Settings.{done_by, fresh_state, set_base, swap_program}
use Rattle.curve_table.specs.Table.{tabulated, diagonal_at, lookup_of, position, cell_of, part_of as partOfCell}
use Rattle.slew.specs.Slew.{reach, moved, slew_step}
use Rattle.draw.specs.Xorshift.{step, scrambled, draw_bits, draw_of}
use Rattle.list.specs.Rows.{row_at, on_row}
use Rattle.slots.specs.Slots.{kept_amount, kept_output}
use Rattle.config.specs.declared.Config.{Config}
use Rattle.state.specs.declared.Kind.{Kind}
use Rattle.state.specs.declared.Scope.{Scope}
use Rattle.state.specs.declared.Range.{Range}
use Rattle.state.specs.declared.NoteCurve.{NoteCurve}
use Rattle.state.specs.declared.Target.TheVariants as A
use Rattle.feed.specs.Numbers.{up_from}
use Rattle.voice.specs.Voices.{is_sounding}
use Rattle.voice.specs.Notes.{arrives}
use Rattle.voice.specs.Notes.{moved as glideMoved}
use Rattle.model.specs.Settings.{set_held, set_voice_held, set_amount, set_output, set_voice_limit}
use Rattle.model.specs.NoteCalls.{note_curve, randoms_set, alternates, note_on, note_off, voice_ended}
use Rattle.model.specs.Outputs.{is_audio_plan, program_dests, audio_start, from_part, to_part}
use Rattle.model.specs.Calls.{Call, held-set, voice-held-set, base-set, amount-set, limit-set, note-on, voice-ended, swap, block, Kept, Runner, kept_of, start_of, run}

abbrev source : Kind → Scope → Range → Source
source k s r = record { key = []; len = 0; kind = k; scope = s; range = r }

abbrev unused : Slot
unused = record { source = None; source_curve = C.Linear; amount = fin false 0 (pos 0); polarity = Q.Unipolar; destination = None; aux = None; aux_invert = false; aux_curve = C.Linear; output = fin false 1 (pos 0); bypass = false }

-- registries and slots as far as they are filled
abbrev wired_as : Config → List Source → List Dest → List Slot → NoteCurve → NoteCurve → Bool → Bool → Wiring
wired_as c ss ds slots v k g l =
    record {
      matrix = record { slot = slots; velocity = v; key = k; glide = g; velocity_legato = l };
      sources = record { count = length ss; entry = ss };
      dests = record { count = length ds; entry = ds };
      config = c;
    }

abbrev start_with : Wiring → List Kept → Runner
start_with w ks = start_of w.sources w.dests w.config ks

-- the two zeros as one, and one NaN
abbrev canon : Float → ℕ
canon x = cond (is_nan x) 0x7fc0_0000 (cond (eq x zero32) 0 (to_bits binary32 x))

-- what is to be seen of destination d after a block
abbrev seen_of : Runner → ℕ → List Float
seen_of r d =
    let st = r.world.state in
    cond (is_audio_plan st d)
    (part r.world.audio (audio_start st d st.block.start) (audio_start st d st.block.end))
    ((from_part st r.world.values d).numbers ++ (to_part st r.world.values d).numbers)

abbrev seen_of_all : Runner → List ℕ → List Float
seen_of_all r [] = []
seen_of_all r (d ∷ ds) = seen_of r d ++ seen_of_all r ds

abbrev seen : Runner → List ℕ
seen r = map canon (seen_of_all r (up_from 0 (program_dests r.world.state)))

-- after each list of calls
abbrev reports : List (List Call) → Runner → List (List ℕ)
reports [] r = []
reports (cs ∷ css) r = let next = run cs r in seen next ∷ reports css next

-- cases/04-chunks.txt
r0 : Runner
r0 =
    start_with (wired_as (record { sample_rate = (fin false 1 (pos 6)); max_frames = 64; voices = 1 })
    (source (K.Constant) S.Global R.Unipolar ∷ [])
    (record { target = (A.Param 0); scope = S.Global; rate = T.Control; min = (fin false 0 (pos 0)); max = (fin false 1 (pos 0)); feed = F.Nothing } ∷ [])
    (record { source = Some 0; source_curve = C.Linear; amount = (fin false 1 (negsuc 0)); polarity = Q.Unipolar; destination = Some (A.Param 0); aux = None; aux_invert = false; aux_curve = C.Linear; output = (fin false 1 (pos 0)); bypass = false } ∷ [])
    N.Linear N.Linear false false)
    (kept_of (wired_as (record { sample_rate = (fin false 1 (pos 6)); max_frames = 64; voices = 1 })
    (source (K.Constant) S.Global R.Unipolar ∷ [])
    (record { target = (A.Param 0); scope = S.Global; rate = T.Control; min = (fin false 0 (pos 0)); max = (fin false 1 (pos 0)); feed = F.Nothing } ∷ [])
    (record { source = Some 0; source_curve = C.Linear; amount = (fin false 1 (negsuc 0)); polarity = Q.Unipolar; destination = Some (A.Param 0); aux = None; aux_invert = false; aux_curve = C.Linear; output = (fin false 1 (pos 0)); bypass = false } ∷ [])
    N.Linear N.Linear false false) [] ∷ [])

c0 : List (List Call)
c0 = ((swap 1) ∷ (block ([]) (record { part = [] }) 0 5) ∷ []) ∷ ((block ([]) (record { part = [] }) 0 64) ∷ []) ∷ []

e0 : reports c0 r0 ≡ (1056964608 ∷ 1056964608 ∷ []) ∷ (1056964608 ∷ 1056964608 ∷ 1056964608 ∷ 1056964608 ∷ 1056964608 ∷ 1056964608 ∷ []) ∷ []
unfolding c0 r0 process judged chunk_steps chunk_step tick_of turns turn new_to new_from source_after aux_after put_slews fill_from tick_sum others plains offsets some_plain plain route_value input_in in_group sounding in_span plan_at route_at part_of sample_in fill part on_part rows_of_chunk audio_of audio_plans glided moved_held advanced joined moving moved_value moved_glide chunk_total chunk_of load_by active_count draw_routes put_state put_held put_globals put_values put_audio with_velocity with_key with_marks with_phase with_block with_primed with_gains with_program with_draw marks_cleared marks_swapped no_marks no_voices no_notes fresh_state empty_of swap_program compiled padded target_place verdict verdicts_from verdicts candidates skipped_of in_use counted_feed used_dests feeder_of readers_of reads hears_audio is_audio controls audios plan_order order slew_for input_by route_by route_in plan_by plans_of all_routes seconds_of rate_per_sample names_table any_names slot_names hold max32 min32 is_nan lt le eq add sub mul div of_int set_held set_voice_held set_base set_amount set_output set_voice_limit note_on note_off voice_ended run done_by note_curve randoms_set alternates sounded_on ranks_on ended_of newest_after marks_on marks_ended set_note set_value set_glide legato_time ended_note arrives glideMoved held_by draw_voices with_voices with_alternate with_limit put_bases lookup_of position cell_of partOfCell reach moved slew_step step scrambled draw_bits draw_of row_at on_row kept_amount kept_output clamp_to finite ne neg to_bits to_unsigned audio_frame audio_frames new_audio audio_sum all_plain from_part to_part is_sounding abs_of
e0 = refl

-- cases/05-constant.txt
r1 : Runner
r1 =
    start_with (wired_as (record { sample_rate = (fin false 375 (pos 7)); max_frames = 64; voices = 1 })
    (source (K.Constant) S.Global R.Unipolar ∷ [])
    (record { target = (A.Param 0); scope = S.Global; rate = T.Control; min = (fin false 0 (pos 0)); max = (fin false 1 (pos 0)); feed = F.Nothing } ∷ [])
    (record { source = Some 0; source_curve = C.Linear; amount = (fin false 1 (negsuc 0)); polarity = Q.Unipolar; destination = Some (A.Param 0); aux = None; aux_invert = false; aux_curve = C.Linear; output = (fin false 1 (pos 0)); bypass = false } ∷ [])
    N.Linear N.Linear false false)
    (kept_of (wired_as (record { sample_rate = (fin false 375 (pos 7)); max_frames = 64; voices = 1 })
    (source (K.Constant) S.Global R.Unipolar ∷ [])
    (record { target = (A.Param 0); scope = S.Global; rate = T.Control; min = (fin false 0 (pos 0)); max = (fin false 1 (pos 0)); feed = F.Nothing } ∷ [])
    (record { source = Some 0; source_curve = C.Linear; amount = (fin false 1 (negsuc 0)); polarity = Q.Unipolar; destination = Some (A.Param 0); aux = None; aux_invert = false; aux_curve = C.Linear; output = (fin false 1 (pos 0)); bypass = false } ∷ [])
    N.Linear N.Linear false false) [] ∷ [])

c1 : List (List Call)
c1 = ((base-set 0 (fin false 1 (negsuc 1))) ∷ (swap 1) ∷ (block ([]) (record { part = [] }) 0 64) ∷ []) ∷ []

e1 : reports c1 r1 ≡ (1061158912 ∷ 1061158912 ∷ 1061158912 ∷ 1061158912 ∷ []) ∷ []
unfolding c1 r1 process judged chunk_steps chunk_step tick_of turns turn new_to new_from source_after aux_after put_slews fill_from tick_sum others plains offsets some_plain plain route_value input_in in_group sounding in_span plan_at route_at part_of sample_in fill part on_part rows_of_chunk audio_of audio_plans glided moved_held advanced joined moving moved_value moved_glide chunk_total chunk_of load_by active_count draw_routes put_state put_held put_globals put_values put_audio with_velocity with_key with_marks with_phase with_block with_primed with_gains with_program with_draw marks_cleared marks_swapped no_marks no_voices no_notes fresh_state empty_of swap_program compiled padded target_place verdict verdicts_from verdicts candidates skipped_of in_use counted_feed used_dests feeder_of readers_of reads hears_audio is_audio controls audios plan_order order slew_for input_by route_by route_in plan_by plans_of all_routes seconds_of rate_per_sample names_table any_names slot_names hold max32 min32 is_nan lt le eq add sub mul div of_int set_held set_voice_held set_base set_amount set_output set_voice_limit note_on note_off voice_ended run done_by note_curve randoms_set alternates sounded_on ranks_on ended_of newest_after marks_on marks_ended set_note set_value set_glide legato_time ended_note arrives glideMoved held_by draw_voices with_voices with_alternate with_limit put_bases lookup_of position cell_of partOfCell reach moved slew_step step scrambled draw_bits draw_of row_at on_row kept_amount kept_output clamp_to finite ne neg to_bits to_unsigned audio_frame audio_frames new_audio audio_sum all_plain from_part to_part is_sounding abs_of
e1 = refl

-- cases/07-slew.txt
r2 : Runner
r2 =
    start_with (wired_as (record { sample_rate = (fin false 1 (pos 6)); max_frames = 64; voices = 1 })
    (source (K.Held) S.Global R.Unipolar ∷ [])
    (record { target = (A.Param 0); scope = S.Global; rate = T.Control; min = (fin true 1 (pos 3)); max = (fin false 1 (pos 3)); feed = F.Nothing } ∷ [])
    (record { source = Some 0; source_curve = C.Table (fin false 1 (pos 0)) (fin false 0 (pos 0)); amount = (fin false 1 (pos 0)); polarity = Q.Unipolar; destination = Some (A.Param 0); aux = None; aux_invert = false; aux_curve = C.Linear; output = (fin false 1 (pos 0)); bypass = false } ∷ [])
    N.Linear N.Linear false false)
    (kept_of (wired_as (record { sample_rate = (fin false 1 (pos 6)); max_frames = 64; voices = 1 })
    (source (K.Held) S.Global R.Unipolar ∷ [])
    (record { target = (A.Param 0); scope = S.Global; rate = T.Control; min = (fin true 1 (pos 3)); max = (fin false 1 (pos 3)); feed = F.Nothing } ∷ [])
    (record { source = Some 0; source_curve = C.Table (fin false 1 (pos 0)) (fin false 0 (pos 0)); amount = (fin false 1 (pos 0)); polarity = Q.Unipolar; destination = Some (A.Param 0); aux = None; aux_invert = false; aux_curve = C.Linear; output = (fin false 1 (pos 0)); bypass = false } ∷ [])
    N.Linear N.Linear false false) (tabulated diagonal_at ++ (replicate 66177 zero32)) ∷ [])

c2 : List (List Call)
c2 = ((swap 1) ∷ (held-set 0 (fin false 1 (pos 0))) ∷ (block ([]) (record { part = [] }) 0 64) ∷ []) ∷ ((held-set 0 (fin false 0 (pos 0))) ∷ (block ([]) (record { part = [] }) 0 32) ∷ []) ∷ []

e2 : reports c2 r2 ≡ (1056964608 ∷ 1056964608 ∷ 1056964608 ∷ 1065353216 ∷ []) ∷ (1065353216 ∷ 0 ∷ []) ∷ []
unfolding c2 r2 process judged chunk_steps chunk_step tick_of turns turn new_to new_from source_after aux_after put_slews fill_from tick_sum others plains offsets some_plain plain route_value input_in in_group sounding in_span plan_at route_at part_of sample_in fill part on_part rows_of_chunk audio_of audio_plans glided moved_held advanced joined moving moved_value moved_glide chunk_total chunk_of load_by active_count draw_routes put_state put_held put_globals put_values put_audio with_velocity with_key with_marks with_phase with_block with_primed with_gains with_program with_draw marks_cleared marks_swapped no_marks no_voices no_notes fresh_state empty_of swap_program compiled padded target_place verdict verdicts_from verdicts candidates skipped_of in_use counted_feed used_dests feeder_of readers_of reads hears_audio is_audio controls audios plan_order order slew_for input_by route_by route_in plan_by plans_of all_routes seconds_of rate_per_sample names_table any_names slot_names hold max32 min32 is_nan lt le eq add sub mul div of_int set_held set_voice_held set_base set_amount set_output set_voice_limit note_on note_off voice_ended run done_by note_curve randoms_set alternates sounded_on ranks_on ended_of newest_after marks_on marks_ended set_note set_value set_glide legato_time ended_note arrives glideMoved held_by draw_voices with_voices with_alternate with_limit put_bases lookup_of position cell_of partOfCell reach moved slew_step step scrambled draw_bits draw_of row_at on_row kept_amount kept_output clamp_to finite ne neg to_bits to_unsigned audio_frame audio_frames new_audio audio_sum all_plain from_part to_part is_sounding abs_of
e2 = refl

-- cases/08-glide.txt
r3 : Runner
r3 =
    start_with (wired_as (record { sample_rate = (fin false 1 (pos 6)); max_frames = 64; voices = 1 })
    (source (K.Velocity) S.Voice R.Unipolar ∷ source (K.Key) S.Voice R.Unipolar ∷ [])
    (record { target = (A.Param 0); scope = S.Voice; rate = T.Control; min = (fin false 0 (pos 0)); max = (fin false 1 (pos 0)); feed = F.Nothing } ∷ [])
    (record { source = Some 1; source_curve = C.Linear; amount = (fin false 1 (pos 0)); polarity = Q.Unipolar; destination = Some (A.Param 0); aux = None; aux_invert = false; aux_curve = C.Linear; output = (fin false 1 (pos 0)); bypass = false } ∷ [])
    N.Linear N.Linear true true)
    (kept_of (wired_as (record { sample_rate = (fin false 1 (pos 6)); max_frames = 64; voices = 1 })
    (source (K.Velocity) S.Voice R.Unipolar ∷ source (K.Key) S.Voice R.Unipolar ∷ [])
    (record { target = (A.Param 0); scope = S.Voice; rate = T.Control; min = (fin false 0 (pos 0)); max = (fin false 1 (pos 0)); feed = F.Nothing } ∷ [])
    (record { source = Some 1; source_curve = C.Linear; amount = (fin false 1 (pos 0)); polarity = Q.Unipolar; destination = Some (A.Param 0); aux = None; aux_invert = false; aux_curve = C.Linear; output = (fin false 1 (pos 0)); bypass = false } ∷ [])
    N.Linear N.Linear true true) [] ∷ [])

c3 : List (List Call)
c3 = ((swap 1) ∷ (note-on 0 (record { key = (fin false 0 (pos 0)); velocity = (fin false 0 (pos 0)); legato = false; glide_seconds = (fin false 0 (pos 0)) })) ∷ (note-on 0 (record { key = (fin false 127 (pos 0)); velocity = (fin false 1 (pos 0)); legato = true; glide_seconds = (fin false 1 (pos 0)) })) ∷ (block ([]) (record { part = [] }) 0 32) ∷ []) ∷ ((block ([]) (record { part = [] }) 0 32) ∷ []) ∷ []

e3 : reports c3 r3 ≡ (0 ∷ 0 ∷ 0 ∷ 0 ∷ 0 ∷ 0 ∷ 0 ∷ 0 ∷ 0 ∷ 0 ∷ 0 ∷ 0 ∷ 0 ∷ 0 ∷ 0 ∷ 0 ∷ 0 ∷ 0 ∷ 0 ∷ 0 ∷ 0 ∷ 0 ∷ 0 ∷ 0 ∷ 0 ∷ 0 ∷ 0 ∷ 0 ∷ 0 ∷ 0 ∷ 0 ∷ 0 ∷ []) ∷ (0 ∷ 0 ∷ 0 ∷ 0 ∷ 0 ∷ 0 ∷ 0 ∷ 0 ∷ 0 ∷ 0 ∷ 0 ∷ 0 ∷ 0 ∷ 0 ∷ 0 ∷ 0 ∷ 1056964608 ∷ 0 ∷ 0 ∷ 0 ∷ 0 ∷ 0 ∷ 0 ∷ 0 ∷ 0 ∷ 0 ∷ 0 ∷ 0 ∷ 0 ∷ 0 ∷ 0 ∷ 0 ∷ []) ∷ []
unfolding c3 r3 process judged chunk_steps chunk_step tick_of turns turn new_to new_from source_after aux_after put_slews fill_from tick_sum others plains offsets some_plain plain route_value input_in in_group sounding in_span plan_at route_at part_of sample_in fill part on_part rows_of_chunk audio_of audio_plans glided moved_held advanced joined moving moved_value moved_glide chunk_total chunk_of load_by active_count draw_routes put_state put_held put_globals put_values put_audio with_velocity with_key with_marks with_phase with_block with_primed with_gains with_program with_draw marks_cleared marks_swapped no_marks no_voices no_notes fresh_state empty_of swap_program compiled padded target_place verdict verdicts_from verdicts candidates skipped_of in_use counted_feed used_dests feeder_of readers_of reads hears_audio is_audio controls audios plan_order order slew_for input_by route_by route_in plan_by plans_of all_routes seconds_of rate_per_sample names_table any_names slot_names hold max32 min32 is_nan lt le eq add sub mul div of_int set_held set_voice_held set_base set_amount set_output set_voice_limit note_on note_off voice_ended run done_by note_curve randoms_set alternates sounded_on ranks_on ended_of newest_after marks_on marks_ended set_note set_value set_glide legato_time ended_note arrives glideMoved held_by draw_voices with_voices with_alternate with_limit put_bases lookup_of position cell_of partOfCell reach moved slew_step step scrambled draw_bits draw_of row_at on_row kept_amount kept_output clamp_to finite ne neg to_bits to_unsigned audio_frame audio_frames new_audio audio_sum all_plain from_part to_part is_sounding abs_of
e3 = refl

-- cases/09-bipolar.txt
r4 : Runner
r4 =
    start_with (wired_as (record { sample_rate = (fin false 1 (pos 6)); max_frames = 64; voices = 1 })
    (source (K.Held) S.Global R.Bipolar ∷ [])
    (record { target = (A.Param 0); scope = S.Global; rate = T.Control; min = (inf true); max = (inf false); feed = F.Nothing } ∷ [])
    (record { source = Some 0; source_curve = C.Linear; amount = (fin false 1 (pos 0)); polarity = Q.Bipolar; destination = Some (A.Param 0); aux = None; aux_invert = false; aux_curve = C.Linear; output = (fin false 1 (pos 0)); bypass = false } ∷ [])
    N.Linear N.Linear false false)
    (kept_of (wired_as (record { sample_rate = (fin false 1 (pos 6)); max_frames = 64; voices = 1 })
    (source (K.Held) S.Global R.Bipolar ∷ [])
    (record { target = (A.Param 0); scope = S.Global; rate = T.Control; min = (inf true); max = (inf false); feed = F.Nothing } ∷ [])
    (record { source = Some 0; source_curve = C.Linear; amount = (fin false 1 (pos 0)); polarity = Q.Bipolar; destination = Some (A.Param 0); aux = None; aux_invert = false; aux_curve = C.Linear; output = (fin false 1 (pos 0)); bypass = false } ∷ [])
    N.Linear N.Linear false false) [] ∷ [])

c4 : List (List Call)
c4 = ((swap 1) ∷ (held-set 0 (fin false 1 (negsuc 148))) ∷ (block ([]) (record { part = [] }) 0 32) ∷ []) ∷ ((held-set 0 (fin true 5033165 (negsuc 23))) ∷ (block ([]) (record { part = [] }) 0 32) ∷ []) ∷ []

e4 : reports c4 r4 ≡ (1 ∷ 1 ∷ []) ∷ (1 ∷ 3197737370 ∷ []) ∷ []
unfolding c4 r4 process judged chunk_steps chunk_step tick_of turns turn new_to new_from source_after aux_after put_slews fill_from tick_sum others plains offsets some_plain plain route_value input_in in_group sounding in_span plan_at route_at part_of sample_in fill part on_part rows_of_chunk audio_of audio_plans glided moved_held advanced joined moving moved_value moved_glide chunk_total chunk_of load_by active_count draw_routes put_state put_held put_globals put_values put_audio with_velocity with_key with_marks with_phase with_block with_primed with_gains with_program with_draw marks_cleared marks_swapped no_marks no_voices no_notes fresh_state empty_of swap_program compiled padded target_place verdict verdicts_from verdicts candidates skipped_of in_use counted_feed used_dests feeder_of readers_of reads hears_audio is_audio controls audios plan_order order slew_for input_by route_by route_in plan_by plans_of all_routes seconds_of rate_per_sample names_table any_names slot_names hold max32 min32 is_nan lt le eq add sub mul div of_int set_held set_voice_held set_base set_amount set_output set_voice_limit note_on note_off voice_ended run done_by note_curve randoms_set alternates sounded_on ranks_on ended_of newest_after marks_on marks_ended set_note set_value set_glide legato_time ended_note arrives glideMoved held_by draw_voices with_voices with_alternate with_limit put_bases lookup_of position cell_of partOfCell reach moved slew_step step scrambled draw_bits draw_of row_at on_row kept_amount kept_output clamp_to finite ne neg to_bits to_unsigned audio_frame audio_frames new_audio audio_sum all_plain from_part to_part is_sounding abs_of
e4 = refl

-- cases/10-note.txt
r5 : Runner
r5 =
    start_with (wired_as (record { sample_rate = (fin false 375 (pos 7)); max_frames = 64; voices = 1 })
    (source (K.Constant) S.Global R.Unipolar ∷ [])
    (record { target = (A.Param 0); scope = S.Global; rate = T.Control; min = (fin false 0 (pos 0)); max = (fin false 1 (pos 0)); feed = F.Nothing } ∷ [])
    (record { source = Some 0; source_curve = C.Linear; amount = (fin false 1 (negsuc 0)); polarity = Q.Unipolar; destination = Some (A.Param 0); aux = None; aux_invert = false; aux_curve = C.Linear; output = (fin false 1 (pos 0)); bypass = false } ∷ [])
    N.Linear N.Linear false false)
    (kept_of (wired_as (record { sample_rate = (fin false 375 (pos 7)); max_frames = 64; voices = 1 })
    (source (K.Constant) S.Global R.Unipolar ∷ [])
    (record { target = (A.Param 0); scope = S.Global; rate = T.Control; min = (fin false 0 (pos 0)); max = (fin false 1 (pos 0)); feed = F.Nothing } ∷ [])
    (record { source = Some 0; source_curve = C.Linear; amount = (fin false 1 (negsuc 0)); polarity = Q.Unipolar; destination = Some (A.Param 0); aux = None; aux_invert = false; aux_curve = C.Linear; output = (fin false 1 (pos 0)); bypass = false } ∷ [])
    N.Linear N.Linear false false) [] ∷ [])

c5 : List (List Call)
c5 = ((base-set 0 (fin false 1 (negsuc 1))) ∷ (block ([]) (record { part = [] }) 0 5) ∷ []) ∷ ((note-on 0 (record { key = (fin false 15 (pos 2)); velocity = (fin false 1 (pos 0)); legato = false; glide_seconds = (fin false 0 (pos 0)) })) ∷ (voice-ended 0) ∷ (swap 1) ∷ (block ([]) (record { part = [] }) 0 27) ∷ []) ∷ []

e5 : reports c5 r5 ≡ ([]) ∷ (1061158912 ∷ 1061158912 ∷ []) ∷ []
unfolding c5 r5 process judged chunk_steps chunk_step tick_of turns turn new_to new_from source_after aux_after put_slews fill_from tick_sum others plains offsets some_plain plain route_value input_in in_group sounding in_span plan_at route_at part_of sample_in fill part on_part rows_of_chunk audio_of audio_plans glided moved_held advanced joined moving moved_value moved_glide chunk_total chunk_of load_by active_count draw_routes put_state put_held put_globals put_values put_audio with_velocity with_key with_marks with_phase with_block with_primed with_gains with_program with_draw marks_cleared marks_swapped no_marks no_voices no_notes fresh_state empty_of swap_program compiled padded target_place verdict verdicts_from verdicts candidates skipped_of in_use counted_feed used_dests feeder_of readers_of reads hears_audio is_audio controls audios plan_order order slew_for input_by route_by route_in plan_by plans_of all_routes seconds_of rate_per_sample names_table any_names slot_names hold max32 min32 is_nan lt le eq add sub mul div of_int set_held set_voice_held set_base set_amount set_output set_voice_limit note_on note_off voice_ended run done_by note_curve randoms_set alternates sounded_on ranks_on ended_of newest_after marks_on marks_ended set_note set_value set_glide legato_time ended_note arrives glideMoved held_by draw_voices with_voices with_alternate with_limit put_bases lookup_of position cell_of partOfCell reach moved slew_step step scrambled draw_bits draw_of row_at on_row kept_amount kept_output clamp_to finite ne neg to_bits to_unsigned audio_frame audio_frames new_audio audio_sum all_plain from_part to_part is_sounding abs_of
e5 = refl

-- cases/10-without.txt
r6 : Runner
r6 =
    start_with (wired_as (record { sample_rate = (fin false 375 (pos 7)); max_frames = 64; voices = 1 })
    (source (K.Constant) S.Global R.Unipolar ∷ [])
    (record { target = (A.Param 0); scope = S.Global; rate = T.Control; min = (fin false 0 (pos 0)); max = (fin false 1 (pos 0)); feed = F.Nothing } ∷ [])
    (record { source = Some 0; source_curve = C.Linear; amount = (fin false 1 (negsuc 0)); polarity = Q.Unipolar; destination = Some (A.Param 0); aux = None; aux_invert = false; aux_curve = C.Linear; output = (fin false 1 (pos 0)); bypass = false } ∷ [])
    N.Linear N.Linear false false)
    (kept_of (wired_as (record { sample_rate = (fin false 375 (pos 7)); max_frames = 64; voices = 1 })
    (source (K.Constant) S.Global R.Unipolar ∷ [])
    (record { target = (A.Param 0); scope = S.Global; rate = T.Control; min = (fin false 0 (pos 0)); max = (fin false 1 (pos 0)); feed = F.Nothing } ∷ [])
    (record { source = Some 0; source_curve = C.Linear; amount = (fin false 1 (negsuc 0)); polarity = Q.Unipolar; destination = Some (A.Param 0); aux = None; aux_invert = false; aux_curve = C.Linear; output = (fin false 1 (pos 0)); bypass = false } ∷ [])
    N.Linear N.Linear false false) [] ∷ [])

c6 : List (List Call)
c6 = ((base-set 0 (fin false 1 (negsuc 1))) ∷ (block ([]) (record { part = [] }) 0 5) ∷ []) ∷ ((swap 1) ∷ (block ([]) (record { part = [] }) 0 27) ∷ []) ∷ []

e6 : reports c6 r6 ≡ ([]) ∷ (0 ∷ 0 ∷ []) ∷ []
unfolding c6 r6 process judged chunk_steps chunk_step tick_of turns turn new_to new_from source_after aux_after put_slews fill_from tick_sum others plains offsets some_plain plain route_value input_in in_group sounding in_span plan_at route_at part_of sample_in fill part on_part rows_of_chunk audio_of audio_plans glided moved_held advanced joined moving moved_value moved_glide chunk_total chunk_of load_by active_count draw_routes put_state put_held put_globals put_values put_audio with_velocity with_key with_marks with_phase with_block with_primed with_gains with_program with_draw marks_cleared marks_swapped no_marks no_voices no_notes fresh_state empty_of swap_program compiled padded target_place verdict verdicts_from verdicts candidates skipped_of in_use counted_feed used_dests feeder_of readers_of reads hears_audio is_audio controls audios plan_order order slew_for input_by route_by route_in plan_by plans_of all_routes seconds_of rate_per_sample names_table any_names slot_names hold max32 min32 is_nan lt le eq add sub mul div of_int set_held set_voice_held set_base set_amount set_output set_voice_limit note_on note_off voice_ended run done_by note_curve randoms_set alternates sounded_on ranks_on ended_of newest_after marks_on marks_ended set_note set_value set_glide legato_time ended_note arrives glideMoved held_by draw_voices with_voices with_alternate with_limit put_bases lookup_of position cell_of partOfCell reach moved slew_step step scrambled draw_bits draw_of row_at on_row kept_amount kept_output clamp_to finite ne neg to_bits to_unsigned audio_frame audio_frames new_audio audio_sum all_plain from_part to_part is_sounding abs_of
e6 = refl

-- cases/11-clamp.txt
r7 : Runner
r7 =
    start_with (wired_as (record { sample_rate = (fin false 1 (pos 6)); max_frames = 64; voices = 1 })
    (source (K.Constant) S.Global R.Unipolar ∷ [])
    (record { target = (A.Param 0); scope = S.Global; rate = T.Control; min = (inf true); max = (inf false); feed = F.Nothing } ∷ [])
    (record { source = Some 0; source_curve = C.Linear; amount = (fin false 5 (negsuc 0)); polarity = Q.Unipolar; destination = Some (A.Param 0); aux = None; aux_invert = false; aux_curve = C.Linear; output = (fin false 1 (pos 0)); bypass = false } ∷ [])
    N.Linear N.Linear false false)
    (kept_of (wired_as (record { sample_rate = (fin false 1 (pos 6)); max_frames = 64; voices = 1 })
    (source (K.Constant) S.Global R.Unipolar ∷ [])
    (record { target = (A.Param 0); scope = S.Global; rate = T.Control; min = (inf true); max = (inf false); feed = F.Nothing } ∷ [])
    (record { source = Some 0; source_curve = C.Linear; amount = (fin false 5 (negsuc 0)); polarity = Q.Unipolar; destination = Some (A.Param 0); aux = None; aux_invert = false; aux_curve = C.Linear; output = (fin false 1 (pos 0)); bypass = false } ∷ [])
    N.Linear N.Linear false false) [] ∷ [])

c7 : List (List Call)
c7 = ((swap 1) ∷ (block ([]) (record { part = [] }) 0 32) ∷ []) ∷ ((amount-set 0 (fin false 3 (negsuc 0))) ∷ (amount-set 1 (fin true 1 (pos 1))) ∷ (block ([]) (record { part = [] }) 0 32) ∷ []) ∷ []

e7 : reports c7 r7 ≡ (1075838976 ∷ 1075838976 ∷ []) ∷ (1075838976 ∷ 1065353216 ∷ []) ∷ []
unfolding c7 r7 process judged chunk_steps chunk_step tick_of turns turn new_to new_from source_after aux_after put_slews fill_from tick_sum others plains offsets some_plain plain route_value input_in in_group sounding in_span plan_at route_at part_of sample_in fill part on_part rows_of_chunk audio_of audio_plans glided moved_held advanced joined moving moved_value moved_glide chunk_total chunk_of load_by active_count draw_routes put_state put_held put_globals put_values put_audio with_velocity with_key with_marks with_phase with_block with_primed with_gains with_program with_draw marks_cleared marks_swapped no_marks no_voices no_notes fresh_state empty_of swap_program compiled padded target_place verdict verdicts_from verdicts candidates skipped_of in_use counted_feed used_dests feeder_of readers_of reads hears_audio is_audio controls audios plan_order order slew_for input_by route_by route_in plan_by plans_of all_routes seconds_of rate_per_sample names_table any_names slot_names hold max32 min32 is_nan lt le eq add sub mul div of_int set_held set_voice_held set_base set_amount set_output set_voice_limit note_on note_off voice_ended run done_by note_curve randoms_set alternates sounded_on ranks_on ended_of newest_after marks_on marks_ended set_note set_value set_glide legato_time ended_note arrives glideMoved held_by draw_voices with_voices with_alternate with_limit put_bases lookup_of position cell_of partOfCell reach moved slew_step step scrambled draw_bits draw_of row_at on_row kept_amount kept_output clamp_to finite ne neg to_bits to_unsigned audio_frame audio_frames new_audio audio_sum all_plain from_part to_part is_sounding abs_of
e7 = refl

-- cases/13-c12.txt
r8 : Runner
r8 =
    start_with (wired_as (record { sample_rate = (fin false 375 (pos 7)); max_frames = 64; voices = 1 })
    (source (K.Constant) S.Global R.Unipolar ∷ [])
    (record { target = (A.Param 0); scope = S.Global; rate = T.Control; min = (fin false 0 (pos 0)); max = (fin false 1 (pos 0)); feed = F.Nothing } ∷ record { target = (A.Param 1); scope = S.Global; rate = T.Control; min = (fin false 0 (pos 0)); max = (fin false 1 (pos 0)); feed = (F.Amount 0) } ∷ [])
    (record { source = Some 0; source_curve = C.Linear; amount = (fin false 1 (negsuc 0)); polarity = Q.Unipolar; destination = Some (A.Param 0); aux = None; aux_invert = false; aux_curve = C.Linear; output = (fin false 1 (pos 0)); bypass = false } ∷ record { source = Some 0; source_curve = C.Linear; amount = (fin false 1 (negsuc 1)); polarity = Q.Unipolar; destination = Some (A.Param 1); aux = None; aux_invert = false; aux_curve = C.Linear; output = (fin false 1 (pos 0)); bypass = false } ∷ [])
    N.Linear N.Linear false false)
    (kept_of (wired_as (record { sample_rate = (fin false 375 (pos 7)); max_frames = 64; voices = 1 })
    (source (K.Constant) S.Global R.Unipolar ∷ [])
    (record { target = (A.Param 0); scope = S.Global; rate = T.Control; min = (fin false 0 (pos 0)); max = (fin false 1 (pos 0)); feed = F.Nothing } ∷ record { target = (A.Param 1); scope = S.Global; rate = T.Control; min = (fin false 0 (pos 0)); max = (fin false 1 (pos 0)); feed = (F.Amount 0) } ∷ [])
    (record { source = Some 0; source_curve = C.Linear; amount = (fin false 1 (negsuc 0)); polarity = Q.Unipolar; destination = Some (A.Param 0); aux = None; aux_invert = false; aux_curve = C.Linear; output = (fin false 1 (pos 0)); bypass = false } ∷ record { source = Some 0; source_curve = C.Linear; amount = (fin false 1 (negsuc 1)); polarity = Q.Unipolar; destination = Some (A.Param 1); aux = None; aux_invert = false; aux_curve = C.Linear; output = (fin false 1 (pos 0)); bypass = false } ∷ [])
    N.Linear N.Linear false false) [] ∷ [])

c8 : List (List Call)
c8 = ((base-set 0 (fin false 1 (negsuc 1))) ∷ (swap 1) ∷ (block ([]) (record { part = [] }) 0 64) ∷ []) ∷ []

e8 : reports c8 r8 ≡ (1065353216 ∷ 1065353216 ∷ 1065353216 ∷ 1065353216 ∷ 1061158912 ∷ 1061158912 ∷ 1061158912 ∷ 1061158912 ∷ []) ∷ []
unfolding c8 r8 process judged chunk_steps chunk_step tick_of turns turn new_to new_from source_after aux_after put_slews fill_from tick_sum others plains offsets some_plain plain route_value input_in in_group sounding in_span plan_at route_at part_of sample_in fill part on_part rows_of_chunk audio_of audio_plans glided moved_held advanced joined moving moved_value moved_glide chunk_total chunk_of load_by active_count draw_routes put_state put_held put_globals put_values put_audio with_velocity with_key with_marks with_phase with_block with_primed with_gains with_program with_draw marks_cleared marks_swapped no_marks no_voices no_notes fresh_state empty_of swap_program compiled padded target_place verdict verdicts_from verdicts candidates skipped_of in_use counted_feed used_dests feeder_of readers_of reads hears_audio is_audio controls audios plan_order order slew_for input_by route_by route_in plan_by plans_of all_routes seconds_of rate_per_sample names_table any_names slot_names hold max32 min32 is_nan lt le eq add sub mul div of_int set_held set_voice_held set_base set_amount set_output set_voice_limit note_on note_off voice_ended run done_by note_curve randoms_set alternates sounded_on ranks_on ended_of newest_after marks_on marks_ended set_note set_value set_glide legato_time ended_note arrives glideMoved held_by draw_voices with_voices with_alternate with_limit put_bases lookup_of position cell_of partOfCell reach moved slew_step step scrambled draw_bits draw_of row_at on_row kept_amount kept_output clamp_to finite ne neg to_bits to_unsigned audio_frame audio_frames new_audio audio_sum all_plain from_part to_part is_sounding abs_of
e8 = refl

-- cases/diff-1-unread-feeder.txt
r9 : Runner
r9 =
    start_with (wired_as (record { sample_rate = (fin false 1 (pos 6)); max_frames = 64; voices = 1 })
    (source (K.Held) S.Global R.Unipolar ∷ source (K.Held) S.Global R.Unipolar ∷ source (K.Constant) S.Global R.Unipolar ∷ [])
    (record { target = (A.Param 0); scope = S.Global; rate = T.Control; min = (inf true); max = (inf false); feed = (F.Source 0) } ∷ record { target = (A.Param 1); scope = S.Global; rate = T.Control; min = (inf true); max = (inf false); feed = (F.Source 1) } ∷ record { target = (A.Param 2); scope = S.Global; rate = T.Control; min = (inf true); max = (inf false); feed = (F.Source 0) } ∷ [])
    (record { source = Some 1; source_curve = C.Linear; amount = (fin false 1 (pos 0)); polarity = Q.Unipolar; destination = Some (A.Param 0); aux = None; aux_invert = false; aux_curve = C.Linear; output = (fin false 1 (pos 0)); bypass = false } ∷ record { source = Some 0; source_curve = C.Linear; amount = (fin false 1 (pos 0)); polarity = Q.Unipolar; destination = Some (A.Param 1); aux = None; aux_invert = false; aux_curve = C.Linear; output = (fin false 1 (pos 0)); bypass = false } ∷ record { source = Some 2; source_curve = C.Linear; amount = (fin false 1 (pos 0)); polarity = Q.Unipolar; destination = Some (A.Param 2); aux = None; aux_invert = false; aux_curve = C.Linear; output = (fin false 1 (pos 0)); bypass = false } ∷ [])
    N.Linear N.Linear false false)
    (kept_of (wired_as (record { sample_rate = (fin false 1 (pos 6)); max_frames = 64; voices = 1 })
    (source (K.Held) S.Global R.Unipolar ∷ source (K.Held) S.Global R.Unipolar ∷ source (K.Constant) S.Global R.Unipolar ∷ [])
    (record { target = (A.Param 0); scope = S.Global; rate = T.Control; min = (inf true); max = (inf false); feed = (F.Source 0) } ∷ record { target = (A.Param 1); scope = S.Global; rate = T.Control; min = (inf true); max = (inf false); feed = (F.Source 1) } ∷ record { target = (A.Param 2); scope = S.Global; rate = T.Control; min = (inf true); max = (inf false); feed = (F.Source 0) } ∷ [])
    (record { source = Some 1; source_curve = C.Linear; amount = (fin false 1 (pos 0)); polarity = Q.Unipolar; destination = Some (A.Param 0); aux = None; aux_invert = false; aux_curve = C.Linear; output = (fin false 1 (pos 0)); bypass = false } ∷ record { source = Some 0; source_curve = C.Linear; amount = (fin false 1 (pos 0)); polarity = Q.Unipolar; destination = Some (A.Param 1); aux = None; aux_invert = false; aux_curve = C.Linear; output = (fin false 1 (pos 0)); bypass = false } ∷ record { source = Some 2; source_curve = C.Linear; amount = (fin false 1 (pos 0)); polarity = Q.Unipolar; destination = Some (A.Param 2); aux = None; aux_invert = false; aux_curve = C.Linear; output = (fin false 1 (pos 0)); bypass = false } ∷ [])
    N.Linear N.Linear false false) [] ∷ [])

c9 : List (List Call)
c9 = ((swap 1) ∷ (block ([]) (record { part = [] }) 0 32) ∷ []) ∷ []

e9 : reports c9 r9 ≡ (1065353216 ∷ 1065353216 ∷ 1065353216 ∷ 1065353216 ∷ 1065353216 ∷ 1065353216 ∷ []) ∷ []
unfolding c9 r9 process judged chunk_steps chunk_step tick_of turns turn new_to new_from source_after aux_after put_slews fill_from tick_sum others plains offsets some_plain plain route_value input_in in_group sounding in_span plan_at route_at part_of sample_in fill part on_part rows_of_chunk audio_of audio_plans glided moved_held advanced joined moving moved_value moved_glide chunk_total chunk_of load_by active_count draw_routes put_state put_held put_globals put_values put_audio with_velocity with_key with_marks with_phase with_block with_primed with_gains with_program with_draw marks_cleared marks_swapped no_marks no_voices no_notes fresh_state empty_of swap_program compiled padded target_place verdict verdicts_from verdicts candidates skipped_of in_use counted_feed used_dests feeder_of readers_of reads hears_audio is_audio controls audios plan_order order slew_for input_by route_by route_in plan_by plans_of all_routes seconds_of rate_per_sample names_table any_names slot_names hold max32 min32 is_nan lt le eq add sub mul div of_int set_held set_voice_held set_base set_amount set_output set_voice_limit note_on note_off voice_ended run done_by note_curve randoms_set alternates sounded_on ranks_on ended_of newest_after marks_on marks_ended set_note set_value set_glide legato_time ended_note arrives glideMoved held_by draw_voices with_voices with_alternate with_limit put_bases lookup_of position cell_of partOfCell reach moved slew_step step scrambled draw_bits draw_of row_at on_row kept_amount kept_output clamp_to finite ne neg to_bits to_unsigned audio_frame audio_frames new_audio audio_sum all_plain from_part to_part is_sounding abs_of
e9 = refl

-- cases/diff-2-global-slew.txt
r10 : Runner
r10 =
    start_with (wired_as (record { sample_rate = (fin false 1 (pos 6)); max_frames = 64; voices = 1 })
    (source (K.Held) S.Global R.Unipolar ∷ source (K.Held) S.Voice R.Unipolar ∷ [])
    (record { target = (A.Param 0); scope = S.Voice; rate = T.Control; min = (inf true); max = (inf false); feed = F.Nothing } ∷ record { target = (A.Param 1); scope = S.Voice; rate = T.Control; min = (inf true); max = (inf false); feed = F.Nothing } ∷ [])
    (record { source = Some 0; source_curve = C.Table (fin false 1 (pos 0)) (fin false 0 (pos 0)); amount = (fin false 1 (pos 0)); polarity = Q.Unipolar; destination = Some (A.Param 0); aux = None; aux_invert = false; aux_curve = C.Linear; output = (fin false 1 (pos 0)); bypass = false } ∷ record { source = Some 1; source_curve = C.Table (fin false 1 (pos 0)) (fin false 0 (pos 0)); amount = (fin false 1 (pos 0)); polarity = Q.Unipolar; destination = Some (A.Param 1); aux = None; aux_invert = false; aux_curve = C.Linear; output = (fin false 1 (pos 0)); bypass = false } ∷ [])
    N.Linear N.Linear false false)
    (kept_of (wired_as (record { sample_rate = (fin false 1 (pos 6)); max_frames = 64; voices = 1 })
    (source (K.Held) S.Global R.Unipolar ∷ source (K.Held) S.Voice R.Unipolar ∷ [])
    (record { target = (A.Param 0); scope = S.Voice; rate = T.Control; min = (inf true); max = (inf false); feed = F.Nothing } ∷ record { target = (A.Param 1); scope = S.Voice; rate = T.Control; min = (inf true); max = (inf false); feed = F.Nothing } ∷ [])
    (record { source = Some 0; source_curve = C.Table (fin false 1 (pos 0)) (fin false 0 (pos 0)); amount = (fin false 1 (pos 0)); polarity = Q.Unipolar; destination = Some (A.Param 0); aux = None; aux_invert = false; aux_curve = C.Linear; output = (fin false 1 (pos 0)); bypass = false } ∷ record { source = Some 1; source_curve = C.Table (fin false 1 (pos 0)) (fin false 0 (pos 0)); amount = (fin false 1 (pos 0)); polarity = Q.Unipolar; destination = Some (A.Param 1); aux = None; aux_invert = false; aux_curve = C.Linear; output = (fin false 1 (pos 0)); bypass = false } ∷ [])
    N.Linear N.Linear false false) (tabulated diagonal_at ++ (replicate 513 zero32 ++ (tabulated diagonal_at ++ (replicate 65151 zero32)))) ∷ [])

c10 : List (List Call)
c10 = ((swap 1) ∷ (held-set 0 (fin false 1 (pos 0))) ∷ (held-set 1 (fin false 1 (pos 0))) ∷ (note-on 0 (record { key = (fin false 15 (pos 2)); velocity = (fin false 1 (pos 0)); legato = false; glide_seconds = (fin false 0 (pos 0)) })) ∷ (block ([]) (record { part = [] }) 0 32) ∷ []) ∷ []

e10 : reports c10 r10 ≡ (1056964608 ∷ 1056964608 ∷ 1056964608 ∷ 1056964608 ∷ 1056964608 ∷ 1056964608 ∷ 1056964608 ∷ 1056964608 ∷ 1056964608 ∷ 1056964608 ∷ 1056964608 ∷ 1056964608 ∷ 1056964608 ∷ 1056964608 ∷ 1056964608 ∷ 1056964608 ∷ 1056964608 ∷ 1056964608 ∷ 1056964608 ∷ 1056964608 ∷ 1056964608 ∷ 1056964608 ∷ 1056964608 ∷ 1056964608 ∷ 1056964608 ∷ 1056964608 ∷ 1056964608 ∷ 1056964608 ∷ 1056964608 ∷ 1056964608 ∷ 1056964608 ∷ 1056964608 ∷ 1065353216 ∷ 1056964608 ∷ 1056964608 ∷ 1056964608 ∷ 1056964608 ∷ 1056964608 ∷ 1056964608 ∷ 1056964608 ∷ 1056964608 ∷ 1056964608 ∷ 1056964608 ∷ 1056964608 ∷ 1056964608 ∷ 1056964608 ∷ 1056964608 ∷ 1056964608 ∷ 1065353216 ∷ 1056964608 ∷ 1056964608 ∷ 1056964608 ∷ 1056964608 ∷ 1056964608 ∷ 1056964608 ∷ 1056964608 ∷ 1056964608 ∷ 1056964608 ∷ 1056964608 ∷ 1056964608 ∷ 1056964608 ∷ 1056964608 ∷ 1056964608 ∷ 1056964608 ∷ []) ∷ []
unfolding c10 r10 process judged chunk_steps chunk_step tick_of turns turn new_to new_from source_after aux_after put_slews fill_from tick_sum others plains offsets some_plain plain route_value input_in in_group sounding in_span plan_at route_at part_of sample_in fill part on_part rows_of_chunk audio_of audio_plans glided moved_held advanced joined moving moved_value moved_glide chunk_total chunk_of load_by active_count draw_routes put_state put_held put_globals put_values put_audio with_velocity with_key with_marks with_phase with_block with_primed with_gains with_program with_draw marks_cleared marks_swapped no_marks no_voices no_notes fresh_state empty_of swap_program compiled padded target_place verdict verdicts_from verdicts candidates skipped_of in_use counted_feed used_dests feeder_of readers_of reads hears_audio is_audio controls audios plan_order order slew_for input_by route_by route_in plan_by plans_of all_routes seconds_of rate_per_sample names_table any_names slot_names hold max32 min32 is_nan lt le eq add sub mul div of_int set_held set_voice_held set_base set_amount set_output set_voice_limit note_on note_off voice_ended run done_by note_curve randoms_set alternates sounded_on ranks_on ended_of newest_after marks_on marks_ended set_note set_value set_glide legato_time ended_note arrives glideMoved held_by draw_voices with_voices with_alternate with_limit put_bases lookup_of position cell_of partOfCell reach moved slew_step step scrambled draw_bits draw_of row_at on_row kept_amount kept_output clamp_to finite ne neg to_bits to_unsigned audio_frame audio_frames new_audio audio_sum all_plain from_part to_part is_sounding abs_of
e10 = refl

-- cases/diff-4-groups.txt
r12 : Runner
r12 =
    start_with (wired_as (record { sample_rate = (fin false 1 (pos 6)); max_frames = 64; voices = 48 })
    (source (K.Held) S.Voice R.Unipolar ∷ source (K.Constant) S.Global R.Unipolar ∷ [])
    (record { target = (A.Param 0); scope = S.Voice; rate = T.Control; min = (inf true); max = (inf false); feed = F.Nothing } ∷ [])
    (record { source = Some 0; source_curve = C.Linear; amount = (fin false 1 (pos 0)); polarity = Q.Unipolar; destination = Some (A.Param 0); aux = None; aux_invert = false; aux_curve = C.Linear; output = (fin false 1 (pos 0)); bypass = false } ∷ record { source = Some 1; source_curve = C.Linear; amount = (fin false 1 (negsuc 0)); polarity = Q.Unipolar; destination = Some (A.Param 0); aux = None; aux_invert = false; aux_curve = C.Linear; output = (fin false 1 (pos 0)); bypass = false } ∷ [])
    N.Linear N.Linear false false)
    (kept_of (wired_as (record { sample_rate = (fin false 1 (pos 6)); max_frames = 64; voices = 48 })
    (source (K.Held) S.Voice R.Unipolar ∷ source (K.Constant) S.Global R.Unipolar ∷ [])
    (record { target = (A.Param 0); scope = S.Voice; rate = T.Control; min = (inf true); max = (inf false); feed = F.Nothing } ∷ [])
    (record { source = Some 0; source_curve = C.Linear; amount = (fin false 1 (pos 0)); polarity = Q.Unipolar; destination = Some (A.Param 0); aux = None; aux_invert = false; aux_curve = C.Linear; output = (fin false 1 (pos 0)); bypass = false } ∷ record { source = Some 1; source_curve = C.Linear; amount = (fin false 1 (negsuc 0)); polarity = Q.Unipolar; destination = Some (A.Param 0); aux = None; aux_invert = false; aux_curve = C.Linear; output = (fin false 1 (pos 0)); bypass = false } ∷ [])
    N.Linear N.Linear false false) [] ∷ [])

c12 : List (List Call)
c12 = ((swap 1) ∷ (held-set 0 (fin false 1 (negsuc 1))) ∷ (note-on 0 (record { key = (fin false 15 (pos 2)); velocity = (fin false 1 (pos 0)); legato = false; glide_seconds = (fin false 0 (pos 0)) })) ∷ (note-on 32 (record { key = (fin false 15 (pos 2)); velocity = (fin false 1 (pos 0)); legato = false; glide_seconds = (fin false 0 (pos 0)) })) ∷ (block ([]) (record { part = [] }) 0 32) ∷ []) ∷ []

e12 : reports c12 r12 ≡ (1061158912 ∷ 1061158912 ∷ 1061158912 ∷ 1061158912 ∷ 1061158912 ∷ 1061158912 ∷ 1061158912 ∷ 1061158912 ∷ 1061158912 ∷ 1061158912 ∷ 1061158912 ∷ 1061158912 ∷ 1061158912 ∷ 1061158912 ∷ 1061158912 ∷ 1061158912 ∷ 1048576000 ∷ 1048576000 ∷ 1048576000 ∷ 1048576000 ∷ 1048576000 ∷ 1048576000 ∷ 1048576000 ∷ 1048576000 ∷ 1048576000 ∷ 1048576000 ∷ 1048576000 ∷ 1048576000 ∷ 1048576000 ∷ 1048576000 ∷ 1048576000 ∷ 1048576000 ∷ 1061158912 ∷ 1061158912 ∷ 1061158912 ∷ 1061158912 ∷ 1061158912 ∷ 1061158912 ∷ 1061158912 ∷ 1061158912 ∷ 1061158912 ∷ 1061158912 ∷ 1061158912 ∷ 1061158912 ∷ 1061158912 ∷ 1061158912 ∷ 1061158912 ∷ 1061158912 ∷ 1061158912 ∷ 1061158912 ∷ 1061158912 ∷ 1061158912 ∷ 1061158912 ∷ 1061158912 ∷ 1061158912 ∷ 1061158912 ∷ 1061158912 ∷ 1061158912 ∷ 1061158912 ∷ 1061158912 ∷ 1061158912 ∷ 1061158912 ∷ 1061158912 ∷ 1061158912 ∷ 1048576000 ∷ 1048576000 ∷ 1048576000 ∷ 1048576000 ∷ 1048576000 ∷ 1048576000 ∷ 1048576000 ∷ 1048576000 ∷ 1048576000 ∷ 1048576000 ∷ 1048576000 ∷ 1048576000 ∷ 1048576000 ∷ 1048576000 ∷ 1048576000 ∷ 1048576000 ∷ 1061158912 ∷ 1061158912 ∷ 1061158912 ∷ 1061158912 ∷ 1061158912 ∷ 1061158912 ∷ 1061158912 ∷ 1061158912 ∷ 1061158912 ∷ 1061158912 ∷ 1061158912 ∷ 1061158912 ∷ 1061158912 ∷ 1061158912 ∷ 1061158912 ∷ 1061158912 ∷ []) ∷ []
unfolding c12 r12 process judged chunk_steps chunk_step tick_of turns turn new_to new_from source_after aux_after put_slews fill_from tick_sum others plains offsets some_plain plain route_value input_in in_group sounding in_span plan_at route_at part_of sample_in fill part on_part rows_of_chunk audio_of audio_plans glided moved_held advanced joined moving moved_value moved_glide chunk_total chunk_of load_by active_count draw_routes put_state put_held put_globals put_values put_audio with_velocity with_key with_marks with_phase with_block with_primed with_gains with_program with_draw marks_cleared marks_swapped no_marks no_voices no_notes fresh_state empty_of swap_program compiled padded target_place verdict verdicts_from verdicts candidates skipped_of in_use counted_feed used_dests feeder_of readers_of reads hears_audio is_audio controls audios plan_order order slew_for input_by route_by route_in plan_by plans_of all_routes seconds_of rate_per_sample names_table any_names slot_names hold max32 min32 is_nan lt le eq add sub mul div of_int set_held set_voice_held set_base set_amount set_output set_voice_limit note_on note_off voice_ended run done_by note_curve randoms_set alternates sounded_on ranks_on ended_of newest_after marks_on marks_ended set_note set_value set_glide legato_time ended_note arrives glideMoved held_by draw_voices with_voices with_alternate with_limit put_bases lookup_of position cell_of partOfCell reach moved slew_step step scrambled draw_bits draw_of row_at on_row kept_amount kept_output clamp_to finite ne neg to_bits to_unsigned audio_frame audio_frames new_audio audio_sum all_plain from_part to_part is_sounding abs_of
e12 = refl

-- cases/diff-5-no-voice.txt
r13 : Runner
r13 =
    start_with (wired_as (record { sample_rate = (fin false 1 (pos 6)); max_frames = 1; voices = 1 })
    (source (K.Held) S.Voice R.Unipolar ∷ [])
    (record { target = (A.Param 0); scope = S.Voice; rate = T.Audio; min = (inf true); max = (inf false); feed = F.Nothing } ∷ [])
    (record { source = Some 0; source_curve = C.Linear; amount = (fin false 1 (pos 0)); polarity = Q.Unipolar; destination = Some (A.Param 0); aux = None; aux_invert = false; aux_curve = C.Linear; output = (fin false 1 (pos 0)); bypass = false } ∷ [])
    N.Linear N.Linear false false)
    (kept_of (wired_as (record { sample_rate = (fin false 1 (pos 6)); max_frames = 1; voices = 1 })
    (source (K.Held) S.Voice R.Unipolar ∷ [])
    (record { target = (A.Param 0); scope = S.Voice; rate = T.Audio; min = (inf true); max = (inf false); feed = F.Nothing } ∷ [])
    (record { source = Some 0; source_curve = C.Linear; amount = (fin false 1 (pos 0)); polarity = Q.Unipolar; destination = Some (A.Param 0); aux = None; aux_invert = false; aux_curve = C.Linear; output = (fin false 1 (pos 0)); bypass = false } ∷ [])
    N.Linear N.Linear false false) [] ∷ [])

c13 : List (List Call)
c13 = ((swap 1) ∷ (held-set 0 (fin false 1 (pos 0))) ∷ (note-on 0 (record { key = (fin false 15 (pos 2)); velocity = (fin false 1 (pos 0)); legato = false; glide_seconds = (fin false 0 (pos 0)) })) ∷ (block ([]) (record { part = [] }) 0 1) ∷ []) ∷ ((voice-ended 0) ∷ (block ([]) (record { part = [] }) 0 1) ∷ []) ∷ []

e13 : reports c13 r13 ≡ (1065353216 ∷ 1065353216 ∷ 1065353216 ∷ 1065353216 ∷ 1065353216 ∷ 1065353216 ∷ 1065353216 ∷ 1065353216 ∷ 1065353216 ∷ 1065353216 ∷ 1065353216 ∷ 1065353216 ∷ 1065353216 ∷ 1065353216 ∷ 1065353216 ∷ 1065353216 ∷ []) ∷ (0 ∷ 0 ∷ 0 ∷ 0 ∷ 0 ∷ 0 ∷ 0 ∷ 0 ∷ 0 ∷ 0 ∷ 0 ∷ 0 ∷ 0 ∷ 0 ∷ 0 ∷ 0 ∷ []) ∷ []
unfolding c13 r13 process judged chunk_steps chunk_step tick_of turns turn new_to new_from source_after aux_after put_slews fill_from tick_sum others plains offsets some_plain plain route_value input_in in_group sounding in_span plan_at route_at part_of sample_in fill part on_part rows_of_chunk audio_of audio_plans glided moved_held advanced joined moving moved_value moved_glide chunk_total chunk_of load_by active_count draw_routes put_state put_held put_globals put_values put_audio with_velocity with_key with_marks with_phase with_block with_primed with_gains with_program with_draw marks_cleared marks_swapped no_marks no_voices no_notes fresh_state empty_of swap_program compiled padded target_place verdict verdicts_from verdicts candidates skipped_of in_use counted_feed used_dests feeder_of readers_of reads hears_audio is_audio controls audios plan_order order slew_for input_by route_by route_in plan_by plans_of all_routes seconds_of rate_per_sample names_table any_names slot_names hold max32 min32 is_nan lt le eq add sub mul div of_int set_held set_voice_held set_base set_amount set_output set_voice_limit note_on note_off voice_ended run done_by note_curve randoms_set alternates sounded_on ranks_on ended_of newest_after marks_on marks_ended set_note set_value set_glide legato_time ended_note arrives glideMoved held_by draw_voices with_voices with_alternate with_limit put_bases lookup_of position cell_of partOfCell reach moved slew_step step scrambled draw_bits draw_of row_at on_row kept_amount kept_output clamp_to finite ne neg to_bits to_unsigned audio_frame audio_frames new_audio audio_sum all_plain from_part to_part is_sounding abs_of
e13 = refl

-- cases/diff-6-constant-scope.txt
r14 : Runner
r14 =
    start_with (wired_as (record { sample_rate = (fin false 1 (pos 6)); max_frames = 32; voices = 1 })
    (source (K.Constant) S.Voice R.Unipolar ∷ [])
    (record { target = (A.Param 0); scope = S.Global; rate = T.Control; min = (inf true); max = (inf false); feed = F.Nothing } ∷ [])
    (record { source = Some 0; source_curve = C.Linear; amount = (fin false 1 (negsuc 0)); polarity = Q.Unipolar; destination = Some (A.Param 0); aux = None; aux_invert = false; aux_curve = C.Linear; output = (fin false 1 (pos 0)); bypass = false } ∷ [])
    N.Linear N.Linear false false)
    (kept_of (wired_as (record { sample_rate = (fin false 1 (pos 6)); max_frames = 32; voices = 1 })
    (source (K.Constant) S.Voice R.Unipolar ∷ [])
    (record { target = (A.Param 0); scope = S.Global; rate = T.Control; min = (inf true); max = (inf false); feed = F.Nothing } ∷ [])
    (record { source = Some 0; source_curve = C.Linear; amount = (fin false 1 (negsuc 0)); polarity = Q.Unipolar; destination = Some (A.Param 0); aux = None; aux_invert = false; aux_curve = C.Linear; output = (fin false 1 (pos 0)); bypass = false } ∷ [])
    N.Linear N.Linear false false) [] ∷ [])

c14 : List (List Call)
c14 = ((swap 1) ∷ (block ([]) (record { part = [] }) 0 32) ∷ []) ∷ []

e14 : reports c14 r14 ≡ (1056964608 ∷ 1056964608 ∷ []) ∷ []
unfolding c14 r14 process judged chunk_steps chunk_step tick_of turns turn new_to new_from source_after aux_after put_slews fill_from tick_sum others plains offsets some_plain plain route_value input_in in_group sounding in_span plan_at route_at part_of sample_in fill part on_part rows_of_chunk audio_of audio_plans glided moved_held advanced joined moving moved_value moved_glide chunk_total chunk_of load_by active_count draw_routes put_state put_held put_globals put_values put_audio with_velocity with_key with_marks with_phase with_block with_primed with_gains with_program with_draw marks_cleared marks_swapped no_marks no_voices no_notes fresh_state empty_of swap_program compiled padded target_place verdict verdicts_from verdicts candidates skipped_of in_use counted_feed used_dests feeder_of readers_of reads hears_audio is_audio controls audios plan_order order slew_for input_by route_by route_in plan_by plans_of all_routes seconds_of rate_per_sample names_table any_names slot_names hold max32 min32 is_nan lt le eq add sub mul div of_int set_held set_voice_held set_base set_amount set_output set_voice_limit note_on note_off voice_ended run done_by note_curve randoms_set alternates sounded_on ranks_on ended_of newest_after marks_on marks_ended set_note set_value set_glide legato_time ended_note arrives glideMoved held_by draw_voices with_voices with_alternate with_limit put_bases lookup_of position cell_of partOfCell reach moved slew_step step scrambled draw_bits draw_of row_at on_row kept_amount kept_output clamp_to finite ne neg to_bits to_unsigned audio_frame audio_frames new_audio audio_sum all_plain from_part to_part is_sounding abs_of
e14 = refl

-- cases/diff-7-nan-slew.txt
r15 : Runner
r15 =
    start_with (wired_as (record { sample_rate = (fin false 1 (pos 6)); max_frames = 32; voices = 2 })
    (source (K.Signal) S.Voice R.Unipolar ∷ [])
    (record { target = (A.Param 0); scope = S.Voice; rate = T.Control; min = (inf true); max = (inf false); feed = F.Nothing } ∷ [])
    (record { source = Some 0; source_curve = C.Table (fin false 1 (pos 0)) (fin false 1 (pos 0)); amount = (fin false 1 (pos 0)); polarity = Q.Unipolar; destination = Some (A.Param 0); aux = None; aux_invert = false; aux_curve = C.Linear; output = (fin false 1 (pos 0)); bypass = false } ∷ [])
    N.Linear N.Linear false false)
    (kept_of (wired_as (record { sample_rate = (fin false 1 (pos 6)); max_frames = 32; voices = 2 })
    (source (K.Signal) S.Voice R.Unipolar ∷ [])
    (record { target = (A.Param 0); scope = S.Voice; rate = T.Control; min = (inf true); max = (inf false); feed = F.Nothing } ∷ [])
    (record { source = Some 0; source_curve = C.Table (fin false 1 (pos 0)) (fin false 1 (pos 0)); amount = (fin false 1 (pos 0)); polarity = Q.Unipolar; destination = Some (A.Param 0); aux = None; aux_invert = false; aux_curve = C.Linear; output = (fin false 1 (pos 0)); bypass = false } ∷ [])
    N.Linear N.Linear false false) (tabulated diagonal_at ++ (replicate 66177 zero32)) ∷ [])

c15 : List (List Call)
c15 = ((swap 1) ∷ (note-on 0 (record { key = (fin false 15 (pos 2)); velocity = (fin false 1 (pos 0)); legato = false; glide_seconds = (fin false 0 (pos 0)) })) ∷ (block ((fin false 1 (negsuc 1)) ∷ (fin false 1 (negsuc 1)) ∷ []) (record { part = record { at = 0; len = 2; stride = 2 } ∷ [] }) 0 1) ∷ []) ∷ ((note-on 1 (record { key = (fin false 15 (pos 2)); velocity = (fin false 1 (pos 0)); legato = false; glide_seconds = (fin false 0 (pos 0)) })) ∷ (block (nan ∷ (fin false 1 (negsuc 1)) ∷ []) (record { part = record { at = 0; len = 2; stride = 2 } ∷ [] }) 0 1) ∷ []) ∷ ((block ((fin false 1 (negsuc 1)) ∷ (fin false 1 (negsuc 1)) ∷ []) (record { part = record { at = 0; len = 2; stride = 2 } ∷ [] }) 0 30) ∷ []) ∷ ((block ((fin false 1 (negsuc 1)) ∷ (fin false 1 (negsuc 1)) ∷ []) (record { part = record { at = 0; len = 2; stride = 2 } ∷ [] }) 0 1) ∷ []) ∷ []

e15 : reports c15 r15 ≡ (1048576000 ∷ 1048576000 ∷ 0 ∷ 0 ∷ 0 ∷ 0 ∷ 0 ∷ 0 ∷ 0 ∷ 0 ∷ 0 ∷ 0 ∷ 0 ∷ 0 ∷ 0 ∷ 0 ∷ 1048576000 ∷ 1048576000 ∷ 0 ∷ 0 ∷ 0 ∷ 0 ∷ 0 ∷ 0 ∷ 0 ∷ 0 ∷ 0 ∷ 0 ∷ 0 ∷ 0 ∷ 0 ∷ 0 ∷ []) ∷ (1048576000 ∷ 1048576000 ∷ 0 ∷ 0 ∷ 0 ∷ 0 ∷ 0 ∷ 0 ∷ 0 ∷ 0 ∷ 0 ∷ 0 ∷ 0 ∷ 0 ∷ 0 ∷ 0 ∷ 1048576000 ∷ 1048576000 ∷ 0 ∷ 0 ∷ 0 ∷ 0 ∷ 0 ∷ 0 ∷ 0 ∷ 0 ∷ 0 ∷ 0 ∷ 0 ∷ 0 ∷ 0 ∷ 0 ∷ []) ∷ (1048576000 ∷ 1048576000 ∷ 0 ∷ 0 ∷ 0 ∷ 0 ∷ 0 ∷ 0 ∷ 0 ∷ 0 ∷ 0 ∷ 0 ∷ 0 ∷ 0 ∷ 0 ∷ 0 ∷ 1048576000 ∷ 1048576000 ∷ 0 ∷ 0 ∷ 0 ∷ 0 ∷ 0 ∷ 0 ∷ 0 ∷ 0 ∷ 0 ∷ 0 ∷ 0 ∷ 0 ∷ 0 ∷ 0 ∷ []) ∷ (1048576000 ∷ 1048576000 ∷ 0 ∷ 0 ∷ 0 ∷ 0 ∷ 0 ∷ 0 ∷ 0 ∷ 0 ∷ 0 ∷ 0 ∷ 0 ∷ 0 ∷ 0 ∷ 0 ∷ 4286578688 ∷ 1048576000 ∷ 0 ∷ 0 ∷ 0 ∷ 0 ∷ 0 ∷ 0 ∷ 0 ∷ 0 ∷ 0 ∷ 0 ∷ 0 ∷ 0 ∷ 0 ∷ 0 ∷ []) ∷ []
unfolding c15 r15 process judged chunk_steps chunk_step tick_of turns turn new_to new_from source_after aux_after put_slews fill_from tick_sum others plains offsets some_plain plain route_value input_in in_group sounding in_span plan_at route_at part_of sample_in fill part on_part rows_of_chunk audio_of audio_plans glided moved_held advanced joined moving moved_value moved_glide chunk_total chunk_of load_by active_count draw_routes put_state put_held put_globals put_values put_audio with_velocity with_key with_marks with_phase with_block with_primed with_gains with_program with_draw marks_cleared marks_swapped no_marks no_voices no_notes fresh_state empty_of swap_program compiled padded target_place verdict verdicts_from verdicts candidates skipped_of in_use counted_feed used_dests feeder_of readers_of reads hears_audio is_audio controls audios plan_order order slew_for input_by route_by route_in plan_by plans_of all_routes seconds_of rate_per_sample names_table any_names slot_names hold max32 min32 is_nan lt le eq add sub mul div of_int set_held set_voice_held set_base set_amount set_output set_voice_limit note_on note_off voice_ended run done_by note_curve randoms_set alternates sounded_on ranks_on ended_of newest_after marks_on marks_ended set_note set_value set_glide legato_time ended_note arrives glideMoved held_by draw_voices with_voices with_alternate with_limit put_bases lookup_of position cell_of partOfCell reach moved slew_step step scrambled draw_bits draw_of row_at on_row kept_amount kept_output clamp_to finite ne neg to_bits to_unsigned audio_frame audio_frames new_audio audio_sum all_plain from_part to_part is_sounding abs_of
e15 = refl

-- cases/diff-8-set-held.txt
r16 : Runner
r16 =
    start_with (wired_as (record { sample_rate = (fin false 1 (pos 6)); max_frames = 32; voices = 1 })
    (source (K.Velocity) S.Voice R.Unipolar ∷ [])
    (record { target = (A.Param 0); scope = S.Voice; rate = T.Control; min = (inf true); max = (inf false); feed = F.Nothing } ∷ [])
    (record { source = Some 0; source_curve = C.Linear; amount = (fin false 1 (pos 0)); polarity = Q.Unipolar; destination = Some (A.Param 0); aux = None; aux_invert = false; aux_curve = C.Linear; output = (fin false 1 (pos 0)); bypass = false } ∷ [])
    N.Linear N.Linear false false)
    (kept_of (wired_as (record { sample_rate = (fin false 1 (pos 6)); max_frames = 32; voices = 1 })
    (source (K.Velocity) S.Voice R.Unipolar ∷ [])
    (record { target = (A.Param 0); scope = S.Voice; rate = T.Control; min = (inf true); max = (inf false); feed = F.Nothing } ∷ [])
    (record { source = Some 0; source_curve = C.Linear; amount = (fin false 1 (pos 0)); polarity = Q.Unipolar; destination = Some (A.Param 0); aux = None; aux_invert = false; aux_curve = C.Linear; output = (fin false 1 (pos 0)); bypass = false } ∷ [])
    N.Linear N.Linear false false) [] ∷ [])

c16 : List (List Call)
c16 = ((swap 1) ∷ (note-on 0 (record { key = (fin false 15 (pos 2)); velocity = (fin false 1 (pos 0)); legato = false; glide_seconds = (fin false 0 (pos 0)) })) ∷ (held-set 0 (fin false 3 (negsuc 1))) ∷ (block ([]) (record { part = [] }) 0 32) ∷ []) ∷ []

e16 : reports c16 r16 ≡ (1061158912 ∷ 1061158912 ∷ 1061158912 ∷ 1061158912 ∷ 1061158912 ∷ 1061158912 ∷ 1061158912 ∷ 1061158912 ∷ 1061158912 ∷ 1061158912 ∷ 1061158912 ∷ 1061158912 ∷ 1061158912 ∷ 1061158912 ∷ 1061158912 ∷ 1061158912 ∷ 1061158912 ∷ 1061158912 ∷ 1061158912 ∷ 1061158912 ∷ 1061158912 ∷ 1061158912 ∷ 1061158912 ∷ 1061158912 ∷ 1061158912 ∷ 1061158912 ∷ 1061158912 ∷ 1061158912 ∷ 1061158912 ∷ 1061158912 ∷ 1061158912 ∷ 1061158912 ∷ []) ∷ []
unfolding c16 r16 process judged chunk_steps chunk_step tick_of turns turn new_to new_from source_after aux_after put_slews fill_from tick_sum others plains offsets some_plain plain route_value input_in in_group sounding in_span plan_at route_at part_of sample_in fill part on_part rows_of_chunk audio_of audio_plans glided moved_held advanced joined moving moved_value moved_glide chunk_total chunk_of load_by active_count draw_routes put_state put_held put_globals put_values put_audio with_velocity with_key with_marks with_phase with_block with_primed with_gains with_program with_draw marks_cleared marks_swapped no_marks no_voices no_notes fresh_state empty_of swap_program compiled padded target_place verdict verdicts_from verdicts candidates skipped_of in_use counted_feed used_dests feeder_of readers_of reads hears_audio is_audio controls audios plan_order order slew_for input_by route_by route_in plan_by plans_of all_routes seconds_of rate_per_sample names_table any_names slot_names hold max32 min32 is_nan lt le eq add sub mul div of_int set_held set_voice_held set_base set_amount set_output set_voice_limit note_on note_off voice_ended run done_by note_curve randoms_set alternates sounded_on ranks_on ended_of newest_after marks_on marks_ended set_note set_value set_glide legato_time ended_note arrives glideMoved held_by draw_voices with_voices with_alternate with_limit put_bases lookup_of position cell_of partOfCell reach moved slew_step step scrambled draw_bits draw_of row_at on_row kept_amount kept_output clamp_to finite ne neg to_bits to_unsigned audio_frame audio_frames new_audio audio_sum all_plain from_part to_part is_sounding abs_of
e16 = refl

-- cases/t01-plain-zero-amount-keeps-audio.txt
r17 : Runner
r17 =
    start_with (wired_as (record { sample_rate = (fin false 1 (pos 6)); max_frames = 1; voices = 32 })
    (source (K.Held) S.Voice R.Unipolar ∷ [])
    (record { target = (A.Param 0); scope = S.Voice; rate = T.Audio; min = (inf true); max = (inf false); feed = F.Nothing } ∷ [])
    (record { source = Some 0; source_curve = C.Linear; amount = (fin false 1 (pos 0)); polarity = Q.Unipolar; destination = Some (A.Param 0); aux = None; aux_invert = false; aux_curve = C.Linear; output = (fin false 1 (pos 0)); bypass = false } ∷ [])
    N.Linear N.Linear false false)
    (kept_of (wired_as (record { sample_rate = (fin false 1 (pos 6)); max_frames = 1; voices = 32 })
    (source (K.Held) S.Voice R.Unipolar ∷ [])
    (record { target = (A.Param 0); scope = S.Voice; rate = T.Audio; min = (inf true); max = (inf false); feed = F.Nothing } ∷ [])
    (record { source = Some 0; source_curve = C.Linear; amount = (fin false 1 (pos 0)); polarity = Q.Unipolar; destination = Some (A.Param 0); aux = None; aux_invert = false; aux_curve = C.Linear; output = (fin false 1 (pos 0)); bypass = false } ∷ [])
    N.Linear N.Linear false false) [] ∷ [])

c17 : List (List Call)
c17 = ((swap 1) ∷ (held-set 0 (fin false 1 (pos 0))) ∷ (note-on 0 (record { key = (fin false 15 (pos 2)); velocity = (fin false 1 (pos 0)); legato = false; glide_seconds = (fin false 0 (pos 0)) })) ∷ (note-on 16 (record { key = (fin false 15 (pos 2)); velocity = (fin false 1 (pos 0)); legato = false; glide_seconds = (fin false 0 (pos 0)) })) ∷ (block ([]) (record { part = [] }) 0 1) ∷ []) ∷ ((voice-ended 16) ∷ (amount-set 0 (fin false 0 (pos 0))) ∷ (base-set 0 (fin false 1 (negsuc 0))) ∷ (block ([]) (record { part = [] }) 0 1) ∷ []) ∷ []

e17 : reports c17 r17 ≡ (1065353216 ∷ 1065353216 ∷ 1065353216 ∷ 1065353216 ∷ 1065353216 ∷ 1065353216 ∷ 1065353216 ∷ 1065353216 ∷ 1065353216 ∷ 1065353216 ∷ 1065353216 ∷ 1065353216 ∷ 1065353216 ∷ 1065353216 ∷ 1065353216 ∷ 1065353216 ∷ 1065353216 ∷ 1065353216 ∷ 1065353216 ∷ 1065353216 ∷ 1065353216 ∷ 1065353216 ∷ 1065353216 ∷ 1065353216 ∷ 1065353216 ∷ 1065353216 ∷ 1065353216 ∷ 1065353216 ∷ 1065353216 ∷ 1065353216 ∷ 1065353216 ∷ 1065353216 ∷ []) ∷ (1056964608 ∷ 1056964608 ∷ 1056964608 ∷ 1056964608 ∷ 1056964608 ∷ 1056964608 ∷ 1056964608 ∷ 1056964608 ∷ 1056964608 ∷ 1056964608 ∷ 1056964608 ∷ 1056964608 ∷ 1056964608 ∷ 1056964608 ∷ 1056964608 ∷ 1056964608 ∷ 1065353216 ∷ 1065353216 ∷ 1065353216 ∷ 1065353216 ∷ 1065353216 ∷ 1065353216 ∷ 1065353216 ∷ 1065353216 ∷ 1065353216 ∷ 1065353216 ∷ 1065353216 ∷ 1065353216 ∷ 1065353216 ∷ 1065353216 ∷ 1065353216 ∷ 1065353216 ∷ []) ∷ []
unfolding c17 r17 process judged chunk_steps chunk_step tick_of turns turn new_to new_from source_after aux_after put_slews fill_from tick_sum others plains offsets some_plain plain route_value input_in in_group sounding in_span plan_at route_at part_of sample_in fill part on_part rows_of_chunk audio_of audio_plans glided moved_held advanced joined moving moved_value moved_glide chunk_total chunk_of load_by active_count draw_routes put_state put_held put_globals put_values put_audio with_velocity with_key with_marks with_phase with_block with_primed with_gains with_program with_draw marks_cleared marks_swapped no_marks no_voices no_notes fresh_state empty_of swap_program compiled padded target_place verdict verdicts_from verdicts candidates skipped_of in_use counted_feed used_dests feeder_of readers_of reads hears_audio is_audio controls audios plan_order order slew_for input_by route_by route_in plan_by plans_of all_routes seconds_of rate_per_sample names_table any_names slot_names hold max32 min32 is_nan lt le eq add sub mul div of_int set_held set_voice_held set_base set_amount set_output set_voice_limit note_on note_off voice_ended run done_by note_curve randoms_set alternates sounded_on ranks_on ended_of newest_after marks_on marks_ended set_note set_value set_glide legato_time ended_note arrives glideMoved held_by draw_voices with_voices with_alternate with_limit put_bases lookup_of position cell_of partOfCell reach moved slew_step step scrambled draw_bits draw_of row_at on_row kept_amount kept_output clamp_to finite ne neg to_bits to_unsigned audio_frame audio_frames new_audio audio_sum all_plain from_part to_part is_sounding abs_of
e17 = refl

-- cases/t02-chunks-after-swap.txt
r18 : Runner
r18 =
    start_with (wired_as (record { sample_rate = (fin false 1 (pos 6)); max_frames = 64; voices = 1 })
    (source (K.Constant) S.Global R.Unipolar ∷ [])
    (record { target = (A.Param 0); scope = S.Global; rate = T.Control; min = (fin false 0 (pos 0)); max = (fin false 1 (pos 0)); feed = F.Nothing } ∷ [])
    (record { source = Some 0; source_curve = C.Linear; amount = (fin false 1 (negsuc 0)); polarity = Q.Unipolar; destination = Some (A.Param 0); aux = None; aux_invert = false; aux_curve = C.Linear; output = (fin false 1 (pos 0)); bypass = false } ∷ [])
    N.Linear N.Linear false false)
    (kept_of (wired_as (record { sample_rate = (fin false 1 (pos 6)); max_frames = 64; voices = 1 })
    (source (K.Constant) S.Global R.Unipolar ∷ [])
    (record { target = (A.Param 0); scope = S.Global; rate = T.Control; min = (fin false 0 (pos 0)); max = (fin false 1 (pos 0)); feed = F.Nothing } ∷ [])
    (record { source = Some 0; source_curve = C.Linear; amount = (fin false 1 (negsuc 0)); polarity = Q.Unipolar; destination = Some (A.Param 0); aux = None; aux_invert = false; aux_curve = C.Linear; output = (fin false 1 (pos 0)); bypass = false } ∷ [])
    N.Linear N.Linear false false) [] ∷ kept_of (wired_as (record { sample_rate = (fin false 1 (pos 6)); max_frames = 64; voices = 1 })
    (source (K.Constant) S.Global R.Unipolar ∷ [])
    (record { target = (A.Param 0); scope = S.Global; rate = T.Control; min = (fin false 0 (pos 0)); max = (fin false 1 (pos 0)); feed = F.Nothing } ∷ [])
    (record { source = Some 0; source_curve = C.Linear; amount = (fin false 1 (negsuc 0)); polarity = Q.Unipolar; destination = Some (A.Param 0); aux = None; aux_invert = false; aux_curve = C.Linear; output = (fin false 1 (pos 0)); bypass = false } ∷ [])
    N.Linear N.Linear false false) [] ∷ [])

c18 : List (List Call)
c18 = ((swap 1) ∷ (block ([]) (record { part = [] }) 0 40) ∷ []) ∷ ((swap 2) ∷ (swap 1) ∷ (block ([]) (record { part = [] }) 3 3) ∷ []) ∷ []

e18 : reports c18 r18 ≡ (1056964608 ∷ 1056964608 ∷ 1056964608 ∷ 1056964608 ∷ []) ∷ (1056964608 ∷ 1056964608 ∷ 1056964608 ∷ 1056964608 ∷ []) ∷ []
unfolding c18 r18 process judged chunk_steps chunk_step tick_of turns turn new_to new_from source_after aux_after put_slews fill_from tick_sum others plains offsets some_plain plain route_value input_in in_group sounding in_span plan_at route_at part_of sample_in fill part on_part rows_of_chunk audio_of audio_plans glided moved_held advanced joined moving moved_value moved_glide chunk_total chunk_of load_by active_count draw_routes put_state put_held put_globals put_values put_audio with_velocity with_key with_marks with_phase with_block with_primed with_gains with_program with_draw marks_cleared marks_swapped no_marks no_voices no_notes fresh_state empty_of swap_program compiled padded target_place verdict verdicts_from verdicts candidates skipped_of in_use counted_feed used_dests feeder_of readers_of reads hears_audio is_audio controls audios plan_order order slew_for input_by route_by route_in plan_by plans_of all_routes seconds_of rate_per_sample names_table any_names slot_names hold max32 min32 is_nan lt le eq add sub mul div of_int set_held set_voice_held set_base set_amount set_output set_voice_limit note_on note_off voice_ended run done_by note_curve randoms_set alternates sounded_on ranks_on ended_of newest_after marks_on marks_ended set_note set_value set_glide legato_time ended_note arrives glideMoved held_by draw_voices with_voices with_alternate with_limit put_bases lookup_of position cell_of partOfCell reach moved slew_step step scrambled draw_bits draw_of row_at on_row kept_amount kept_output clamp_to finite ne neg to_bits to_unsigned audio_frame audio_frames new_audio audio_sum all_plain from_part to_part is_sounding abs_of
e18 = refl

-- cases/t03-gain-overflow.txt
r19 : Runner
r19 =
    start_with (wired_as (record { sample_rate = (fin false 1 (pos 6)); max_frames = 32; voices = 1 })
    (source (K.Held) S.Voice R.Unipolar ∷ source (K.Constant) S.Global R.Unipolar ∷ [])
    (record { target = (A.Param 0); scope = S.Voice; rate = T.Control; min = (fin true 1 (pos 1)); max = (fin false 1 (pos 1)); feed = F.Nothing } ∷ record { target = (A.Param 1); scope = S.Voice; rate = T.Control; min = (fin true 1 (pos 1)); max = (fin false 1 (pos 1)); feed = F.Nothing } ∷ [])
    (record { source = Some 0; source_curve = C.Linear; amount = (fin false 7395571 (pos 105)); polarity = Q.Unipolar; destination = Some (A.Param 0); aux = None; aux_invert = false; aux_curve = C.Linear; output = (fin false 7395571 (pos 105)); bypass = false } ∷ record { source = Some 0; source_curve = C.Linear; amount = (fin false 7395571 (pos 105)); polarity = Q.Unipolar; destination = Some (A.Param 1); aux = Some 1; aux_invert = false; aux_curve = C.Linear; output = (fin false 7395571 (pos 105)); bypass = false } ∷ [])
    N.Linear N.Linear false false)
    (kept_of (wired_as (record { sample_rate = (fin false 1 (pos 6)); max_frames = 32; voices = 1 })
    (source (K.Held) S.Voice R.Unipolar ∷ source (K.Constant) S.Global R.Unipolar ∷ [])
    (record { target = (A.Param 0); scope = S.Voice; rate = T.Control; min = (fin true 1 (pos 1)); max = (fin false 1 (pos 1)); feed = F.Nothing } ∷ record { target = (A.Param 1); scope = S.Voice; rate = T.Control; min = (fin true 1 (pos 1)); max = (fin false 1 (pos 1)); feed = F.Nothing } ∷ [])
    (record { source = Some 0; source_curve = C.Linear; amount = (fin false 7395571 (pos 105)); polarity = Q.Unipolar; destination = Some (A.Param 0); aux = None; aux_invert = false; aux_curve = C.Linear; output = (fin false 7395571 (pos 105)); bypass = false } ∷ record { source = Some 0; source_curve = C.Linear; amount = (fin false 7395571 (pos 105)); polarity = Q.Unipolar; destination = Some (A.Param 1); aux = Some 1; aux_invert = false; aux_curve = C.Linear; output = (fin false 7395571 (pos 105)); bypass = false } ∷ [])
    N.Linear N.Linear false false) [] ∷ [])

c19 : List (List Call)
c19 = ((swap 1) ∷ (held-set 0 (fin false 1 (negsuc 0))) ∷ (note-on 0 (record { key = (fin false 15 (pos 2)); velocity = (fin false 1 (pos 0)); legato = false; glide_seconds = (fin false 0 (pos 0)) })) ∷ (block ([]) (record { part = [] }) 0 32) ∷ []) ∷ []

e19 : reports c19 r19 ≡ (3221225472 ∷ 3221225472 ∷ 3221225472 ∷ 3221225472 ∷ 3221225472 ∷ 3221225472 ∷ 3221225472 ∷ 3221225472 ∷ 3221225472 ∷ 3221225472 ∷ 3221225472 ∷ 3221225472 ∷ 3221225472 ∷ 3221225472 ∷ 3221225472 ∷ 3221225472 ∷ 3221225472 ∷ 3221225472 ∷ 3221225472 ∷ 3221225472 ∷ 3221225472 ∷ 3221225472 ∷ 3221225472 ∷ 3221225472 ∷ 3221225472 ∷ 3221225472 ∷ 3221225472 ∷ 3221225472 ∷ 3221225472 ∷ 3221225472 ∷ 3221225472 ∷ 3221225472 ∷ 1073741824 ∷ 1073741824 ∷ 1073741824 ∷ 1073741824 ∷ 1073741824 ∷ 1073741824 ∷ 1073741824 ∷ 1073741824 ∷ 1073741824 ∷ 1073741824 ∷ 1073741824 ∷ 1073741824 ∷ 1073741824 ∷ 1073741824 ∷ 1073741824 ∷ 1073741824 ∷ 1073741824 ∷ 1073741824 ∷ 1073741824 ∷ 1073741824 ∷ 1073741824 ∷ 1073741824 ∷ 1073741824 ∷ 1073741824 ∷ 1073741824 ∷ 1073741824 ∷ 1073741824 ∷ 1073741824 ∷ 1073741824 ∷ 1073741824 ∷ 1073741824 ∷ 1073741824 ∷ []) ∷ []
unfolding c19 r19 process judged chunk_steps chunk_step tick_of turns turn new_to new_from source_after aux_after put_slews fill_from tick_sum others plains offsets some_plain plain route_value input_in in_group sounding in_span plan_at route_at part_of sample_in fill part on_part rows_of_chunk audio_of audio_plans glided moved_held advanced joined moving moved_value moved_glide chunk_total chunk_of load_by active_count draw_routes put_state put_held put_globals put_values put_audio with_velocity with_key with_marks with_phase with_block with_primed with_gains with_program with_draw marks_cleared marks_swapped no_marks no_voices no_notes fresh_state empty_of swap_program compiled padded target_place verdict verdicts_from verdicts candidates skipped_of in_use counted_feed used_dests feeder_of readers_of reads hears_audio is_audio controls audios plan_order order slew_for input_by route_by route_in plan_by plans_of all_routes seconds_of rate_per_sample names_table any_names slot_names hold max32 min32 is_nan lt le eq add sub mul div of_int set_held set_voice_held set_base set_amount set_output set_voice_limit note_on note_off voice_ended run done_by note_curve randoms_set alternates sounded_on ranks_on ended_of newest_after marks_on marks_ended set_note set_value set_glide legato_time ended_note arrives glideMoved held_by draw_voices with_voices with_alternate with_limit put_bases lookup_of position cell_of partOfCell reach moved slew_step step scrambled draw_bits draw_of row_at on_row kept_amount kept_output clamp_to finite ne neg to_bits to_unsigned audio_frame audio_frames new_audio audio_sum all_plain from_part to_part is_sounding abs_of
e19 = refl

-- cases/t04-newest-group-slews.txt
r20 : Runner
r20 =
    start_with (wired_as (record { sample_rate = (fin false 1 (pos 6)); max_frames = 32; voices = 32 })
    (source (K.Held) S.Voice R.Unipolar ∷ [])
    (record { target = (A.Param 0); scope = S.Global; rate = T.Control; min = (inf true); max = (inf false); feed = F.Nothing } ∷ [])
    (record { source = Some 0; source_curve = C.Table (fin false 1 (pos 2)) (fin false 1 (pos 2)); amount = (fin false 1 (pos 0)); polarity = Q.Unipolar; destination = Some (A.Param 0); aux = None; aux_invert = false; aux_curve = C.Linear; output = (fin false 1 (pos 0)); bypass = false } ∷ [])
    N.Linear N.Linear false false)
    (kept_of (wired_as (record { sample_rate = (fin false 1 (pos 6)); max_frames = 32; voices = 32 })
    (source (K.Held) S.Voice R.Unipolar ∷ [])
    (record { target = (A.Param 0); scope = S.Global; rate = T.Control; min = (inf true); max = (inf false); feed = F.Nothing } ∷ [])
    (record { source = Some 0; source_curve = C.Table (fin false 1 (pos 2)) (fin false 1 (pos 2)); amount = (fin false 1 (pos 0)); polarity = Q.Unipolar; destination = Some (A.Param 0); aux = None; aux_invert = false; aux_curve = C.Linear; output = (fin false 1 (pos 0)); bypass = false } ∷ [])
    N.Linear N.Linear false false) (tabulated diagonal_at ++ (replicate 66177 zero32)) ∷ [])

c20 : List (List Call)
c20 = ((swap 1) ∷ (note-on 0 (record { key = (fin false 15 (pos 2)); velocity = (fin false 1 (pos 0)); legato = false; glide_seconds = (fin false 0 (pos 0)) })) ∷ (note-on 1 (record { key = (fin false 15 (pos 2)); velocity = (fin false 1 (pos 0)); legato = false; glide_seconds = (fin false 0 (pos 0)) })) ∷ (note-on 17 (record { key = (fin false 15 (pos 2)); velocity = (fin false 1 (pos 0)); legato = false; glide_seconds = (fin false 0 (pos 0)) })) ∷ (note-on 1 (record { key = (fin false 15 (pos 2)); velocity = (fin false 1 (pos 0)); legato = false; glide_seconds = (fin false 0 (pos 0)) })) ∷ (block ([]) (record { part = [] }) 0 32) ∷ []) ∷ ((held-set 0 (fin false 1 (pos 0))) ∷ (block ([]) (record { part = [] }) 0 32) ∷ []) ∷ ((voice-ended 1) ∷ (block ([]) (record { part = [] }) 0 32) ∷ []) ∷ []

e20 : reports c20 r20 ≡ (0 ∷ 0 ∷ []) ∷ (0 ∷ 1040187392 ∷ []) ∷ (1040187392 ∷ 1040187392 ∷ []) ∷ []
unfolding c20 r20 process judged chunk_steps chunk_step tick_of turns turn new_to new_from source_after aux_after put_slews fill_from tick_sum others plains offsets some_plain plain route_value input_in in_group sounding in_span plan_at route_at part_of sample_in fill part on_part rows_of_chunk audio_of audio_plans glided moved_held advanced joined moving moved_value moved_glide chunk_total chunk_of load_by active_count draw_routes put_state put_held put_globals put_values put_audio with_velocity with_key with_marks with_phase with_block with_primed with_gains with_program with_draw marks_cleared marks_swapped no_marks no_voices no_notes fresh_state empty_of swap_program compiled padded target_place verdict verdicts_from verdicts candidates skipped_of in_use counted_feed used_dests feeder_of readers_of reads hears_audio is_audio controls audios plan_order order slew_for input_by route_by route_in plan_by plans_of all_routes seconds_of rate_per_sample names_table any_names slot_names hold max32 min32 is_nan lt le eq add sub mul div of_int set_held set_voice_held set_base set_amount set_output set_voice_limit note_on note_off voice_ended run done_by note_curve randoms_set alternates sounded_on ranks_on ended_of newest_after marks_on marks_ended set_note set_value set_glide legato_time ended_note arrives glideMoved held_by draw_voices with_voices with_alternate with_limit put_bases lookup_of position cell_of partOfCell reach moved slew_step step scrambled draw_bits draw_of row_at on_row kept_amount kept_output clamp_to finite ne neg to_bits to_unsigned audio_frame audio_frames new_audio audio_sum all_plain from_part to_part is_sounding abs_of
e20 = refl

-- cases/t05-slew-rounding.txt
r21 : Runner
r21 =
    start_with (wired_as (record { sample_rate = (fin false 1 (pos 6)); max_frames = 32; voices = 1 })
    (source (K.Held) S.Voice R.Unipolar ∷ [])
    (record { target = (A.Param 0); scope = S.Voice; rate = T.Control; min = (inf true); max = (inf false); feed = F.Nothing } ∷ [])
    (record { source = Some 0; source_curve = C.Table (fin false 8589935 (negsuc 32)) (fin false 0 (pos 0)); amount = (fin false 1 (pos 0)); polarity = Q.Unipolar; destination = Some (A.Param 0); aux = None; aux_invert = false; aux_curve = C.Linear; output = (fin false 1 (pos 0)); bypass = false } ∷ [])
    N.Linear N.Linear false false)
    (kept_of (wired_as (record { sample_rate = (fin false 1 (pos 6)); max_frames = 32; voices = 1 })
    (source (K.Held) S.Voice R.Unipolar ∷ [])
    (record { target = (A.Param 0); scope = S.Voice; rate = T.Control; min = (inf true); max = (inf false); feed = F.Nothing } ∷ [])
    (record { source = Some 0; source_curve = C.Table (fin false 8589935 (negsuc 32)) (fin false 0 (pos 0)); amount = (fin false 1 (pos 0)); polarity = Q.Unipolar; destination = Some (A.Param 0); aux = None; aux_invert = false; aux_curve = C.Linear; output = (fin false 1 (pos 0)); bypass = false } ∷ [])
    N.Linear N.Linear false false) (tabulated (λ i. cond (ltb i 256) (fin false 13421773 (negsuc 26)) (fin false 1 (pos 4))) ++ (replicate 66177 zero32)) ∷ [])

c21 : List (List Call)
c21 = ((swap 1) ∷ (note-on 0 (record { key = (fin false 15 (pos 2)); velocity = (fin false 1 (pos 0)); legato = false; glide_seconds = (fin false 0 (pos 0)) })) ∷ (held-set 0 (fin false 1 (pos 0))) ∷ (block ([]) (record { part = [] }) 0 32) ∷ []) ∷ ((held-set 0 (fin false 0 (pos 0))) ∷ (block ([]) (record { part = [] }) 0 32) ∷ []) ∷ []

e21 : reports c21 r21 ≡ (1098907648 ∷ 1098907648 ∷ 1098907648 ∷ 1098907648 ∷ 1098907648 ∷ 1098907648 ∷ 1098907648 ∷ 1098907648 ∷ 1098907648 ∷ 1098907648 ∷ 1098907648 ∷ 1098907648 ∷ 1098907648 ∷ 1098907648 ∷ 1098907648 ∷ 1098907648 ∷ 1098907648 ∷ 1098907648 ∷ 1098907648 ∷ 1098907648 ∷ 1098907648 ∷ 1098907648 ∷ 1098907648 ∷ 1098907648 ∷ 1098907648 ∷ 1098907648 ∷ 1098907648 ∷ 1098907648 ∷ 1098907648 ∷ 1098907648 ∷ 1098907648 ∷ 1098907648 ∷ []) ∷ (1098907648 ∷ 1098907648 ∷ 1098907648 ∷ 1098907648 ∷ 1098907648 ∷ 1098907648 ∷ 1098907648 ∷ 1098907648 ∷ 1098907648 ∷ 1098907648 ∷ 1098907648 ∷ 1098907648 ∷ 1098907648 ∷ 1098907648 ∷ 1098907648 ∷ 1098907648 ∷ 1036832000 ∷ 1036832000 ∷ 1036832000 ∷ 1036832000 ∷ 1036832000 ∷ 1036832000 ∷ 1036832000 ∷ 1036832000 ∷ 1036832000 ∷ 1036832000 ∷ 1036832000 ∷ 1036832000 ∷ 1036832000 ∷ 1036832000 ∷ 1036832000 ∷ 1036832000 ∷ []) ∷ []
unfolding c21 r21 process judged chunk_steps chunk_step tick_of turns turn new_to new_from source_after aux_after put_slews fill_from tick_sum others plains offsets some_plain plain route_value input_in in_group sounding in_span plan_at route_at part_of sample_in fill part on_part rows_of_chunk audio_of audio_plans glided moved_held advanced joined moving moved_value moved_glide chunk_total chunk_of load_by active_count draw_routes put_state put_held put_globals put_values put_audio with_velocity with_key with_marks with_phase with_block with_primed with_gains with_program with_draw marks_cleared marks_swapped no_marks no_voices no_notes fresh_state empty_of swap_program compiled padded target_place verdict verdicts_from verdicts candidates skipped_of in_use counted_feed used_dests feeder_of readers_of reads hears_audio is_audio controls audios plan_order order slew_for input_by route_by route_in plan_by plans_of all_routes seconds_of rate_per_sample names_table any_names slot_names hold max32 min32 is_nan lt le eq add sub mul div of_int set_held set_voice_held set_base set_amount set_output set_voice_limit note_on note_off voice_ended run done_by note_curve randoms_set alternates sounded_on ranks_on ended_of newest_after marks_on marks_ended set_note set_value set_glide legato_time ended_note arrives glideMoved held_by draw_voices with_voices with_alternate with_limit put_bases lookup_of position cell_of partOfCell reach moved slew_step step scrambled draw_bits draw_of row_at on_row kept_amount kept_output clamp_to finite ne neg to_bits to_unsigned audio_frame audio_frames new_audio audio_sum all_plain from_part to_part is_sounding abs_of
e21 = refl

-- cases/t06-glide-step-zero.txt
r22 : Runner
r22 =
    start_with (wired_as (record { sample_rate = (fin false 9860761 (pos 103)); max_frames = 64; voices = 1 })
    (source (K.Velocity) S.Voice R.Unipolar ∷ source (K.Key) S.Voice R.Unipolar ∷ [])
    (record { target = (A.Param 0); scope = S.Voice; rate = T.Control; min = (fin false 0 (pos 0)); max = (fin false 1 (pos 0)); feed = F.Nothing } ∷ [])
    (record { source = Some 1; source_curve = C.Linear; amount = (fin false 1 (pos 0)); polarity = Q.Unipolar; destination = Some (A.Param 0); aux = None; aux_invert = false; aux_curve = C.Linear; output = (fin false 1 (pos 0)); bypass = false } ∷ [])
    N.Linear N.Linear true true)
    (kept_of (wired_as (record { sample_rate = (fin false 9860761 (pos 103)); max_frames = 64; voices = 1 })
    (source (K.Velocity) S.Voice R.Unipolar ∷ source (K.Key) S.Voice R.Unipolar ∷ [])
    (record { target = (A.Param 0); scope = S.Voice; rate = T.Control; min = (fin false 0 (pos 0)); max = (fin false 1 (pos 0)); feed = F.Nothing } ∷ [])
    (record { source = Some 1; source_curve = C.Linear; amount = (fin false 1 (pos 0)); polarity = Q.Unipolar; destination = Some (A.Param 0); aux = None; aux_invert = false; aux_curve = C.Linear; output = (fin false 1 (pos 0)); bypass = false } ∷ [])
    N.Linear N.Linear true true) [] ∷ [])

c22 : List (List Call)
c22 = ((swap 1) ∷ (note-on 0 (record { key = (fin false 0 (pos 0)); velocity = (fin false 0 (pos 0)); legato = false; glide_seconds = (fin false 0 (pos 0)) })) ∷ (block ([]) (record { part = [] }) 0 32) ∷ []) ∷ ((note-on 0 (record { key = (fin false 127 (pos 0)); velocity = (fin false 1 (pos 0)); legato = true; glide_seconds = (fin false 9860761 (pos 103)) })) ∷ (block ([]) (record { part = [] }) 0 64) ∷ []) ∷ []

e22 : reports c22 r22 ≡ (0 ∷ 0 ∷ 0 ∷ 0 ∷ 0 ∷ 0 ∷ 0 ∷ 0 ∷ 0 ∷ 0 ∷ 0 ∷ 0 ∷ 0 ∷ 0 ∷ 0 ∷ 0 ∷ 0 ∷ 0 ∷ 0 ∷ 0 ∷ 0 ∷ 0 ∷ 0 ∷ 0 ∷ 0 ∷ 0 ∷ 0 ∷ 0 ∷ 0 ∷ 0 ∷ 0 ∷ 0 ∷ []) ∷ (0 ∷ 0 ∷ 0 ∷ 0 ∷ 0 ∷ 0 ∷ 0 ∷ 0 ∷ 0 ∷ 0 ∷ 0 ∷ 0 ∷ 0 ∷ 0 ∷ 0 ∷ 0 ∷ 0 ∷ 0 ∷ 0 ∷ 0 ∷ 0 ∷ 0 ∷ 0 ∷ 0 ∷ 0 ∷ 0 ∷ 0 ∷ 0 ∷ 0 ∷ 0 ∷ 0 ∷ 0 ∷ 0 ∷ 0 ∷ 0 ∷ 0 ∷ 0 ∷ 0 ∷ 0 ∷ 0 ∷ 0 ∷ 0 ∷ 0 ∷ 0 ∷ 0 ∷ 0 ∷ 0 ∷ 0 ∷ 0 ∷ 0 ∷ 0 ∷ 0 ∷ 0 ∷ 0 ∷ 0 ∷ 0 ∷ 0 ∷ 0 ∷ 0 ∷ 0 ∷ 0 ∷ 0 ∷ 0 ∷ 0 ∷ []) ∷ []
unfolding c22 r22 process judged chunk_steps chunk_step tick_of turns turn new_to new_from source_after aux_after put_slews fill_from tick_sum others plains offsets some_plain plain route_value input_in in_group sounding in_span plan_at route_at part_of sample_in fill part on_part rows_of_chunk audio_of audio_plans glided moved_held advanced joined moving moved_value moved_glide chunk_total chunk_of load_by active_count draw_routes put_state put_held put_globals put_values put_audio with_velocity with_key with_marks with_phase with_block with_primed with_gains with_program with_draw marks_cleared marks_swapped no_marks no_voices no_notes fresh_state empty_of swap_program compiled padded target_place verdict verdicts_from verdicts candidates skipped_of in_use counted_feed used_dests feeder_of readers_of reads hears_audio is_audio controls audios plan_order order slew_for input_by route_by route_in plan_by plans_of all_routes seconds_of rate_per_sample names_table any_names slot_names hold max32 min32 is_nan lt le eq add sub mul div of_int set_held set_voice_held set_base set_amount set_output set_voice_limit note_on note_off voice_ended run done_by note_curve randoms_set alternates sounded_on ranks_on ended_of newest_after marks_on marks_ended set_note set_value set_glide legato_time ended_note arrives glideMoved held_by draw_voices with_voices with_alternate with_limit put_bases lookup_of position cell_of partOfCell reach moved slew_step step scrambled draw_bits draw_of row_at on_row kept_amount kept_output clamp_to finite ne neg to_bits to_unsigned audio_frame audio_frames new_audio audio_sum all_plain from_part to_part is_sounding abs_of
e22 = refl

-- cases/t07-other-registry.txt
r23 : Runner
r23 =
    start_with (wired_as (record { sample_rate = (fin false 1 (pos 6)); max_frames = 32; voices = 1 })
    (source (K.Velocity) S.Voice R.Unipolar ∷ [])
    (record { target = (A.Param 0); scope = S.Voice; rate = T.Control; min = (inf true); max = (inf false); feed = F.Nothing } ∷ [])
    ([])
    N.Linear N.Linear false false)
    (kept_of (wired_as (record { sample_rate = (fin false 1 (pos 6)); max_frames = 32; voices = 1 })
    (source (K.Held) S.Global R.Unipolar ∷ [])
    (record { target = (A.Param 0); scope = S.Voice; rate = T.Control; min = (inf true); max = (inf false); feed = F.Nothing } ∷ [])
    (record { source = Some 0; source_curve = C.Linear; amount = (fin false 1 (pos 0)); polarity = Q.Unipolar; destination = Some (A.Param 0); aux = None; aux_invert = false; aux_curve = C.Linear; output = (fin false 1 (pos 0)); bypass = false } ∷ [])
    N.Linear N.Linear false false) [] ∷ [])

c23 : List (List Call)
c23 = ((swap 1) ∷ (held-set 0 (fin false 3 (negsuc 1))) ∷ (note-on 0 (record { key = (fin false 15 (pos 2)); velocity = (fin false 1 (pos 0)); legato = false; glide_seconds = (fin false 0 (pos 0)) })) ∷ (block ([]) (record { part = [] }) 0 32) ∷ []) ∷ []

e23 : reports c23 r23 ≡ (0 ∷ 0 ∷ 0 ∷ 0 ∷ 0 ∷ 0 ∷ 0 ∷ 0 ∷ 0 ∷ 0 ∷ 0 ∷ 0 ∷ 0 ∷ 0 ∷ 0 ∷ 0 ∷ 0 ∷ 0 ∷ 0 ∷ 0 ∷ 0 ∷ 0 ∷ 0 ∷ 0 ∷ 0 ∷ 0 ∷ 0 ∷ 0 ∷ 0 ∷ 0 ∷ 0 ∷ 0 ∷ []) ∷ []
unfolding c23 r23 process judged chunk_steps chunk_step tick_of turns turn new_to new_from source_after aux_after put_slews fill_from tick_sum others plains offsets some_plain plain route_value input_in in_group sounding in_span plan_at route_at part_of sample_in fill part on_part rows_of_chunk audio_of audio_plans glided moved_held advanced joined moving moved_value moved_glide chunk_total chunk_of load_by active_count draw_routes put_state put_held put_globals put_values put_audio with_velocity with_key with_marks with_phase with_block with_primed with_gains with_program with_draw marks_cleared marks_swapped no_marks no_voices no_notes fresh_state empty_of swap_program compiled padded target_place verdict verdicts_from verdicts candidates skipped_of in_use counted_feed used_dests feeder_of readers_of reads hears_audio is_audio controls audios plan_order order slew_for input_by route_by route_in plan_by plans_of all_routes seconds_of rate_per_sample names_table any_names slot_names hold max32 min32 is_nan lt le eq add sub mul div of_int set_held set_voice_held set_base set_amount set_output set_voice_limit note_on note_off voice_ended run done_by note_curve randoms_set alternates sounded_on ranks_on ended_of newest_after marks_on marks_ended set_note set_value set_glide legato_time ended_note arrives glideMoved held_by draw_voices with_voices with_alternate with_limit put_bases lookup_of position cell_of partOfCell reach moved slew_step step scrambled draw_bits draw_of row_at on_row kept_amount kept_output clamp_to finite ne neg to_bits to_unsigned audio_frame audio_frames new_audio audio_sum all_plain from_part to_part is_sounding abs_of
e23 = refl

-- cases/t08-lookup-at-one.txt
r24 : Runner
r24 =
    start_with (wired_as (record { sample_rate = (fin false 1 (pos 6)); max_frames = 32; voices = 1 })
    (source (K.Velocity) S.Voice R.Unipolar ∷ [])
    (record { target = (A.Param 0); scope = S.Voice; rate = T.Control; min = (inf true); max = (inf false); feed = F.Nothing } ∷ [])
    (record { source = Some 0; source_curve = C.Linear; amount = (fin false 1 (pos 0)); polarity = Q.Unipolar; destination = Some (A.Param 0); aux = None; aux_invert = false; aux_curve = C.Linear; output = (fin false 1 (pos 0)); bypass = false } ∷ [])
    N.Table N.Table false false)
    (kept_of (wired_as (record { sample_rate = (fin false 1 (pos 6)); max_frames = 32; voices = 1 })
    (source (K.Velocity) S.Voice R.Unipolar ∷ [])
    (record { target = (A.Param 0); scope = S.Voice; rate = T.Control; min = (inf true); max = (inf false); feed = F.Nothing } ∷ [])
    (record { source = Some 0; source_curve = C.Linear; amount = (fin false 1 (pos 0)); polarity = Q.Unipolar; destination = Some (A.Param 0); aux = None; aux_invert = false; aux_curve = C.Linear; output = (fin false 1 (pos 0)); bypass = false } ∷ [])
    N.Table N.Table false false) (replicate 65664 zero32 ++ (tabulated (λ i. cond (ltb i 512) (fin false 1 (pos 4)) (fin false 13421773 (negsuc 26))) ++ (tabulated (λ i. cond (ltb i 512) (fin false 1 (pos 4)) (fin false 13421773 (negsuc 26))) ++ (replicate 0 zero32)))) ∷ [])

c24 : List (List Call)
c24 = ((swap 1) ∷ (note-on 0 (record { key = (fin false 0 (pos 0)); velocity = (fin false 1 (pos 0)); legato = false; glide_seconds = (fin false 0 (pos 0)) })) ∷ (block ([]) (record { part = [] }) 0 32) ∷ []) ∷ []

e24 : reports c24 r24 ≡ (1036832000 ∷ 0 ∷ 0 ∷ 0 ∷ 0 ∷ 0 ∷ 0 ∷ 0 ∷ 0 ∷ 0 ∷ 0 ∷ 0 ∷ 0 ∷ 0 ∷ 0 ∷ 0 ∷ 1036832000 ∷ 0 ∷ 0 ∷ 0 ∷ 0 ∷ 0 ∷ 0 ∷ 0 ∷ 0 ∷ 0 ∷ 0 ∷ 0 ∷ 0 ∷ 0 ∷ 0 ∷ 0 ∷ []) ∷ []
unfolding c24 r24 process judged chunk_steps chunk_step tick_of turns turn new_to new_from source_after aux_after put_slews fill_from tick_sum others plains offsets some_plain plain route_value input_in in_group sounding in_span plan_at route_at part_of sample_in fill part on_part rows_of_chunk audio_of audio_plans glided moved_held advanced joined moving moved_value moved_glide chunk_total chunk_of load_by active_count draw_routes put_state put_held put_globals put_values put_audio with_velocity with_key with_marks with_phase with_block with_primed with_gains with_program with_draw marks_cleared marks_swapped no_marks no_voices no_notes fresh_state empty_of swap_program compiled padded target_place verdict verdicts_from verdicts candidates skipped_of in_use counted_feed used_dests feeder_of readers_of reads hears_audio is_audio controls audios plan_order order slew_for input_by route_by route_in plan_by plans_of all_routes seconds_of rate_per_sample names_table any_names slot_names hold max32 min32 is_nan lt le eq add sub mul div of_int set_held set_voice_held set_base set_amount set_output set_voice_limit note_on note_off voice_ended run done_by note_curve randoms_set alternates sounded_on ranks_on ended_of newest_after marks_on marks_ended set_note set_value set_glide legato_time ended_note arrives glideMoved held_by draw_voices with_voices with_alternate with_limit put_bases lookup_of position cell_of partOfCell reach moved slew_step step scrambled draw_bits draw_of row_at on_row kept_amount kept_output clamp_to finite ne neg to_bits to_unsigned audio_frame audio_frames new_audio audio_sum all_plain from_part to_part is_sounding abs_of
e24 = refl

-- cases/t10-draw-order.txt
r25 : Runner
r25 =
    start_with (wired_as (record { sample_rate = (fin false 1 (pos 6)); max_frames = 32; voices = 1 })
    (source (K.RandomPerRoute) S.Voice R.Unipolar ∷ [])
    (record { target = (A.Param 0); scope = S.Voice; rate = T.Control; min = (fin false 0 (pos 0)); max = (fin false 1 (pos 0)); feed = F.Nothing } ∷ record { target = (A.Param 1); scope = S.Voice; rate = T.Control; min = (fin false 0 (pos 0)); max = (fin false 1 (pos 0)); feed = F.Nothing } ∷ [])
    (record { source = Some 0; source_curve = C.Linear; amount = (fin false 1 (pos 0)); polarity = Q.Unipolar; destination = Some (A.Param 1); aux = None; aux_invert = false; aux_curve = C.Linear; output = (fin false 1 (pos 0)); bypass = false } ∷ record { source = Some 0; source_curve = C.Linear; amount = (fin false 1 (pos 0)); polarity = Q.Unipolar; destination = Some (A.Param 0); aux = None; aux_invert = false; aux_curve = C.Linear; output = (fin false 1 (pos 0)); bypass = false } ∷ [])
    N.Linear N.Linear false false)
    (kept_of (wired_as (record { sample_rate = (fin false 1 (pos 6)); max_frames = 32; voices = 1 })
    (source (K.RandomPerRoute) S.Voice R.Unipolar ∷ [])
    (record { target = (A.Param 0); scope = S.Voice; rate = T.Control; min = (fin false 0 (pos 0)); max = (fin false 1 (pos 0)); feed = F.Nothing } ∷ record { target = (A.Param 1); scope = S.Voice; rate = T.Control; min = (fin false 0 (pos 0)); max = (fin false 1 (pos 0)); feed = F.Nothing } ∷ [])
    (record { source = Some 0; source_curve = C.Linear; amount = (fin false 1 (pos 0)); polarity = Q.Unipolar; destination = Some (A.Param 1); aux = None; aux_invert = false; aux_curve = C.Linear; output = (fin false 1 (pos 0)); bypass = false } ∷ record { source = Some 0; source_curve = C.Linear; amount = (fin false 1 (pos 0)); polarity = Q.Unipolar; destination = Some (A.Param 0); aux = None; aux_invert = false; aux_curve = C.Linear; output = (fin false 1 (pos 0)); bypass = false } ∷ [])
    N.Linear N.Linear false false) [] ∷ [])

c25 : List (List Call)
c25 = ((swap 1) ∷ (note-on 0 (record { key = (fin false 15 (pos 2)); velocity = (fin false 1 (pos 0)); legato = false; glide_seconds = (fin false 0 (pos 0)) })) ∷ (block ([]) (record { part = [] }) 0 1) ∷ []) ∷ []

e25 : reports c25 r25 ≡ (1029192496 ∷ 0 ∷ 0 ∷ 0 ∷ 0 ∷ 0 ∷ 0 ∷ 0 ∷ 0 ∷ 0 ∷ 0 ∷ 0 ∷ 0 ∷ 0 ∷ 0 ∷ 0 ∷ 1029192496 ∷ 0 ∷ 0 ∷ 0 ∷ 0 ∷ 0 ∷ 0 ∷ 0 ∷ 0 ∷ 0 ∷ 0 ∷ 0 ∷ 0 ∷ 0 ∷ 0 ∷ 0 ∷ 1051297944 ∷ 0 ∷ 0 ∷ 0 ∷ 0 ∷ 0 ∷ 0 ∷ 0 ∷ 0 ∷ 0 ∷ 0 ∷ 0 ∷ 0 ∷ 0 ∷ 0 ∷ 0 ∷ 1051297944 ∷ 0 ∷ 0 ∷ 0 ∷ 0 ∷ 0 ∷ 0 ∷ 0 ∷ 0 ∷ 0 ∷ 0 ∷ 0 ∷ 0 ∷ 0 ∷ 0 ∷ 0 ∷ []) ∷ []
unfolding c25 r25 process judged chunk_steps chunk_step tick_of turns turn new_to new_from source_after aux_after put_slews fill_from tick_sum others plains offsets some_plain plain route_value input_in in_group sounding in_span plan_at route_at part_of sample_in fill part on_part rows_of_chunk audio_of audio_plans glided moved_held advanced joined moving moved_value moved_glide chunk_total chunk_of load_by active_count draw_routes put_state put_held put_globals put_values put_audio with_velocity with_key with_marks with_phase with_block with_primed with_gains with_program with_draw marks_cleared marks_swapped no_marks no_voices no_notes fresh_state empty_of swap_program compiled padded target_place verdict verdicts_from verdicts candidates skipped_of in_use counted_feed used_dests feeder_of readers_of reads hears_audio is_audio controls audios plan_order order slew_for input_by route_by route_in plan_by plans_of all_routes seconds_of rate_per_sample names_table any_names slot_names hold max32 min32 is_nan lt le eq add sub mul div of_int set_held set_voice_held set_base set_amount set_output set_voice_limit note_on note_off voice_ended run done_by note_curve randoms_set alternates sounded_on ranks_on ended_of newest_after marks_on marks_ended set_note set_value set_glide legato_time ended_note arrives glideMoved held_by draw_voices with_voices with_alternate with_limit put_bases lookup_of position cell_of partOfCell reach moved slew_step step scrambled draw_bits draw_of row_at on_row kept_amount kept_output clamp_to finite ne neg to_bits to_unsigned audio_frame audio_frames new_audio audio_sum all_plain from_part to_part is_sounding abs_of
e25 = refl

-- cases/t11-held-apart-from-note-value.txt
r26 : Runner
r26 =
    start_with (wired_as (record { sample_rate = (fin false 1 (pos 6)); max_frames = 64; voices = 1 })
    (source (K.Velocity) S.Voice R.Unipolar ∷ [])
    (record { target = (A.Param 0); scope = S.Voice; rate = T.Control; min = (fin false 0 (pos 0)); max = (fin false 1 (pos 0)); feed = F.Nothing } ∷ [])
    (record { source = Some 0; source_curve = C.Linear; amount = (fin false 1 (pos 0)); polarity = Q.Unipolar; destination = Some (A.Param 0); aux = None; aux_invert = false; aux_curve = C.Linear; output = (fin false 1 (pos 0)); bypass = false } ∷ [])
    N.Linear N.Linear true true)
    (kept_of (wired_as (record { sample_rate = (fin false 1 (pos 6)); max_frames = 64; voices = 1 })
    (source (K.Velocity) S.Voice R.Unipolar ∷ [])
    (record { target = (A.Param 0); scope = S.Voice; rate = T.Control; min = (fin false 0 (pos 0)); max = (fin false 1 (pos 0)); feed = F.Nothing } ∷ [])
    (record { source = Some 0; source_curve = C.Linear; amount = (fin false 1 (pos 0)); polarity = Q.Unipolar; destination = Some (A.Param 0); aux = None; aux_invert = false; aux_curve = C.Linear; output = (fin false 1 (pos 0)); bypass = false } ∷ [])
    N.Linear N.Linear true true) [] ∷ [])

c26 : List (List Call)
c26 = ((swap 1) ∷ (note-on 0 (record { key = (fin false 0 (pos 0)); velocity = (fin false 0 (pos 0)); legato = false; glide_seconds = (fin false 0 (pos 0)) })) ∷ (held-set 0 (fin false 3 (negsuc 1))) ∷ (note-on 0 (record { key = (fin false 127 (pos 0)); velocity = (fin false 1 (pos 0)); legato = true; glide_seconds = (fin false 1 (pos 0)) })) ∷ (block ([]) (record { part = [] }) 0 64) ∷ []) ∷ []

e26 : reports c26 r26 ≡ (1061158912 ∷ 1061158912 ∷ 1061158912 ∷ 1061158912 ∷ 1061158912 ∷ 1061158912 ∷ 1061158912 ∷ 1061158912 ∷ 1061158912 ∷ 1061158912 ∷ 1061158912 ∷ 1061158912 ∷ 1061158912 ∷ 1061158912 ∷ 1061158912 ∷ 1061158912 ∷ 1061158912 ∷ 1061158912 ∷ 1061158912 ∷ 1061158912 ∷ 1061158912 ∷ 1061158912 ∷ 1061158912 ∷ 1061158912 ∷ 1061158912 ∷ 1061158912 ∷ 1061158912 ∷ 1061158912 ∷ 1061158912 ∷ 1061158912 ∷ 1061158912 ∷ 1061158912 ∷ 1061158912 ∷ 1061158912 ∷ 1061158912 ∷ 1061158912 ∷ 1061158912 ∷ 1061158912 ∷ 1061158912 ∷ 1061158912 ∷ 1061158912 ∷ 1061158912 ∷ 1061158912 ∷ 1061158912 ∷ 1061158912 ∷ 1061158912 ∷ 1061158912 ∷ 1061158912 ∷ 1056964608 ∷ 1061158912 ∷ 1061158912 ∷ 1061158912 ∷ 1061158912 ∷ 1061158912 ∷ 1061158912 ∷ 1061158912 ∷ 1061158912 ∷ 1061158912 ∷ 1061158912 ∷ 1061158912 ∷ 1061158912 ∷ 1061158912 ∷ 1061158912 ∷ 1061158912 ∷ []) ∷ []
unfolding c26 r26 process judged chunk_steps chunk_step tick_of turns turn new_to new_from source_after aux_after put_slews fill_from tick_sum others plains offsets some_plain plain route_value input_in in_group sounding in_span plan_at route_at part_of sample_in fill part on_part rows_of_chunk audio_of audio_plans glided moved_held advanced joined moving moved_value moved_glide chunk_total chunk_of load_by active_count draw_routes put_state put_held put_globals put_values put_audio with_velocity with_key with_marks with_phase with_block with_primed with_gains with_program with_draw marks_cleared marks_swapped no_marks no_voices no_notes fresh_state empty_of swap_program compiled padded target_place verdict verdicts_from verdicts candidates skipped_of in_use counted_feed used_dests feeder_of readers_of reads hears_audio is_audio controls audios plan_order order slew_for input_by route_by route_in plan_by plans_of all_routes seconds_of rate_per_sample names_table any_names slot_names hold max32 min32 is_nan lt le eq add sub mul div of_int set_held set_voice_held set_base set_amount set_output set_voice_limit note_on note_off voice_ended run done_by note_curve randoms_set alternates sounded_on ranks_on ended_of newest_after marks_on marks_ended set_note set_value set_glide legato_time ended_note arrives glideMoved held_by draw_voices with_voices with_alternate with_limit put_bases lookup_of position cell_of partOfCell reach moved slew_step step scrambled draw_bits draw_of row_at on_row kept_amount kept_output clamp_to finite ne neg to_bits to_unsigned audio_frame audio_frames new_audio audio_sum all_plain from_part to_part is_sounding abs_of
e26 = refl

-- cases/t12-kept-global-slew-snaps.txt
r27 : Runner
r27 =
    start_with (wired_as (record { sample_rate = (fin false 1 (pos 6)); max_frames = 32; voices = 2 })
    (source (K.Held) S.Voice R.Unipolar ∷ [])
    (record { target = (A.Param 0); scope = S.Global; rate = T.Control; min = (inf true); max = (inf false); feed = F.Nothing } ∷ [])
    (record { source = Some 0; source_curve = C.Table (fin false 1 (pos 2)) (fin false 1 (pos 2)); amount = (fin false 1 (pos 0)); polarity = Q.Unipolar; destination = Some (A.Param 0); aux = None; aux_invert = false; aux_curve = C.Linear; output = (fin false 1 (pos 0)); bypass = false } ∷ [])
    N.Linear N.Linear false false)
    (kept_of (wired_as (record { sample_rate = (fin false 1 (pos 6)); max_frames = 32; voices = 2 })
    (source (K.Held) S.Voice R.Unipolar ∷ [])
    (record { target = (A.Param 0); scope = S.Global; rate = T.Control; min = (inf true); max = (inf false); feed = F.Nothing } ∷ [])
    (record { source = Some 0; source_curve = C.Table (fin false 1 (pos 2)) (fin false 1 (pos 2)); amount = (fin false 1 (pos 0)); polarity = Q.Unipolar; destination = Some (A.Param 0); aux = None; aux_invert = false; aux_curve = C.Linear; output = (fin false 1 (pos 0)); bypass = false } ∷ [])
    N.Linear N.Linear false false) (tabulated diagonal_at ++ (replicate 66177 zero32)) ∷ [])

c27 : List (List Call)
c27 = ((swap 1) ∷ (note-on 0 (record { key = (fin false 15 (pos 2)); velocity = (fin false 1 (pos 0)); legato = false; glide_seconds = (fin false 0 (pos 0)) })) ∷ (block ([]) (record { part = [] }) 0 5) ∷ []) ∷ ((held-set 0 (fin false 1 (pos 0))) ∷ (note-on 1 (record { key = (fin false 15 (pos 2)); velocity = (fin false 1 (pos 0)); legato = false; glide_seconds = (fin false 0 (pos 0)) })) ∷ (block ([]) (record { part = [] }) 0 27) ∷ []) ∷ []

e27 : reports c27 r27 ≡ (0 ∷ 0 ∷ []) ∷ (0 ∷ 0 ∷ []) ∷ []
unfolding c27 r27 process judged chunk_steps chunk_step tick_of turns turn new_to new_from source_after aux_after put_slews fill_from tick_sum others plains offsets some_plain plain route_value input_in in_group sounding in_span plan_at route_at part_of sample_in fill part on_part rows_of_chunk audio_of audio_plans glided moved_held advanced joined moving moved_value moved_glide chunk_total chunk_of load_by active_count draw_routes put_state put_held put_globals put_values put_audio with_velocity with_key with_marks with_phase with_block with_primed with_gains with_program with_draw marks_cleared marks_swapped no_marks no_voices no_notes fresh_state empty_of swap_program compiled padded target_place verdict verdicts_from verdicts candidates skipped_of in_use counted_feed used_dests feeder_of readers_of reads hears_audio is_audio controls audios plan_order order slew_for input_by route_by route_in plan_by plans_of all_routes seconds_of rate_per_sample names_table any_names slot_names hold max32 min32 is_nan lt le eq add sub mul div of_int set_held set_voice_held set_base set_amount set_output set_voice_limit note_on note_off voice_ended run done_by note_curve randoms_set alternates sounded_on ranks_on ended_of newest_after marks_on marks_ended set_note set_value set_glide legato_time ended_note arrives glideMoved held_by draw_voices with_voices with_alternate with_limit put_bases lookup_of position cell_of partOfCell reach moved slew_step step scrambled draw_bits draw_of row_at on_row kept_amount kept_output clamp_to finite ne neg to_bits to_unsigned audio_frame audio_frames new_audio audio_sum all_plain from_part to_part is_sounding abs_of
e27 = refl

-- cases/t13-global-slew-no-voice.txt
r28 : Runner
r28 =
    start_with (wired_as (record { sample_rate = (fin false 1 (pos 6)); max_frames = 32; voices = 1 })
    (source (K.Held) S.Global R.Unipolar ∷ [])
    (record { target = (A.Param 0); scope = S.Voice; rate = T.Control; min = (inf true); max = (inf false); feed = F.Nothing } ∷ [])
    (record { source = Some 0; source_curve = C.Table (fin false 1 (pos 0)) (fin false 1 (pos 0)); amount = (fin false 1 (pos 0)); polarity = Q.Unipolar; destination = Some (A.Param 0); aux = None; aux_invert = false; aux_curve = C.Linear; output = (fin false 1 (pos 0)); bypass = false } ∷ [])
    N.Linear N.Linear false false)
    (kept_of (wired_as (record { sample_rate = (fin false 1 (pos 6)); max_frames = 32; voices = 1 })
    (source (K.Held) S.Global R.Unipolar ∷ [])
    (record { target = (A.Param 0); scope = S.Voice; rate = T.Control; min = (inf true); max = (inf false); feed = F.Nothing } ∷ [])
    (record { source = Some 0; source_curve = C.Table (fin false 1 (pos 0)) (fin false 1 (pos 0)); amount = (fin false 1 (pos 0)); polarity = Q.Unipolar; destination = Some (A.Param 0); aux = None; aux_invert = false; aux_curve = C.Linear; output = (fin false 1 (pos 0)); bypass = false } ∷ [])
    N.Linear N.Linear false false) (tabulated diagonal_at ++ (replicate 66177 zero32)) ∷ [])

c28 : List (List Call)
c28 = ((swap 1) ∷ (held-set 0 (fin false 1 (pos 0))) ∷ (block ([]) (record { part = [] }) 0 32) ∷ []) ∷ []

e28 : reports c28 r28 ≡ (0 ∷ 0 ∷ 0 ∷ 0 ∷ 0 ∷ 0 ∷ 0 ∷ 0 ∷ 0 ∷ 0 ∷ 0 ∷ 0 ∷ 0 ∷ 0 ∷ 0 ∷ 0 ∷ 0 ∷ 0 ∷ 0 ∷ 0 ∷ 0 ∷ 0 ∷ 0 ∷ 0 ∷ 0 ∷ 0 ∷ 0 ∷ 0 ∷ 0 ∷ 0 ∷ 0 ∷ 0 ∷ []) ∷ []
unfolding c28 r28 process judged chunk_steps chunk_step tick_of turns turn new_to new_from source_after aux_after put_slews fill_from tick_sum others plains offsets some_plain plain route_value input_in in_group sounding in_span plan_at route_at part_of sample_in fill part on_part rows_of_chunk audio_of audio_plans glided moved_held advanced joined moving moved_value moved_glide chunk_total chunk_of load_by active_count draw_routes put_state put_held put_globals put_values put_audio with_velocity with_key with_marks with_phase with_block with_primed with_gains with_program with_draw marks_cleared marks_swapped no_marks no_voices no_notes fresh_state empty_of swap_program compiled padded target_place verdict verdicts_from verdicts candidates skipped_of in_use counted_feed used_dests feeder_of readers_of reads hears_audio is_audio controls audios plan_order order slew_for input_by route_by route_in plan_by plans_of all_routes seconds_of rate_per_sample names_table any_names slot_names hold max32 min32 is_nan lt le eq add sub mul div of_int set_held set_voice_held set_base set_amount set_output set_voice_limit note_on note_off voice_ended run done_by note_curve randoms_set alternates sounded_on ranks_on ended_of newest_after marks_on marks_ended set_note set_value set_glide legato_time ended_note arrives glideMoved held_by draw_voices with_voices with_alternate with_limit put_bases lookup_of position cell_of partOfCell reach moved slew_step step scrambled draw_bits draw_of row_at on_row kept_amount kept_output clamp_to finite ne neg to_bits to_unsigned audio_frame audio_frames new_audio audio_sum all_plain from_part to_part is_sounding abs_of
e28 = refl

-- cases/t15-self-feed-reinstalled.txt
r30 : Runner
r30 =
    start_with (wired_as (record { sample_rate = (fin false 1 (pos 6)); max_frames = 32; voices = 1 })
    (source (K.Held) S.Global R.Unipolar ∷ source (K.Constant) S.Global R.Unipolar ∷ [])
    (record { target = (A.Param 0); scope = S.Global; rate = T.Control; min = (inf true); max = (inf false); feed = (F.Source 0) } ∷ [])
    (record { source = Some 0; source_curve = C.Linear; amount = (fin false 1 (pos 0)); polarity = Q.Unipolar; destination = Some (A.Param 0); aux = None; aux_invert = false; aux_curve = C.Linear; output = (fin false 1 (pos 0)); bypass = false } ∷ record { source = Some 1; source_curve = C.Linear; amount = (fin false 1 (pos 0)); polarity = Q.Unipolar; destination = Some (A.Param 0); aux = None; aux_invert = false; aux_curve = C.Linear; output = (fin false 1 (pos 0)); bypass = false } ∷ [])
    N.Linear N.Linear false false)
    (kept_of (wired_as (record { sample_rate = (fin false 1 (pos 6)); max_frames = 32; voices = 1 })
    (source (K.Held) S.Global R.Unipolar ∷ source (K.Constant) S.Global R.Unipolar ∷ [])
    (record { target = (A.Param 0); scope = S.Global; rate = T.Control; min = (inf true); max = (inf false); feed = (F.Source 0) } ∷ [])
    (record { source = Some 0; source_curve = C.Linear; amount = (fin false 1 (pos 0)); polarity = Q.Unipolar; destination = Some (A.Param 0); aux = None; aux_invert = false; aux_curve = C.Linear; output = (fin false 1 (pos 0)); bypass = false } ∷ record { source = Some 1; source_curve = C.Linear; amount = (fin false 1 (pos 0)); polarity = Q.Unipolar; destination = Some (A.Param 0); aux = None; aux_invert = false; aux_curve = C.Linear; output = (fin false 1 (pos 0)); bypass = false } ∷ [])
    N.Linear N.Linear false false) [] ∷ kept_of (wired_as (record { sample_rate = (fin false 1 (pos 6)); max_frames = 32; voices = 1 })
    (source (K.Held) S.Global R.Unipolar ∷ source (K.Constant) S.Global R.Unipolar ∷ [])
    (record { target = (A.Param 0); scope = S.Global; rate = T.Control; min = (inf true); max = (inf false); feed = (F.Source 0) } ∷ [])
    (record { source = Some 0; source_curve = C.Linear; amount = (fin false 1 (pos 0)); polarity = Q.Unipolar; destination = Some (A.Param 0); aux = None; aux_invert = false; aux_curve = C.Linear; output = (fin false 1 (pos 0)); bypass = false } ∷ record { source = Some 1; source_curve = C.Linear; amount = (fin false 1 (pos 0)); polarity = Q.Unipolar; destination = Some (A.Param 0); aux = None; aux_invert = false; aux_curve = C.Linear; output = (fin false 1 (pos 0)); bypass = false } ∷ [])
    N.Linear N.Linear false false) [] ∷ [])

c30 : List (List Call)
c30 = ((swap 1) ∷ (block ([]) (record { part = [] }) 0 32) ∷ []) ∷ ((block ([]) (record { part = [] }) 0 32) ∷ []) ∷ ((amount-set 1 (fin false 1 (negsuc 0))) ∷ (swap 2) ∷ (swap 1) ∷ (block ([]) (record { part = [] }) 0 32) ∷ []) ∷ []

e30 : reports c30 r30 ≡ (1065353216 ∷ 1065353216 ∷ []) ∷ (1065353216 ∷ 1073741824 ∷ []) ∷ (1077936128 ∷ 1077936128 ∷ []) ∷ []
unfolding c30 r30 process judged chunk_steps chunk_step tick_of turns turn new_to new_from source_after aux_after put_slews fill_from tick_sum others plains offsets some_plain plain route_value input_in in_group sounding in_span plan_at route_at part_of sample_in fill part on_part rows_of_chunk audio_of audio_plans glided moved_held advanced joined moving moved_value moved_glide chunk_total chunk_of load_by active_count draw_routes put_state put_held put_globals put_values put_audio with_velocity with_key with_marks with_phase with_block with_primed with_gains with_program with_draw marks_cleared marks_swapped no_marks no_voices no_notes fresh_state empty_of swap_program compiled padded target_place verdict verdicts_from verdicts candidates skipped_of in_use counted_feed used_dests feeder_of readers_of reads hears_audio is_audio controls audios plan_order order slew_for input_by route_by route_in plan_by plans_of all_routes seconds_of rate_per_sample names_table any_names slot_names hold max32 min32 is_nan lt le eq add sub mul div of_int set_held set_voice_held set_base set_amount set_output set_voice_limit note_on note_off voice_ended run done_by note_curve randoms_set alternates sounded_on ranks_on ended_of newest_after marks_on marks_ended set_note set_value set_glide legato_time ended_note arrives glideMoved held_by draw_voices with_voices with_alternate with_limit put_bases lookup_of position cell_of partOfCell reach moved slew_step step scrambled draw_bits draw_of row_at on_row kept_amount kept_output clamp_to finite ne neg to_bits to_unsigned audio_frame audio_frames new_audio audio_sum all_plain from_part to_part is_sounding abs_of
e30 = refl

-- cases/t16-load-no-routes.txt
r31 : Runner
r31 =
    start_with (wired_as (record { sample_rate = (fin false 1 (pos 6)); max_frames = 32; voices = 2 })
    (source (K.VoiceLoad) S.Global R.Unipolar ∷ source (K.VoiceLoad) S.Voice R.Unipolar ∷ [])
    (record { target = (A.Param 0); scope = S.Global; rate = T.Control; min = (inf true); max = (inf false); feed = F.Nothing } ∷ [])
    (record { source = Some 0; source_curve = C.Linear; amount = (fin false 1 (pos 0)); polarity = Q.Unipolar; destination = Some (A.Param 0); aux = None; aux_invert = false; aux_curve = C.Linear; output = (fin false 1 (pos 0)); bypass = false } ∷ [])
    N.Linear N.Linear false false)
    (kept_of (wired_as (record { sample_rate = (fin false 1 (pos 6)); max_frames = 32; voices = 2 })
    (source (K.VoiceLoad) S.Global R.Unipolar ∷ source (K.VoiceLoad) S.Voice R.Unipolar ∷ [])
    (record { target = (A.Param 0); scope = S.Global; rate = T.Control; min = (inf true); max = (inf false); feed = F.Nothing } ∷ [])
    (record { source = Some 0; source_curve = C.Linear; amount = (fin false 1 (pos 0)); polarity = Q.Unipolar; destination = Some (A.Param 0); aux = None; aux_invert = false; aux_curve = C.Linear; output = (fin false 1 (pos 0)); bypass = false } ∷ [])
    N.Linear N.Linear false false) [] ∷ [])

c31 : List (List Call)
c31 = ((note-on 0 (record { key = (fin false 15 (pos 2)); velocity = (fin false 1 (pos 0)); legato = false; glide_seconds = (fin false 0 (pos 0)) })) ∷ (block ([]) (record { part = [] }) 0 32) ∷ []) ∷ ((swap 1) ∷ (limit-set 0) ∷ (block ([]) (record { part = [] }) 0 32) ∷ []) ∷ ((limit-set 18446744073709551615) ∷ (block ([]) (record { part = [] }) 0 32) ∷ []) ∷ []

e31 : reports c31 r31 ≡ ([]) ∷ (1065353216 ∷ 1065353216 ∷ []) ∷ (1065353216 ∷ 528482304 ∷ []) ∷ []
unfolding c31 r31 process judged chunk_steps chunk_step tick_of turns turn new_to new_from source_after aux_after put_slews fill_from tick_sum others plains offsets some_plain plain route_value input_in in_group sounding in_span plan_at route_at part_of sample_in fill part on_part rows_of_chunk audio_of audio_plans glided moved_held advanced joined moving moved_value moved_glide chunk_total chunk_of load_by active_count draw_routes put_state put_held put_globals put_values put_audio with_velocity with_key with_marks with_phase with_block with_primed with_gains with_program with_draw marks_cleared marks_swapped no_marks no_voices no_notes fresh_state empty_of swap_program compiled padded target_place verdict verdicts_from verdicts candidates skipped_of in_use counted_feed used_dests feeder_of readers_of reads hears_audio is_audio controls audios plan_order order slew_for input_by route_by route_in plan_by plans_of all_routes seconds_of rate_per_sample names_table any_names slot_names hold max32 min32 is_nan lt le eq add sub mul div of_int set_held set_voice_held set_base set_amount set_output set_voice_limit note_on note_off voice_ended run done_by note_curve randoms_set alternates sounded_on ranks_on ended_of newest_after marks_on marks_ended set_note set_value set_glide legato_time ended_note arrives glideMoved held_by draw_voices with_voices with_alternate with_limit put_bases lookup_of position cell_of partOfCell reach moved slew_step step scrambled draw_bits draw_of row_at on_row kept_amount kept_output clamp_to finite ne neg to_bits to_unsigned audio_frame audio_frames new_audio audio_sum all_plain from_part to_part is_sounding abs_of
e31 = refl

-- cases/t17-global-input-voice-route-snaps.txt
r32 : Runner
r32 =
    start_with (wired_as (record { sample_rate = (fin false 1 (pos 6)); max_frames = 32; voices = 2 })
    (source (K.Held) S.Global R.Unipolar ∷ source (K.Held) S.Voice R.Unipolar ∷ [])
    (record { target = (A.Param 0); scope = S.Voice; rate = T.Control; min = (inf true); max = (inf false); feed = F.Nothing } ∷ [])
    (record { source = Some 0; source_curve = C.Table (fin false 1 (pos 0)) (fin false 1 (pos 0)); amount = (fin false 1 (pos 0)); polarity = Q.Unipolar; destination = Some (A.Param 0); aux = Some 1; aux_invert = false; aux_curve = C.Linear; output = (fin false 1 (pos 0)); bypass = false } ∷ [])
    N.Linear N.Linear false false)
    (kept_of (wired_as (record { sample_rate = (fin false 1 (pos 6)); max_frames = 32; voices = 2 })
    (source (K.Held) S.Global R.Unipolar ∷ source (K.Held) S.Voice R.Unipolar ∷ [])
    (record { target = (A.Param 0); scope = S.Voice; rate = T.Control; min = (inf true); max = (inf false); feed = F.Nothing } ∷ [])
    (record { source = Some 0; source_curve = C.Table (fin false 1 (pos 0)) (fin false 1 (pos 0)); amount = (fin false 1 (pos 0)); polarity = Q.Unipolar; destination = Some (A.Param 0); aux = Some 1; aux_invert = false; aux_curve = C.Linear; output = (fin false 1 (pos 0)); bypass = false } ∷ [])
    N.Linear N.Linear false false) (tabulated diagonal_at ++ (replicate 66177 zero32)) ∷ [])

c32 : List (List Call)
c32 = ((swap 1) ∷ (held-set 0 (fin false 1 (pos 0))) ∷ (held-set 1 (fin false 1 (pos 0))) ∷ (note-on 0 (record { key = (fin false 15 (pos 2)); velocity = (fin false 1 (pos 0)); legato = false; glide_seconds = (fin false 0 (pos 0)) })) ∷ (block ([]) (record { part = [] }) 0 32) ∷ []) ∷ []

e32 : reports c32 r32 ≡ (1065353216 ∷ 1056964608 ∷ 1056964608 ∷ 1056964608 ∷ 1056964608 ∷ 1056964608 ∷ 1056964608 ∷ 1056964608 ∷ 1056964608 ∷ 1056964608 ∷ 1056964608 ∷ 1056964608 ∷ 1056964608 ∷ 1056964608 ∷ 1056964608 ∷ 1056964608 ∷ 1065353216 ∷ 1056964608 ∷ 1056964608 ∷ 1056964608 ∷ 1056964608 ∷ 1056964608 ∷ 1056964608 ∷ 1056964608 ∷ 1056964608 ∷ 1056964608 ∷ 1056964608 ∷ 1056964608 ∷ 1056964608 ∷ 1056964608 ∷ 1056964608 ∷ 1056964608 ∷ []) ∷ []
unfolding c32 r32 process judged chunk_steps chunk_step tick_of turns turn new_to new_from source_after aux_after put_slews fill_from tick_sum others plains offsets some_plain plain route_value input_in in_group sounding in_span plan_at route_at part_of sample_in fill part on_part rows_of_chunk audio_of audio_plans glided moved_held advanced joined moving moved_value moved_glide chunk_total chunk_of load_by active_count draw_routes put_state put_held put_globals put_values put_audio with_velocity with_key with_marks with_phase with_block with_primed with_gains with_program with_draw marks_cleared marks_swapped no_marks no_voices no_notes fresh_state empty_of swap_program compiled padded target_place verdict verdicts_from verdicts candidates skipped_of in_use counted_feed used_dests feeder_of readers_of reads hears_audio is_audio controls audios plan_order order slew_for input_by route_by route_in plan_by plans_of all_routes seconds_of rate_per_sample names_table any_names slot_names hold max32 min32 is_nan lt le eq add sub mul div of_int set_held set_voice_held set_base set_amount set_output set_voice_limit note_on note_off voice_ended run done_by note_curve randoms_set alternates sounded_on ranks_on ended_of newest_after marks_on marks_ended set_note set_value set_glide legato_time ended_note arrives glideMoved held_by draw_voices with_voices with_alternate with_limit put_bases lookup_of position cell_of partOfCell reach moved slew_step step scrambled draw_bits draw_of row_at on_row kept_amount kept_output clamp_to finite ne neg to_bits to_unsigned audio_frame audio_frames new_audio audio_sum all_plain from_part to_part is_sounding abs_of
e32 = refl

-- cases/t18-group-lane-reads-own-feeder.txt
r33 : Runner
r33 =
    start_with (wired_as (record { sample_rate = (fin false 1 (pos 6)); max_frames = 32; voices = 2 })
    (source (K.Held) S.Global R.Unipolar ∷ source (K.Held) S.Voice R.Unipolar ∷ [])
    (record { target = (A.Param 0); scope = S.Global; rate = T.Control; min = (inf true); max = (inf false); feed = F.Nothing } ∷ record { target = (A.Param 1); scope = S.Voice; rate = T.Control; min = (inf true); max = (inf false); feed = (F.Source 0) } ∷ [])
    (record { source = Some 0; source_curve = C.Table (fin false 1 (pos 2)) (fin false 1 (pos 2)); amount = (fin false 1 (pos 0)); polarity = Q.Unipolar; destination = Some (A.Param 0); aux = None; aux_invert = false; aux_curve = C.Linear; output = (fin false 1 (pos 0)); bypass = false } ∷ record { source = Some 1; source_curve = C.Linear; amount = (fin false 1 (pos 0)); polarity = Q.Unipolar; destination = Some (A.Param 1); aux = None; aux_invert = false; aux_curve = C.Linear; output = (fin false 1 (pos 0)); bypass = false } ∷ [])
    N.Linear N.Linear false false)
    (kept_of (wired_as (record { sample_rate = (fin false 1 (pos 6)); max_frames = 32; voices = 2 })
    (source (K.Held) S.Global R.Unipolar ∷ source (K.Held) S.Voice R.Unipolar ∷ [])
    (record { target = (A.Param 0); scope = S.Global; rate = T.Control; min = (inf true); max = (inf false); feed = F.Nothing } ∷ record { target = (A.Param 1); scope = S.Voice; rate = T.Control; min = (inf true); max = (inf false); feed = (F.Source 0) } ∷ [])
    (record { source = Some 0; source_curve = C.Table (fin false 1 (pos 2)) (fin false 1 (pos 2)); amount = (fin false 1 (pos 0)); polarity = Q.Unipolar; destination = Some (A.Param 0); aux = None; aux_invert = false; aux_curve = C.Linear; output = (fin false 1 (pos 0)); bypass = false } ∷ record { source = Some 1; source_curve = C.Linear; amount = (fin false 1 (pos 0)); polarity = Q.Unipolar; destination = Some (A.Param 1); aux = None; aux_invert = false; aux_curve = C.Linear; output = (fin false 1 (pos 0)); bypass = false } ∷ [])
    N.Linear N.Linear false false) (tabulated diagonal_at ++ (replicate 66177 zero32)) ∷ [])

c33 : List (List Call)
c33 = ((swap 1) ∷ (note-on 0 (record { key = (fin false 15 (pos 2)); velocity = (fin false 1 (pos 0)); legato = false; glide_seconds = (fin false 0 (pos 0)) })) ∷ (note-on 1 (record { key = (fin false 15 (pos 2)); velocity = (fin false 1 (pos 0)); legato = false; glide_seconds = (fin false 0 (pos 0)) })) ∷ (voice-held-set 1 0 (fin false 1 (pos 0))) ∷ (voice-held-set 1 1 (fin false 1 (negsuc 0))) ∷ (block ([]) (record { part = [] }) 0 32) ∷ []) ∷ ((voice-ended 1) ∷ (block ([]) (record { part = [] }) 0 32) ∷ []) ∷ []

e33 : reports c33 r33 ≡ (1056964608 ∷ 1056964608 ∷ 1065353216 ∷ 1056964608 ∷ 0 ∷ 0 ∷ 0 ∷ 0 ∷ 0 ∷ 0 ∷ 0 ∷ 0 ∷ 0 ∷ 0 ∷ 0 ∷ 0 ∷ 0 ∷ 0 ∷ 1065353216 ∷ 1056964608 ∷ 0 ∷ 0 ∷ 0 ∷ 0 ∷ 0 ∷ 0 ∷ 0 ∷ 0 ∷ 0 ∷ 0 ∷ 0 ∷ 0 ∷ 0 ∷ 0 ∷ []) ∷ (1056964608 ∷ 1065353216 ∷ 1065353216 ∷ 1056964608 ∷ 0 ∷ 0 ∷ 0 ∷ 0 ∷ 0 ∷ 0 ∷ 0 ∷ 0 ∷ 0 ∷ 0 ∷ 0 ∷ 0 ∷ 0 ∷ 0 ∷ 1065353216 ∷ 1056964608 ∷ 0 ∷ 0 ∷ 0 ∷ 0 ∷ 0 ∷ 0 ∷ 0 ∷ 0 ∷ 0 ∷ 0 ∷ 0 ∷ 0 ∷ 0 ∷ 0 ∷ []) ∷ []
unfolding c33 r33 process judged chunk_steps chunk_step tick_of turns turn new_to new_from source_after aux_after put_slews fill_from tick_sum others plains offsets some_plain plain route_value input_in in_group sounding in_span plan_at route_at part_of sample_in fill part on_part rows_of_chunk audio_of audio_plans glided moved_held advanced joined moving moved_value moved_glide chunk_total chunk_of load_by active_count draw_routes put_state put_held put_globals put_values put_audio with_velocity with_key with_marks with_phase with_block with_primed with_gains with_program with_draw marks_cleared marks_swapped no_marks no_voices no_notes fresh_state empty_of swap_program compiled padded target_place verdict verdicts_from verdicts candidates skipped_of in_use counted_feed used_dests feeder_of readers_of reads hears_audio is_audio controls audios plan_order order slew_for input_by route_by route_in plan_by plans_of all_routes seconds_of rate_per_sample names_table any_names slot_names hold max32 min32 is_nan lt le eq add sub mul div of_int set_held set_voice_held set_base set_amount set_output set_voice_limit note_on note_off voice_ended run done_by note_curve randoms_set alternates sounded_on ranks_on ended_of newest_after marks_on marks_ended set_note set_value set_glide legato_time ended_note arrives glideMoved held_by draw_voices with_voices with_alternate with_limit put_bases lookup_of position cell_of partOfCell reach moved slew_step step scrambled draw_bits draw_of row_at on_row kept_amount kept_output clamp_to finite ne neg to_bits to_unsigned audio_frame audio_frames new_audio audio_sum all_plain from_part to_part is_sounding abs_of
e33 = refl

-- cases/t19-swap-offphase-active.txt
r34 : Runner
r34 =
    start_with (wired_as (record { sample_rate = (fin false 1 (pos 6)); max_frames = 32; voices = 1 })
    (source (K.Constant) S.Global R.Unipolar ∷ [])
    (record { target = (A.Param 0); scope = S.Global; rate = T.Control; min = (fin false 0 (pos 0)); max = (fin false 1 (pos 0)); feed = F.Nothing } ∷ [])
    (record { source = Some 0; source_curve = C.Linear; amount = (fin false 1 (negsuc 0)); polarity = Q.Unipolar; destination = Some (A.Param 0); aux = None; aux_invert = false; aux_curve = C.Linear; output = (fin false 1 (pos 0)); bypass = false } ∷ [])
    N.Linear N.Linear false false)
    (kept_of (wired_as (record { sample_rate = (fin false 1 (pos 6)); max_frames = 32; voices = 1 })
    (source (K.Constant) S.Global R.Unipolar ∷ [])
    (record { target = (A.Param 0); scope = S.Global; rate = T.Control; min = (fin false 0 (pos 0)); max = (fin false 1 (pos 0)); feed = F.Nothing } ∷ [])
    (record { source = Some 0; source_curve = C.Linear; amount = (fin false 1 (negsuc 0)); polarity = Q.Unipolar; destination = Some (A.Param 0); aux = None; aux_invert = false; aux_curve = C.Linear; output = (fin false 1 (pos 0)); bypass = false } ∷ [])
    N.Linear N.Linear false false) [] ∷ kept_of (wired_as (record { sample_rate = (fin false 1 (pos 6)); max_frames = 32; voices = 1 })
    (source (K.Constant) S.Global R.Unipolar ∷ [])
    (record { target = (A.Param 0); scope = S.Global; rate = T.Control; min = (fin false 0 (pos 0)); max = (fin false 1 (pos 0)); feed = F.Nothing } ∷ [])
    (record { source = Some 0; source_curve = C.Linear; amount = (fin false 1 (negsuc 0)); polarity = Q.Unipolar; destination = Some (A.Param 0); aux = None; aux_invert = false; aux_curve = C.Linear; output = (fin false 1 (pos 0)); bypass = false } ∷ [])
    N.Linear N.Linear false false) [] ∷ [])

c34 : List (List Call)
c34 = ((note-on 0 (record { key = (fin false 15 (pos 2)); velocity = (fin false 1 (pos 0)); legato = false; glide_seconds = (fin false 0 (pos 0)) })) ∷ (block ([]) (record { part = [] }) 0 5) ∷ []) ∷ ((swap 1) ∷ (block ([]) (record { part = [] }) 0 5) ∷ []) ∷ ((voice-ended 0) ∷ (swap 2) ∷ (block ([]) (record { part = [] }) 0 5) ∷ []) ∷ []

e34 : reports c34 r34 ≡ ([]) ∷ (1056964608 ∷ 1056964608 ∷ []) ∷ (0 ∷ 0 ∷ []) ∷ []
unfolding c34 r34 process judged chunk_steps chunk_step tick_of turns turn new_to new_from source_after aux_after put_slews fill_from tick_sum others plains offsets some_plain plain route_value input_in in_group sounding in_span plan_at route_at part_of sample_in fill part on_part rows_of_chunk audio_of audio_plans glided moved_held advanced joined moving moved_value moved_glide chunk_total chunk_of load_by active_count draw_routes put_state put_held put_globals put_values put_audio with_velocity with_key with_marks with_phase with_block with_primed with_gains with_program with_draw marks_cleared marks_swapped no_marks no_voices no_notes fresh_state empty_of swap_program compiled padded target_place verdict verdicts_from verdicts candidates skipped_of in_use counted_feed used_dests feeder_of readers_of reads hears_audio is_audio controls audios plan_order order slew_for input_by route_by route_in plan_by plans_of all_routes seconds_of rate_per_sample names_table any_names slot_names hold max32 min32 is_nan lt le eq add sub mul div of_int set_held set_voice_held set_base set_amount set_output set_voice_limit note_on note_off voice_ended run done_by note_curve randoms_set alternates sounded_on ranks_on ended_of newest_after marks_on marks_ended set_note set_value set_glide legato_time ended_note arrives glideMoved held_by draw_voices with_voices with_alternate with_limit put_bases lookup_of position cell_of partOfCell reach moved slew_step step scrambled draw_bits draw_of row_at on_row kept_amount kept_output clamp_to finite ne neg to_bits to_unsigned audio_frame audio_frames new_audio audio_sum all_plain from_part to_part is_sounding abs_of
e34 = refl

-- cases/t20-audio-nan-bounds.txt
r35 : Runner
r35 =
    start_with (wired_as (record { sample_rate = (fin false 1 (pos 6)); max_frames = 1; voices = 1 })
    (source (K.Signal) S.Global R.Unipolar ∷ [])
    (record { target = (A.Param 0); scope = S.Global; rate = T.Audio; min = (inf true); max = (inf false); feed = F.Nothing } ∷ record { target = (A.Param 1); scope = S.Global; rate = T.Audio; min = (inf true); max = (fin false 1 (pos 0)); feed = F.Nothing } ∷ record { target = (A.Param 2); scope = S.Global; rate = T.Control; min = (inf true); max = (inf false); feed = F.Nothing } ∷ [])
    (record { source = Some 0; source_curve = C.Linear; amount = (fin false 1 (pos 0)); polarity = Q.Unipolar; destination = Some (A.Param 0); aux = None; aux_invert = false; aux_curve = C.Linear; output = (fin false 1 (pos 0)); bypass = false } ∷ record { source = Some 0; source_curve = C.Linear; amount = (fin false 1 (pos 0)); polarity = Q.Unipolar; destination = Some (A.Param 1); aux = None; aux_invert = false; aux_curve = C.Linear; output = (fin false 1 (pos 0)); bypass = false } ∷ record { source = Some 0; source_curve = C.Linear; amount = (fin false 1 (pos 0)); polarity = Q.Unipolar; destination = Some (A.Param 2); aux = None; aux_invert = false; aux_curve = C.Linear; output = (fin false 1 (pos 0)); bypass = false } ∷ [])
    N.Linear N.Linear false false)
    (kept_of (wired_as (record { sample_rate = (fin false 1 (pos 6)); max_frames = 1; voices = 1 })
    (source (K.Signal) S.Global R.Unipolar ∷ [])
    (record { target = (A.Param 0); scope = S.Global; rate = T.Audio; min = (inf true); max = (inf false); feed = F.Nothing } ∷ record { target = (A.Param 1); scope = S.Global; rate = T.Audio; min = (inf true); max = (fin false 1 (pos 0)); feed = F.Nothing } ∷ record { target = (A.Param 2); scope = S.Global; rate = T.Control; min = (inf true); max = (inf false); feed = F.Nothing } ∷ [])
    (record { source = Some 0; source_curve = C.Linear; amount = (fin false 1 (pos 0)); polarity = Q.Unipolar; destination = Some (A.Param 0); aux = None; aux_invert = false; aux_curve = C.Linear; output = (fin false 1 (pos 0)); bypass = false } ∷ record { source = Some 0; source_curve = C.Linear; amount = (fin false 1 (pos 0)); polarity = Q.Unipolar; destination = Some (A.Param 1); aux = None; aux_invert = false; aux_curve = C.Linear; output = (fin false 1 (pos 0)); bypass = false } ∷ record { source = Some 0; source_curve = C.Linear; amount = (fin false 1 (pos 0)); polarity = Q.Unipolar; destination = Some (A.Param 2); aux = None; aux_invert = false; aux_curve = C.Linear; output = (fin false 1 (pos 0)); bypass = false } ∷ [])
    N.Linear N.Linear false false) [] ∷ [])

c35 : List (List Call)
c35 = ((swap 1) ∷ (block (nan ∷ []) (record { part = record { at = 0; len = 1; stride = 0 } ∷ [] }) 0 1) ∷ []) ∷ []

e35 : reports c35 r35 ≡ (2143289344 ∷ 4286578688 ∷ 4286578688 ∷ 4286578688 ∷ []) ∷ []
unfolding c35 r35 process judged chunk_steps chunk_step tick_of turns turn new_to new_from source_after aux_after put_slews fill_from tick_sum others plains offsets some_plain plain route_value input_in in_group sounding in_span plan_at route_at part_of sample_in fill part on_part rows_of_chunk audio_of audio_plans glided moved_held advanced joined moving moved_value moved_glide chunk_total chunk_of load_by active_count draw_routes put_state put_held put_globals put_values put_audio with_velocity with_key with_marks with_phase with_block with_primed with_gains with_program with_draw marks_cleared marks_swapped no_marks no_voices no_notes fresh_state empty_of swap_program compiled padded target_place verdict verdicts_from verdicts candidates skipped_of in_use counted_feed used_dests feeder_of readers_of reads hears_audio is_audio controls audios plan_order order slew_for input_by route_by route_in plan_by plans_of all_routes seconds_of rate_per_sample names_table any_names slot_names hold max32 min32 is_nan lt le eq add sub mul div of_int set_held set_voice_held set_base set_amount set_output set_voice_limit note_on note_off voice_ended run done_by note_curve randoms_set alternates sounded_on ranks_on ended_of newest_after marks_on marks_ended set_note set_value set_glide legato_time ended_note arrives glideMoved held_by draw_voices with_voices with_alternate with_limit put_bases lookup_of position cell_of partOfCell reach moved slew_step step scrambled draw_bits draw_of row_at on_row kept_amount kept_output clamp_to finite ne neg to_bits to_unsigned audio_frame audio_frames new_audio audio_sum all_plain from_part to_part is_sounding abs_of
e35 = refl

-- cases/t22-legato-renote-no-fresh.txt
r36 : Runner
r36 =
    start_with (wired_as (record { sample_rate = (fin false 1 (pos 6)); max_frames = 32; voices = 2 })
    (source (K.RandomPerRoute) S.Voice R.Unipolar ∷ [])
    (record { target = (A.Param 0); scope = S.Voice; rate = T.Control; min = (fin false 0 (pos 0)); max = (fin false 1 (pos 0)); feed = F.Nothing } ∷ [])
    (record { source = Some 0; source_curve = C.Linear; amount = (fin false 1 (pos 0)); polarity = Q.Unipolar; destination = Some (A.Param 0); aux = None; aux_invert = false; aux_curve = C.Linear; output = (fin false 1 (pos 0)); bypass = false } ∷ [])
    N.Linear N.Linear false false)
    (kept_of (wired_as (record { sample_rate = (fin false 1 (pos 6)); max_frames = 32; voices = 2 })
    (source (K.RandomPerRoute) S.Voice R.Unipolar ∷ [])
    (record { target = (A.Param 0); scope = S.Voice; rate = T.Control; min = (fin false 0 (pos 0)); max = (fin false 1 (pos 0)); feed = F.Nothing } ∷ [])
    (record { source = Some 0; source_curve = C.Linear; amount = (fin false 1 (pos 0)); polarity = Q.Unipolar; destination = Some (A.Param 0); aux = None; aux_invert = false; aux_curve = C.Linear; output = (fin false 1 (pos 0)); bypass = false } ∷ [])
    N.Linear N.Linear false false) [] ∷ [])

c36 : List (List Call)
c36 = ((swap 1) ∷ (block ([]) (record { part = [] }) 0 5) ∷ []) ∷ ((note-on 1 (record { key = (fin false 15 (pos 2)); velocity = (fin false 1 (pos 0)); legato = true; glide_seconds = (fin false 0 (pos 0)) })) ∷ (block ([]) (record { part = [] }) 0 5) ∷ []) ∷ []

e36 : reports c36 r36 ≡ (0 ∷ 0 ∷ 0 ∷ 0 ∷ 0 ∷ 0 ∷ 0 ∷ 0 ∷ 0 ∷ 0 ∷ 0 ∷ 0 ∷ 0 ∷ 0 ∷ 0 ∷ 0 ∷ 0 ∷ 0 ∷ 0 ∷ 0 ∷ 0 ∷ 0 ∷ 0 ∷ 0 ∷ 0 ∷ 0 ∷ 0 ∷ 0 ∷ 0 ∷ 0 ∷ 0 ∷ 0 ∷ []) ∷ (0 ∷ 0 ∷ 0 ∷ 0 ∷ 0 ∷ 0 ∷ 0 ∷ 0 ∷ 0 ∷ 0 ∷ 0 ∷ 0 ∷ 0 ∷ 0 ∷ 0 ∷ 0 ∷ 0 ∷ 0 ∷ 0 ∷ 0 ∷ 0 ∷ 0 ∷ 0 ∷ 0 ∷ 0 ∷ 0 ∷ 0 ∷ 0 ∷ 0 ∷ 0 ∷ 0 ∷ 0 ∷ []) ∷ []
unfolding c36 r36 process judged chunk_steps chunk_step tick_of turns turn new_to new_from source_after aux_after put_slews fill_from tick_sum others plains offsets some_plain plain route_value input_in in_group sounding in_span plan_at route_at part_of sample_in fill part on_part rows_of_chunk audio_of audio_plans glided moved_held advanced joined moving moved_value moved_glide chunk_total chunk_of load_by active_count draw_routes put_state put_held put_globals put_values put_audio with_velocity with_key with_marks with_phase with_block with_primed with_gains with_program with_draw marks_cleared marks_swapped no_marks no_voices no_notes fresh_state empty_of swap_program compiled padded target_place verdict verdicts_from verdicts candidates skipped_of in_use counted_feed used_dests feeder_of readers_of reads hears_audio is_audio controls audios plan_order order slew_for input_by route_by route_in plan_by plans_of all_routes seconds_of rate_per_sample names_table any_names slot_names hold max32 min32 is_nan lt le eq add sub mul div of_int set_held set_voice_held set_base set_amount set_output set_voice_limit note_on note_off voice_ended run done_by note_curve randoms_set alternates sounded_on ranks_on ended_of newest_after marks_on marks_ended set_note set_value set_glide legato_time ended_note arrives glideMoved held_by draw_voices with_voices with_alternate with_limit put_bases lookup_of position cell_of partOfCell reach moved slew_step step scrambled draw_bits draw_of row_at on_row kept_amount kept_output clamp_to finite ne neg to_bits to_unsigned audio_frame audio_frames new_audio audio_sum all_plain from_part to_part is_sounding abs_of
e36 = refl

-- cases/t23-nan-slew-order.txt
r37 : Runner
r37 =
    start_with (wired_as (record { sample_rate = (fin false 1 (pos 6)); max_frames = 32; voices = 1 })
    (source (K.Held) S.Global R.Unipolar ∷ [])
    (record { target = (A.Param 0); scope = S.Global; rate = T.Control; min = (inf true); max = (inf false); feed = F.Nothing } ∷ [])
    (record { source = Some 0; source_curve = C.Table (fin false 1 (pos 0)) (fin false 1 (pos 0)); amount = (fin false 332307 (negsuc 117)); polarity = Q.Unipolar; destination = Some (A.Param 0); aux = None; aux_invert = false; aux_curve = C.Linear; output = (fin false 332307 (negsuc 117)); bypass = false } ∷ [])
    N.Linear N.Linear false false)
    (kept_of (wired_as (record { sample_rate = (fin false 1 (pos 6)); max_frames = 32; voices = 1 })
    (source (K.Held) S.Global R.Unipolar ∷ [])
    (record { target = (A.Param 0); scope = S.Global; rate = T.Control; min = (inf true); max = (inf false); feed = F.Nothing } ∷ [])
    (record { source = Some 0; source_curve = C.Table (fin false 1 (pos 0)) (fin false 1 (pos 0)); amount = (fin false 332307 (negsuc 117)); polarity = Q.Unipolar; destination = Some (A.Param 0); aux = None; aux_invert = false; aux_curve = C.Linear; output = (fin false 332307 (negsuc 117)); bypass = false } ∷ [])
    N.Linear N.Linear false false) (tabulated diagonal_at ++ (replicate 66177 zero32)) ∷ [])

c37 : List (List Call)
c37 = ((swap 1) ∷ (held-set 0 (fin false 1 (pos 0))) ∷ (block ([]) (record { part = [] }) 0 32) ∷ []) ∷ []

e37 : reports c37 r37 ≡ (0 ∷ 0 ∷ []) ∷ []
unfolding c37 r37 process judged chunk_steps chunk_step tick_of turns turn new_to new_from source_after aux_after put_slews fill_from tick_sum others plains offsets some_plain plain route_value input_in in_group sounding in_span plan_at route_at part_of sample_in fill part on_part rows_of_chunk audio_of audio_plans glided moved_held advanced joined moving moved_value moved_glide chunk_total chunk_of load_by active_count draw_routes put_state put_held put_globals put_values put_audio with_velocity with_key with_marks with_phase with_block with_primed with_gains with_program with_draw marks_cleared marks_swapped no_marks no_voices no_notes fresh_state empty_of swap_program compiled padded target_place verdict verdicts_from verdicts candidates skipped_of in_use counted_feed used_dests feeder_of readers_of reads hears_audio is_audio controls audios plan_order order slew_for input_by route_by route_in plan_by plans_of all_routes seconds_of rate_per_sample names_table any_names slot_names hold max32 min32 is_nan lt le eq add sub mul div of_int set_held set_voice_held set_base set_amount set_output set_voice_limit note_on note_off voice_ended run done_by note_curve randoms_set alternates sounded_on ranks_on ended_of newest_after marks_on marks_ended set_note set_value set_glide legato_time ended_note arrives glideMoved held_by draw_voices with_voices with_alternate with_limit put_bases lookup_of position cell_of partOfCell reach moved slew_step step scrambled draw_bits draw_of row_at on_row kept_amount kept_output clamp_to finite ne neg to_bits to_unsigned audio_frame audio_frames new_audio audio_sum all_plain from_part to_part is_sounding abs_of
e37 = refl

-- cases/t24-routeless-glide.txt
r38 : Runner
r38 =
    start_with (wired_as (record { sample_rate = (fin false 11025 (pos 3)); max_frames = 4096; voices = 1 })
    (source (K.Key) S.Voice R.Unipolar ∷ [])
    (record { target = (A.Param 0); scope = S.Voice; rate = T.Control; min = (inf true); max = (inf false); feed = F.Nothing } ∷ [])
    (record { source = Some 0; source_curve = C.Linear; amount = (fin false 1 (pos 0)); polarity = Q.Unipolar; destination = Some (A.Param 0); aux = None; aux_invert = false; aux_curve = C.Linear; output = (fin false 1 (pos 0)); bypass = false } ∷ [])
    N.Table N.Table true true)
    (kept_of (wired_as (record { sample_rate = (fin false 11025 (pos 3)); max_frames = 4096; voices = 1 })
    (source (K.Key) S.Voice R.Unipolar ∷ [])
    (record { target = (A.Param 0); scope = S.Voice; rate = T.Control; min = (inf true); max = (inf false); feed = F.Nothing } ∷ [])
    ([])
    N.Table N.Table true true) (replicate 65664 zero32 ++ (tabulated (λ i. cond (ltb i 256) (fin false 13421773 (negsuc 26)) (fin false 15 (pos 0))) ++ (tabulated (λ i. cond (ltb i 256) (fin false 13421773 (negsuc 26)) (fin false 15 (pos 0))) ++ (replicate 0 zero32)))) ∷ kept_of (wired_as (record { sample_rate = (fin false 11025 (pos 3)); max_frames = 4096; voices = 1 })
    (source (K.Key) S.Voice R.Unipolar ∷ [])
    (record { target = (A.Param 0); scope = S.Voice; rate = T.Control; min = (inf true); max = (inf false); feed = F.Nothing } ∷ [])
    (record { source = Some 0; source_curve = C.Linear; amount = (fin false 1 (pos 0)); polarity = Q.Unipolar; destination = Some (A.Param 0); aux = None; aux_invert = false; aux_curve = C.Linear; output = (fin false 1 (pos 0)); bypass = false } ∷ [])
    N.Table N.Table true true) (replicate 65664 zero32 ++ (tabulated (λ i. cond (ltb i 256) (fin false 13421773 (negsuc 26)) (fin false 15 (pos 0))) ++ (tabulated (λ i. cond (ltb i 256) (fin false 13421773 (negsuc 26)) (fin false 15 (pos 0))) ++ (replicate 0 zero32)))) ∷ [])

c38 : List (List Call)
c38 = ((swap 1) ∷ (note-on 0 (record { key = (fin false 0 (pos 0)); velocity = (fin false 0 (pos 0)); legato = false; glide_seconds = (fin false 0 (pos 0)) })) ∷ (block ([]) (record { part = [] }) 0 1) ∷ []) ∷ ((note-on 0 (record { key = (fin false 127 (pos 0)); velocity = (fin false 1 (pos 0)); legato = true; glide_seconds = (fin false 11184811 (negsuc 23)) })) ∷ (block ([]) (record { part = [] }) 0 4001) ∷ []) ∷ ((swap 2) ∷ (block ([]) (record { part = [] }) 0 1) ∷ []) ∷ []

e38 : reports c38 r38 ≡ ([]) ∷ ([]) ∷ (1066308333 ∷ 0 ∷ 0 ∷ 0 ∷ 0 ∷ 0 ∷ 0 ∷ 0 ∷ 0 ∷ 0 ∷ 0 ∷ 0 ∷ 0 ∷ 0 ∷ 0 ∷ 0 ∷ 1066308333 ∷ 0 ∷ 0 ∷ 0 ∷ 0 ∷ 0 ∷ 0 ∷ 0 ∷ 0 ∷ 0 ∷ 0 ∷ 0 ∷ 0 ∷ 0 ∷ 0 ∷ 0 ∷ []) ∷ []
unfolding c38 r38 process judged chunk_steps chunk_step tick_of turns turn new_to new_from source_after aux_after put_slews fill_from tick_sum others plains offsets some_plain plain route_value input_in in_group sounding in_span plan_at route_at part_of sample_in fill part on_part rows_of_chunk audio_of audio_plans glided moved_held advanced joined moving moved_value moved_glide chunk_total chunk_of load_by active_count draw_routes put_state put_held put_globals put_values put_audio with_velocity with_key with_marks with_phase with_block with_primed with_gains with_program with_draw marks_cleared marks_swapped no_marks no_voices no_notes fresh_state empty_of swap_program compiled padded target_place verdict verdicts_from verdicts candidates skipped_of in_use counted_feed used_dests feeder_of readers_of reads hears_audio is_audio controls audios plan_order order slew_for input_by route_by route_in plan_by plans_of all_routes seconds_of rate_per_sample names_table any_names slot_names hold max32 min32 is_nan lt le eq add sub mul div of_int set_held set_voice_held set_base set_amount set_output set_voice_limit note_on note_off voice_ended run done_by note_curve randoms_set alternates sounded_on ranks_on ended_of newest_after marks_on marks_ended set_note set_value set_glide legato_time ended_note arrives glideMoved held_by draw_voices with_voices with_alternate with_limit put_bases lookup_of position cell_of partOfCell reach moved slew_step step scrambled draw_bits draw_of row_at on_row kept_amount kept_output clamp_to finite ne neg to_bits to_unsigned audio_frame audio_frames new_audio audio_sum all_plain from_part to_part is_sounding abs_of
e38 = refl

-- cases/t25-engine-global-program-voice.txt
r39 : Runner
r39 =
    start_with (wired_as (record { sample_rate = (fin false 1 (pos 6)); max_frames = 32; voices = 1 })
    (source (K.Held) S.Global R.Unipolar ∷ [])
    (record { target = (A.Param 0); scope = S.Voice; rate = T.Control; min = (inf true); max = (inf false); feed = F.Nothing } ∷ [])
    ([])
    N.Linear N.Linear false false)
    (kept_of (wired_as (record { sample_rate = (fin false 1 (pos 6)); max_frames = 32; voices = 1 })
    (source (K.Held) S.Voice R.Unipolar ∷ [])
    (record { target = (A.Param 0); scope = S.Voice; rate = T.Control; min = (inf true); max = (inf false); feed = F.Nothing } ∷ [])
    (record { source = Some 0; source_curve = C.Linear; amount = (fin false 1 (pos 0)); polarity = Q.Unipolar; destination = Some (A.Param 0); aux = None; aux_invert = false; aux_curve = C.Linear; output = (fin false 1 (pos 0)); bypass = false } ∷ [])
    N.Linear N.Linear false false) [] ∷ [])

c39 : List (List Call)
c39 = ((swap 1) ∷ (held-set 0 (fin false 3 (negsuc 1))) ∷ (voice-held-set 0 0 (fin false 1 (negsuc 1))) ∷ (note-on 0 (record { key = (fin false 15 (pos 2)); velocity = (fin false 1 (pos 0)); legato = false; glide_seconds = (fin false 0 (pos 0)) })) ∷ (block ([]) (record { part = [] }) 0 32) ∷ []) ∷ []

e39 : reports c39 r39 ≡ (1048576000 ∷ 0 ∷ 0 ∷ 0 ∷ 0 ∷ 0 ∷ 0 ∷ 0 ∷ 0 ∷ 0 ∷ 0 ∷ 0 ∷ 0 ∷ 0 ∷ 0 ∷ 0 ∷ 1048576000 ∷ 0 ∷ 0 ∷ 0 ∷ 0 ∷ 0 ∷ 0 ∷ 0 ∷ 0 ∷ 0 ∷ 0 ∷ 0 ∷ 0 ∷ 0 ∷ 0 ∷ 0 ∷ []) ∷ []
unfolding c39 r39 process judged chunk_steps chunk_step tick_of turns turn new_to new_from source_after aux_after put_slews fill_from tick_sum others plains offsets some_plain plain route_value input_in in_group sounding in_span plan_at route_at part_of sample_in fill part on_part rows_of_chunk audio_of audio_plans glided moved_held advanced joined moving moved_value moved_glide chunk_total chunk_of load_by active_count draw_routes put_state put_held put_globals put_values put_audio with_velocity with_key with_marks with_phase with_block with_primed with_gains with_program with_draw marks_cleared marks_swapped no_marks no_voices no_notes fresh_state empty_of swap_program compiled padded target_place verdict verdicts_from verdicts candidates skipped_of in_use counted_feed used_dests feeder_of readers_of reads hears_audio is_audio controls audios plan_order order slew_for input_by route_by route_in plan_by plans_of all_routes seconds_of rate_per_sample names_table any_names slot_names hold max32 min32 is_nan lt le eq add sub mul div of_int set_held set_voice_held set_base set_amount set_output set_voice_limit note_on note_off voice_ended run done_by note_curve randoms_set alternates sounded_on ranks_on ended_of newest_after marks_on marks_ended set_note set_value set_glide legato_time ended_note arrives glideMoved held_by draw_voices with_voices with_alternate with_limit put_bases lookup_of position cell_of partOfCell reach moved slew_step step scrambled draw_bits draw_of row_at on_row kept_amount kept_output clamp_to finite ne neg to_bits to_unsigned audio_frame audio_frames new_audio audio_sum all_plain from_part to_part is_sounding abs_of
e39 = refl

-- cases/t26-routeless-glide-in-blocks.txt
r40 : Runner
r40 =
    start_with (wired_as (record { sample_rate = (fin false 11025 (pos 3)); max_frames = 4096; voices = 1 })
    (source (K.Key) S.Voice R.Unipolar ∷ [])
    (record { target = (A.Param 0); scope = S.Voice; rate = T.Control; min = (inf true); max = (inf false); feed = F.Nothing } ∷ [])
    (record { source = Some 0; source_curve = C.Linear; amount = (fin false 1 (pos 0)); polarity = Q.Unipolar; destination = Some (A.Param 0); aux = None; aux_invert = false; aux_curve = C.Linear; output = (fin false 1 (pos 0)); bypass = false } ∷ [])
    N.Table N.Table true true)
    (kept_of (wired_as (record { sample_rate = (fin false 11025 (pos 3)); max_frames = 4096; voices = 1 })
    (source (K.Key) S.Voice R.Unipolar ∷ [])
    (record { target = (A.Param 0); scope = S.Voice; rate = T.Control; min = (inf true); max = (inf false); feed = F.Nothing } ∷ [])
    ([])
    N.Table N.Table true true) (replicate 65664 zero32 ++ (tabulated (λ i. cond (ltb i 256) (fin false 13421773 (negsuc 26)) (fin false 15 (pos 0))) ++ (tabulated (λ i. cond (ltb i 256) (fin false 13421773 (negsuc 26)) (fin false 15 (pos 0))) ++ (replicate 0 zero32)))) ∷ kept_of (wired_as (record { sample_rate = (fin false 11025 (pos 3)); max_frames = 4096; voices = 1 })
    (source (K.Key) S.Voice R.Unipolar ∷ [])
    (record { target = (A.Param 0); scope = S.Voice; rate = T.Control; min = (inf true); max = (inf false); feed = F.Nothing } ∷ [])
    (record { source = Some 0; source_curve = C.Linear; amount = (fin false 1 (pos 0)); polarity = Q.Unipolar; destination = Some (A.Param 0); aux = None; aux_invert = false; aux_curve = C.Linear; output = (fin false 1 (pos 0)); bypass = false } ∷ [])
    N.Table N.Table true true) (replicate 65664 zero32 ++ (tabulated (λ i. cond (ltb i 256) (fin false 13421773 (negsuc 26)) (fin false 15 (pos 0))) ++ (tabulated (λ i. cond (ltb i 256) (fin false 13421773 (negsuc 26)) (fin false 15 (pos 0))) ++ (replicate 0 zero32)))) ∷ [])

c40 : List (List Call)
c40 = ((swap 1) ∷ (note-on 0 (record { key = (fin false 0 (pos 0)); velocity = (fin false 0 (pos 0)); legato = false; glide_seconds = (fin false 0 (pos 0)) })) ∷ (block ([]) (record { part = [] }) 0 1) ∷ []) ∷ ((note-on 0 (record { key = (fin false 127 (pos 0)); velocity = (fin false 1 (pos 0)); legato = true; glide_seconds = (fin false 11184811 (negsuc 23)) })) ∷ (block ([]) (record { part = [] }) 0 31) ∷ []) ∷ ((block ([]) (record { part = [] }) 0 32) ∷ []) ∷ ((block ([]) (record { part = [] }) 0 32) ∷ []) ∷ ((block ([]) (record { part = [] }) 0 32) ∷ []) ∷ ((block ([]) (record { part = [] }) 0 32) ∷ []) ∷ ((block ([]) (record { part = [] }) 0 32) ∷ []) ∷ ((block ([]) (record { part = [] }) 0 32) ∷ []) ∷ ((block ([]) (record { part = [] }) 0 32) ∷ []) ∷ ((block ([]) (record { part = [] }) 0 32) ∷ []) ∷ ((block ([]) (record { part = [] }) 0 32) ∷ []) ∷ ((block ([]) (record { part = [] }) 0 32) ∷ []) ∷ ((block ([]) (record { part = [] }) 0 32) ∷ []) ∷ ((block ([]) (record { part = [] }) 0 32) ∷ []) ∷ ((block ([]) (record { part = [] }) 0 32) ∷ []) ∷ ((block ([]) (record { part = [] }) 0 32) ∷ []) ∷ ((block ([]) (record { part = [] }) 0 32) ∷ []) ∷ ((block ([]) (record { part = [] }) 0 32) ∷ []) ∷ ((block ([]) (record { part = [] }) 0 32) ∷ []) ∷ ((block ([]) (record { part = [] }) 0 32) ∷ []) ∷ ((block ([]) (record { part = [] }) 0 32) ∷ []) ∷ ((block ([]) (record { part = [] }) 0 32) ∷ []) ∷ ((block ([]) (record { part = [] }) 0 32) ∷ []) ∷ ((block ([]) (record { part = [] }) 0 32) ∷ []) ∷ ((block ([]) (record { part = [] }) 0 32) ∷ []) ∷ ((block ([]) (record { part = [] }) 0 32) ∷ []) ∷ ((block ([]) (record { part = [] }) 0 32) ∷ []) ∷ ((block ([]) (record { part = [] }) 0 32) ∷ []) ∷ ((block ([]) (record { part = [] }) 0 32) ∷ []) ∷ ((block ([]) (record { part = [] }) 0 32) ∷ []) ∷ ((block ([]) (record { part = [] }) 0 32) ∷ []) ∷ ((block ([]) (record { part = [] }) 0 32) ∷ []) ∷ ((block ([]) (record { part = [] }) 0 32) ∷ []) ∷ ((block ([]) (record { part = [] }) 0 32) ∷ []) ∷ ((block ([]) (record { part = [] }) 0 32) ∷ []) ∷ ((block ([]) (record { part = [] }) 0 32) ∷ []) ∷ ((block ([]) (record { part = [] }) 0 32) ∷ []) ∷ ((block ([]) (record { part = [] }) 0 32) ∷ []) ∷ ((block ([]) (record { part = [] }) 0 32) ∷ []) ∷ ((block ([]) (record { part = [] }) 0 32) ∷ []) ∷ ((block ([]) (record { part = [] }) 0 32) ∷ []) ∷ ((block ([]) (record { part = [] }) 0 32) ∷ []) ∷ ((block ([]) (record { part = [] }) 0 32) ∷ []) ∷ ((block ([]) (record { part = [] }) 0 32) ∷ []) ∷ ((block ([]) (record { part = [] }) 0 32) ∷ []) ∷ ((block ([]) (record { part = [] }) 0 32) ∷ []) ∷ ((block ([]) (record { part = [] }) 0 32) ∷ []) ∷ ((block ([]) (record { part = [] }) 0 32) ∷ []) ∷ ((block ([]) (record { part = [] }) 0 32) ∷ []) ∷ ((block ([]) (record { part = [] }) 0 32) ∷ []) ∷ ((block ([]) (record { part = [] }) 0 32) ∷ []) ∷ ((block ([]) (record { part = [] }) 0 32) ∷ []) ∷ ((block ([]) (record { part = [] }) 0 32) ∷ []) ∷ ((block ([]) (record { part = [] }) 0 32) ∷ []) ∷ ((block ([]) (record { part = [] }) 0 32) ∷ []) ∷ ((block ([]) (record { part = [] }) 0 32) ∷ []) ∷ ((block ([]) (record { part = [] }) 0 32) ∷ []) ∷ ((block ([]) (record { part = [] }) 0 32) ∷ []) ∷ ((block ([]) (record { part = [] }) 0 32) ∷ []) ∷ ((block ([]) (record { part = [] }) 0 32) ∷ []) ∷ ((block ([]) (record { part = [] }) 0 32) ∷ []) ∷ ((block ([]) (record { part = [] }) 0 32) ∷ []) ∷ ((block ([]) (record { part = [] }) 0 32) ∷ []) ∷ ((block ([]) (record { part = [] }) 0 32) ∷ []) ∷ ((block ([]) (record { part = [] }) 0 32) ∷ []) ∷ ((block ([]) (record { part = [] }) 0 32) ∷ []) ∷ ((block ([]) (record { part = [] }) 0 32) ∷ []) ∷ ((block ([]) (record { part = [] }) 0 32) ∷ []) ∷ ((block ([]) (record { part = [] }) 0 32) ∷ []) ∷ ((block ([]) (record { part = [] }) 0 32) ∷ []) ∷ ((block ([]) (record { part = [] }) 0 32) ∷ []) ∷ ((block ([]) (record { part = [] }) 0 32) ∷ []) ∷ ((block ([]) (record { part = [] }) 0 32) ∷ []) ∷ ((block ([]) (record { part = [] }) 0 32) ∷ []) ∷ ((block ([]) (record { part = [] }) 0 32) ∷ []) ∷ ((block ([]) (record { part = [] }) 0 32) ∷ []) ∷ ((block ([]) (record { part = [] }) 0 32) ∷ []) ∷ ((block ([]) (record { part = [] }) 0 32) ∷ []) ∷ ((block ([]) (record { part = [] }) 0 32) ∷ []) ∷ ((block ([]) (record { part = [] }) 0 32) ∷ []) ∷ ((block ([]) (record { part = [] }) 0 32) ∷ []) ∷ ((block ([]) (record { part = [] }) 0 32) ∷ []) ∷ ((block ([]) (record { part = [] }) 0 32) ∷ []) ∷ ((block ([]) (record { part = [] }) 0 32) ∷ []) ∷ ((block ([]) (record { part = [] }) 0 32) ∷ []) ∷ ((block ([]) (record { part = [] }) 0 32) ∷ []) ∷ ((block ([]) (record { part = [] }) 0 32) ∷ []) ∷ ((block ([]) (record { part = [] }) 0 32) ∷ []) ∷ ((block ([]) (record { part = [] }) 0 32) ∷ []) ∷ ((block ([]) (record { part = [] }) 0 32) ∷ []) ∷ ((block ([]) (record { part = [] }) 0 32) ∷ []) ∷ ((block ([]) (record { part = [] }) 0 32) ∷ []) ∷ ((block ([]) (record { part = [] }) 0 32) ∷ []) ∷ ((block ([]) (record { part = [] }) 0 32) ∷ []) ∷ ((block ([]) (record { part = [] }) 0 32) ∷ []) ∷ ((block ([]) (record { part = [] }) 0 32) ∷ []) ∷ ((block ([]) (record { part = [] }) 0 32) ∷ []) ∷ ((block ([]) (record { part = [] }) 0 32) ∷ []) ∷ ((block ([]) (record { part = [] }) 0 32) ∷ []) ∷ ((block ([]) (record { part = [] }) 0 32) ∷ []) ∷ ((block ([]) (record { part = [] }) 0 32) ∷ []) ∷ ((block ([]) (record { part = [] }) 0 32) ∷ []) ∷ ((block ([]) (record { part = [] }) 0 32) ∷ []) ∷ ((block ([]) (record { part = [] }) 0 32) ∷ []) ∷ ((block ([]) (record { part = [] }) 0 32) ∷ []) ∷ ((block ([]) (record { part = [] }) 0 32) ∷ []) ∷ ((block ([]) (record { part = [] }) 0 32) ∷ []) ∷ ((block ([]) (record { part = [] }) 0 32) ∷ []) ∷ ((block ([]) (record { part = [] }) 0 32) ∷ []) ∷ ((block ([]) (record { part = [] }) 0 32) ∷ []) ∷ ((block ([]) (record { part = [] }) 0 32) ∷ []) ∷ ((block ([]) (record { part = [] }) 0 32) ∷ []) ∷ ((block ([]) (record { part = [] }) 0 32) ∷ []) ∷ ((block ([]) (record { part = [] }) 0 32) ∷ []) ∷ ((block ([]) (record { part = [] }) 0 32) ∷ []) ∷ ((block ([]) (record { part = [] }) 0 32) ∷ []) ∷ ((block ([]) (record { part = [] }) 0 32) ∷ []) ∷ ((block ([]) (record { part = [] }) 0 32) ∷ []) ∷ ((block ([]) (record { part = [] }) 0 32) ∷ []) ∷ ((block ([]) (record { part = [] }) 0 32) ∷ []) ∷ ((block ([]) (record { part = [] }) 0 32) ∷ []) ∷ ((block ([]) (record { part = [] }) 0 32) ∷ []) ∷ ((block ([]) (record { part = [] }) 0 32) ∷ []) ∷ ((block ([]) (record { part = [] }) 0 32) ∷ []) ∷ ((block ([]) (record { part = [] }) 0 32) ∷ []) ∷ ((block ([]) (record { part = [] }) 0 32) ∷ []) ∷ ((block ([]) (record { part = [] }) 0 2) ∷ []) ∷ ((swap 2) ∷ (block ([]) (record { part = [] }) 0 1) ∷ []) ∷ []

e40 : reports c40 r40 ≡ ([]) ∷ ([]) ∷ ([]) ∷ ([]) ∷ ([]) ∷ ([]) ∷ ([]) ∷ ([]) ∷ ([]) ∷ ([]) ∷ ([]) ∷ ([]) ∷ ([]) ∷ ([]) ∷ ([]) ∷ ([]) ∷ ([]) ∷ ([]) ∷ ([]) ∷ ([]) ∷ ([]) ∷ ([]) ∷ ([]) ∷ ([]) ∷ ([]) ∷ ([]) ∷ ([]) ∷ ([]) ∷ ([]) ∷ ([]) ∷ ([]) ∷ ([]) ∷ ([]) ∷ ([]) ∷ ([]) ∷ ([]) ∷ ([]) ∷ ([]) ∷ ([]) ∷ ([]) ∷ ([]) ∷ ([]) ∷ ([]) ∷ ([]) ∷ ([]) ∷ ([]) ∷ ([]) ∷ ([]) ∷ ([]) ∷ ([]) ∷ ([]) ∷ ([]) ∷ ([]) ∷ ([]) ∷ ([]) ∷ ([]) ∷ ([]) ∷ ([]) ∷ ([]) ∷ ([]) ∷ ([]) ∷ ([]) ∷ ([]) ∷ ([]) ∷ ([]) ∷ ([]) ∷ ([]) ∷ ([]) ∷ ([]) ∷ ([]) ∷ ([]) ∷ ([]) ∷ ([]) ∷ ([]) ∷ ([]) ∷ ([]) ∷ ([]) ∷ ([]) ∷ ([]) ∷ ([]) ∷ ([]) ∷ ([]) ∷ ([]) ∷ ([]) ∷ ([]) ∷ ([]) ∷ ([]) ∷ ([]) ∷ ([]) ∷ ([]) ∷ ([]) ∷ ([]) ∷ ([]) ∷ ([]) ∷ ([]) ∷ ([]) ∷ ([]) ∷ ([]) ∷ ([]) ∷ ([]) ∷ ([]) ∷ ([]) ∷ ([]) ∷ ([]) ∷ ([]) ∷ ([]) ∷ ([]) ∷ ([]) ∷ ([]) ∷ ([]) ∷ ([]) ∷ ([]) ∷ ([]) ∷ ([]) ∷ ([]) ∷ ([]) ∷ ([]) ∷ ([]) ∷ ([]) ∷ ([]) ∷ ([]) ∷ ([]) ∷ ([]) ∷ ([]) ∷ ([]) ∷ ([]) ∷ ([]) ∷ (1066308341 ∷ 0 ∷ 0 ∷ 0 ∷ 0 ∷ 0 ∷ 0 ∷ 0 ∷ 0 ∷ 0 ∷ 0 ∷ 0 ∷ 0 ∷ 0 ∷ 0 ∷ 0 ∷ 1066308341 ∷ 0 ∷ 0 ∷ 0 ∷ 0 ∷ 0 ∷ 0 ∷ 0 ∷ 0 ∷ 0 ∷ 0 ∷ 0 ∷ 0 ∷ 0 ∷ 0 ∷ 0 ∷ []) ∷ []
unfolding c40 r40 process judged chunk_steps chunk_step tick_of turns turn new_to new_from source_after aux_after put_slews fill_from tick_sum others plains offsets some_plain plain route_value input_in in_group sounding in_span plan_at route_at part_of sample_in fill part on_part rows_of_chunk audio_of audio_plans glided moved_held advanced joined moving moved_value moved_glide chunk_total chunk_of load_by active_count draw_routes put_state put_held put_globals put_values put_audio with_velocity with_key with_marks with_phase with_block with_primed with_gains with_program with_draw marks_cleared marks_swapped no_marks no_voices no_notes fresh_state empty_of swap_program compiled padded target_place verdict verdicts_from verdicts candidates skipped_of in_use counted_feed used_dests feeder_of readers_of reads hears_audio is_audio controls audios plan_order order slew_for input_by route_by route_in plan_by plans_of all_routes seconds_of rate_per_sample names_table any_names slot_names hold max32 min32 is_nan lt le eq add sub mul div of_int set_held set_voice_held set_base set_amount set_output set_voice_limit note_on note_off voice_ended run done_by note_curve randoms_set alternates sounded_on ranks_on ended_of newest_after marks_on marks_ended set_note set_value set_glide legato_time ended_note arrives glideMoved held_by draw_voices with_voices with_alternate with_limit put_bases lookup_of position cell_of partOfCell reach moved slew_step step scrambled draw_bits draw_of row_at on_row kept_amount kept_output clamp_to finite ne neg to_bits to_unsigned audio_frame audio_frames new_audio audio_sum all_plain from_part to_part is_sounding abs_of
e40 = refl

-- cases/t30-scaled-gain-overflow.txt
r43 : Runner
r43 =
    start_with (wired_as (record { sample_rate = (fin false 1 (pos 6)); max_frames = 32; voices = 1 })
    (source (K.Held) S.Voice R.Unipolar ∷ [])
    (record { target = (A.Param 0); scope = S.Voice; rate = T.Control; min = (inf true); max = (inf false); feed = F.Nothing } ∷ [])
    (record { source = Some 0; source_curve = C.Linear; amount = (fin false 16777215 (pos 104)); polarity = Q.Bipolar; destination = Some (A.Param 0); aux = None; aux_invert = false; aux_curve = C.Linear; output = (fin false 1 (pos 0)); bypass = false } ∷ [])
    N.Linear N.Linear false false)
    (kept_of (wired_as (record { sample_rate = (fin false 1 (pos 6)); max_frames = 32; voices = 1 })
    (source (K.Held) S.Voice R.Unipolar ∷ [])
    (record { target = (A.Param 0); scope = S.Voice; rate = T.Control; min = (inf true); max = (inf false); feed = F.Nothing } ∷ [])
    (record { source = Some 0; source_curve = C.Linear; amount = (fin false 16777215 (pos 104)); polarity = Q.Bipolar; destination = Some (A.Param 0); aux = None; aux_invert = false; aux_curve = C.Linear; output = (fin false 1 (pos 0)); bypass = false } ∷ [])
    N.Linear N.Linear false false) [] ∷ [])

c43 : List (List Call)
c43 = ((swap 1) ∷ (held-set 0 (fin false 1 (negsuc 1))) ∷ (note-on 0 (record { key = (fin false 15 (pos 2)); velocity = (fin false 1 (pos 0)); legato = false; glide_seconds = (fin false 0 (pos 0)) })) ∷ (block ([]) (record { part = [] }) 0 32) ∷ []) ∷ []

e43 : reports c43 r43 ≡ (2139095040 ∷ 2139095040 ∷ 2139095040 ∷ 2139095040 ∷ 2139095040 ∷ 2139095040 ∷ 2139095040 ∷ 2139095040 ∷ 2139095040 ∷ 2139095040 ∷ 2139095040 ∷ 2139095040 ∷ 2139095040 ∷ 2139095040 ∷ 2139095040 ∷ 2139095040 ∷ 2139095040 ∷ 2139095040 ∷ 2139095040 ∷ 2139095040 ∷ 2139095040 ∷ 2139095040 ∷ 2139095040 ∷ 2139095040 ∷ 2139095040 ∷ 2139095040 ∷ 2139095040 ∷ 2139095040 ∷ 2139095040 ∷ 2139095040 ∷ 2139095040 ∷ 2139095040 ∷ []) ∷ []
unfolding c43 r43 process judged chunk_steps chunk_step tick_of turns turn new_to new_from source_after aux_after put_slews fill_from tick_sum others plains offsets some_plain plain route_value input_in in_group sounding in_span plan_at route_at part_of sample_in fill part on_part rows_of_chunk audio_of audio_plans glided moved_held advanced joined moving moved_value moved_glide chunk_total chunk_of load_by active_count draw_routes put_state put_held put_globals put_values put_audio with_velocity with_key with_marks with_phase with_block with_primed with_gains with_program with_draw marks_cleared marks_swapped no_marks no_voices no_notes fresh_state empty_of swap_program compiled padded target_place verdict verdicts_from verdicts candidates skipped_of in_use counted_feed used_dests feeder_of readers_of reads hears_audio is_audio controls audios plan_order order slew_for input_by route_by route_in plan_by plans_of all_routes seconds_of rate_per_sample names_table any_names slot_names hold max32 min32 is_nan lt le eq add sub mul div of_int set_held set_voice_held set_base set_amount set_output set_voice_limit note_on note_off voice_ended run done_by note_curve randoms_set alternates sounded_on ranks_on ended_of newest_after marks_on marks_ended set_note set_value set_glide legato_time ended_note arrives glideMoved held_by draw_voices with_voices with_alternate with_limit put_bases lookup_of position cell_of partOfCell reach moved slew_step step scrambled draw_bits draw_of row_at on_row kept_amount kept_output clamp_to finite ne neg to_bits to_unsigned audio_frame audio_frames new_audio audio_sum all_plain from_part to_part is_sounding abs_of
e43 = refl
