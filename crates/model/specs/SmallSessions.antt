-- The definitions of calls on an engine, computed on sessions that the Rust ran (oracle/sessions.py writes this file from the oracle's answers).
use Rattle.std.specs.Prelude.{◌≡◌, refl, Bool, true, false, List, [], ◌∷◌, map, ℕ, pos, negsuc, length, replicate, Float, cond, ◌++◌}
use Rattle.std.specs.Float.{inf, fin, binary32}
use Rattle.std.specs.Float.Ieee.{lt, le, eq, ne, add, sub, mul, div, is_nan, of_int, to_bits, to_unsigned, neg}
use Rattle.number.specs.Number.{zero32, abs_of, hold, max32, min32, finite, clamp_to}
use Rattle.curve_table.specs.declared.Curve.TheVariants as C
use Rattle.curve_table.specs.Curve.{seconds_of}
use Rattle.slew.specs.Slew.{rate_per_sample}
use Rattle.feed.specs.Order.{order}
use Rattle.refusal.specs.Judge.{judged}
use Rattle.list.specs.Fill.{fill}
use Rattle.list.specs.Part.{part, on_part}
use Rattle.list.specs.Padded.{padded}
use Rattle.voice.specs.Voices.{no_voices, ranks_on, sounded_on, ended_of, newest_after, active_count}
use Rattle.voice.specs.Marks.{no_marks, marks_on, marks_ended, marks_swapped, marks_cleared}
use Rattle.voice.specs.Notes.{no_notes, advanced, moving, moved_value, moved_glide, set_note, set_value, set_glide, legato_time, ended_note}
use Rattle.voice.specs.Joined.{joined}
use Rattle.state.specs.declared.Kind.TheVariants as K
use Rattle.state.specs.declared.Scope.TheVariants as S
use Rattle.state.specs.declared.Range.TheVariants as R
use Rattle.state.specs.declared.Rate.TheVariants as T
use Rattle.state.specs.declared.Feed.TheVariants as F
use Rattle.std.specs.Prelude.{None, Some}
use Rattle.state.specs.declared.Polarity.TheVariants as Q
use Rattle.state.specs.declared.NoteCurve.TheVariants as N
use Rattle.state.specs.declared.Source.{Source}
use Rattle.state.specs.declared.Dest.{Dest}
use Rattle.state.specs.declared.Slot.{Slot}
use Rattle.state.specs.declared.Wiring.{Wiring}
use Rattle.state.specs.Registry.{target_place}
use Rattle.slots_tables.specs.Tables.{slot_names, any_names, names_table}
use Rattle.model.specs.Wiring.{verdict, verdicts_from, verdicts, candidates, skipped_of}
use Rattle.model.specs.Feeds.{in_use, counted_feed, used_dests, feeder_of, readers_of, reads, hears_audio, is_audio, controls, audios, plan_order}
use Rattle.model.specs.Routes.{slew_for, input_by, route_by, route_in}
use Rattle.model.specs.Plans.{plan_by, plans_of, all_routes, compiled}
use Rattle.model.specs.Compile.{empty_of}
use Rattle.model.specs.Counts.{plan_at, route_at}
use Rattle.model.specs.Env.{part_of, sample_in}
use Rattle.model.specs.Input.{input_in}
use Rattle.model.specs.Lanes.{in_group, sounding, in_span}
use Rattle.model.specs.RouteValue.{route_value, plain}
use Rattle.model.specs.Sums.{offsets, some_plain, all_plain, plains, others, tick_sum, audio_sum}
use Rattle.model.specs.Slews.{source_after, aux_after}
use Rattle.model.specs.Tick.{fill_from, put_slews, new_to, new_from, turn, turns, tick_of}
use Rattle.model.specs.Audio.{new_audio, audio_frame, audio_frames, audio_plans, audio_of}
use Rattle.model.specs.Chunks.{chunk_total, chunk_of}
use Rattle.model.specs.World.{held_by, load_by}
use Rattle.model.specs.States.{with_voices, with_marks, with_velocity, with_key, with_gains, with_draw, with_alternate, with_limit, with_phase, with_block, with_primed, with_program, put_state, put_held, put_globals, put_bases, put_values, put_audio}
use Rattle.model.specs.Process.{moved_held, glided, draw_voices, draw_routes, rows_of_chunk, chunk_step, chunk_steps, process}
use Rattle.model.specs.Settings.{done_by, fresh_state, set_base, swap_program}
use Rattle.curve_table.specs.Table.{tabulated, diagonal_at, lookup_of, position, cell_of, part_of as partOfCell}
use Rattle.slew.specs.Slew.{reach, moved, slew_step}
use Rattle.draw.specs.Xorshift.{step, scrambled, draw_bits, draw_of}
use Rattle.list.specs.Rows.{row_at, on_row}
use Rattle.slots.specs.Slots.{kept_amount, kept_output}
use Rattle.config.specs.declared.Config.{Config}
use Rattle.state.specs.declared.Kind.{Kind}
use Rattle.state.specs.declared.Scope.{Scope}
use Rattle.state.specs.declared.Range.{Range}
use Rattle.state.specs.declared.NoteCurve.{NoteCurve}
use Rattle.state.specs.declared.Target.TheVariants as A
use Rattle.feed.specs.Numbers.{up_from}
use Rattle.voice.specs.Voices.{is_sounding}
use Rattle.voice.specs.Notes.{arrives}
use Rattle.voice.specs.Notes.{moved as glideMoved}
use Rattle.model.specs.Settings.{set_held, set_voice_held, set_amount, set_output, set_voice_limit}
use Rattle.model.specs.NoteCalls.{note_curve, randoms_set, alternates, note_on, note_off, voice_ended}
use Rattle.model.specs.Outputs.{is_audio_plan, program_dests, audio_start, from_part, to_part}
use Rattle.model.specs.Calls.{Call, held-set, base-set, amount-set, note-on, voice-ended, swap, block, Kept, Runner, kept_of, start_of, run}

abbrev source : Kind → Scope → Range → Source
source k s r = record { key = []; len = 0; kind = k; scope = s; range = r }

abbrev unused : Slot
unused = record { source = None; source_curve = C.Linear; amount = fin false 0 (pos 0); polarity = Q.Unipolar; destination = None; aux = None; aux_invert = false; aux_curve = C.Linear; output = fin false 1 (pos 0); bypass = false }

-- registries and slots as far as they are filled
abbrev wired_as : Config → List Source → List Dest → List Slot → NoteCurve → NoteCurve → Bool → Bool → Wiring
wired_as c ss ds slots v k g l =
    record {
      matrix = record { slot = slots; velocity = v; key = k; glide = g; velocity_legato = l };
      sources = record { count = length ss; entry = ss };
      dests = record { count = length ds; entry = ds };
      config = c;
    }

abbrev start_with : Wiring → List Kept → Runner
start_with w ks = start_of w.sources w.dests w.config ks

-- the two zeros as one, and one NaN
abbrev canon : Float → ℕ
canon x = cond (is_nan x) 0x7fc0_0000 (cond (eq x zero32) 0 (to_bits binary32 x))

-- what is to be seen of destination d after a block
abbrev seen_of : Runner → ℕ → List Float
seen_of r d =
    let st = r.world.state in
    cond (is_audio_plan st d)
    (part r.world.audio (audio_start st d st.block.start) (audio_start st d st.block.end))
    ((from_part st r.world.values d).numbers ++ (to_part st r.world.values d).numbers)

abbrev seen_of_all : Runner → List ℕ → List Float
seen_of_all r [] = []
seen_of_all r (d ∷ ds) = seen_of r d ++ seen_of_all r ds

abbrev seen : Runner → List ℕ
seen r = map canon (seen_of_all r (up_from 0 (program_dests r.world.state)))

-- after each list of calls
abbrev reports : List (List Call) → Runner → List (List ℕ)
reports [] r = []
reports (cs ∷ css) r = let next = run cs r in seen next ∷ reports css next

-- cases/diff-3-unprimed-slew.txt
r11 : Runner
r11 =
    start_with (wired_as (record { sample_rate = (fin false 1 (pos 6)); max_frames = 64; voices = 1 })
    (source (K.Constant) S.Global R.Unipolar ∷ [])
    (record { target = (A.Param 0); scope = S.Global; rate = T.Control; min = (inf true); max = (inf false); feed = F.Nothing } ∷ [])
    (record { source = Some 0; source_curve = C.Table (fin false 1 (pos 0)) (fin false 0 (pos 0)); amount = (fin false 1 (pos 0)); polarity = Q.Unipolar; destination = Some (A.Param 0); aux = None; aux_invert = false; aux_curve = C.Linear; output = (fin false 1 (pos 0)); bypass = false } ∷ [])
    N.Linear N.Linear false false)
    (kept_of (wired_as (record { sample_rate = (fin false 1 (pos 6)); max_frames = 64; voices = 1 })
    (source (K.Constant) S.Global R.Unipolar ∷ [])
    (record { target = (A.Param 0); scope = S.Global; rate = T.Control; min = (inf true); max = (inf false); feed = F.Nothing } ∷ [])
    (record { source = Some 0; source_curve = C.Table (fin false 1 (pos 0)) (fin false 0 (pos 0)); amount = (fin false 1 (pos 0)); polarity = Q.Unipolar; destination = Some (A.Param 0); aux = None; aux_invert = false; aux_curve = C.Linear; output = (fin false 1 (pos 0)); bypass = false } ∷ [])
    N.Linear N.Linear false false) (tabulated diagonal_at ++ (replicate 66177 zero32)) ∷ [])

c11 : List (List Call)
c11 = ((block ([]) (record { part = [] }) 0 5) ∷ []) ∷ ((note-on 0 (record { key = (fin false 15 (pos 2)); velocity = (fin false 1 (pos 0)); legato = false; glide_seconds = (fin false 0 (pos 0)) })) ∷ (voice-ended 0) ∷ (swap 1) ∷ (block ([]) (record { part = [] }) 0 59) ∷ []) ∷ []

e11 : reports c11 r11 ≡ ([]) ∷ (0 ∷ 0 ∷ 0 ∷ 1056964608 ∷ []) ∷ []
unfolding c11 r11 process judged chunk_steps chunk_step tick_of turns turn new_to new_from source_after aux_after put_slews fill_from tick_sum others plains offsets some_plain plain route_value input_in in_group sounding in_span plan_at route_at part_of sample_in fill part on_part rows_of_chunk audio_of audio_plans glided moved_held advanced joined moving moved_value moved_glide chunk_total chunk_of load_by active_count draw_routes put_state put_held put_globals put_values put_audio with_velocity with_key with_marks with_phase with_block with_primed with_gains with_program with_draw marks_cleared marks_swapped no_marks no_voices no_notes fresh_state empty_of swap_program compiled padded target_place verdict verdicts_from verdicts candidates skipped_of in_use counted_feed used_dests feeder_of readers_of reads hears_audio is_audio controls audios plan_order order slew_for input_by route_by route_in plan_by plans_of all_routes seconds_of rate_per_sample names_table any_names slot_names hold max32 min32 is_nan lt le eq add sub mul div of_int set_held set_voice_held set_base set_amount set_output set_voice_limit note_on note_off voice_ended run done_by note_curve randoms_set alternates sounded_on ranks_on ended_of newest_after marks_on marks_ended set_note set_value set_glide legato_time ended_note arrives glideMoved held_by draw_voices with_voices with_alternate with_limit put_bases lookup_of position cell_of partOfCell reach moved slew_step step scrambled draw_bits draw_of row_at on_row kept_amount kept_output clamp_to finite ne neg to_bits to_unsigned audio_frame audio_frames new_audio audio_sum all_plain from_part to_part is_sounding abs_of
e11 = refl

-- cases/t14-lower-self-feeder.txt
r29 : Runner
r29 =
    start_with (wired_as (record { sample_rate = (fin false 1 (pos 6)); max_frames = 32; voices = 1 })
    (source (K.Held) S.Global R.Unipolar ∷ source (K.Constant) S.Global R.Unipolar ∷ [])
    (record { target = (A.Param 0); scope = S.Global; rate = T.Control; min = (inf true); max = (inf false); feed = (F.Source 0) } ∷ record { target = (A.Param 1); scope = S.Global; rate = T.Control; min = (inf true); max = (inf false); feed = (F.Source 0) } ∷ [])
    (record { source = Some 0; source_curve = C.Linear; amount = (fin false 1 (pos 0)); polarity = Q.Unipolar; destination = Some (A.Param 0); aux = None; aux_invert = false; aux_curve = C.Linear; output = (fin false 1 (pos 0)); bypass = false } ∷ record { source = Some 1; source_curve = C.Linear; amount = (fin false 1 (pos 0)); polarity = Q.Unipolar; destination = Some (A.Param 1); aux = None; aux_invert = false; aux_curve = C.Linear; output = (fin false 1 (pos 0)); bypass = false } ∷ [])
    N.Linear N.Linear false false)
    (kept_of (wired_as (record { sample_rate = (fin false 1 (pos 6)); max_frames = 32; voices = 1 })
    (source (K.Held) S.Global R.Unipolar ∷ source (K.Constant) S.Global R.Unipolar ∷ [])
    (record { target = (A.Param 0); scope = S.Global; rate = T.Control; min = (inf true); max = (inf false); feed = (F.Source 0) } ∷ record { target = (A.Param 1); scope = S.Global; rate = T.Control; min = (inf true); max = (inf false); feed = (F.Source 0) } ∷ [])
    (record { source = Some 0; source_curve = C.Linear; amount = (fin false 1 (pos 0)); polarity = Q.Unipolar; destination = Some (A.Param 0); aux = None; aux_invert = false; aux_curve = C.Linear; output = (fin false 1 (pos 0)); bypass = false } ∷ record { source = Some 1; source_curve = C.Linear; amount = (fin false 1 (pos 0)); polarity = Q.Unipolar; destination = Some (A.Param 1); aux = None; aux_invert = false; aux_curve = C.Linear; output = (fin false 1 (pos 0)); bypass = false } ∷ [])
    N.Linear N.Linear false false) [] ∷ [])

c29 : List (List Call)
c29 = ((swap 1) ∷ (block ([]) (record { part = [] }) 0 32) ∷ []) ∷ ((amount-set 1 (fin false 1 (negsuc 0))) ∷ (block ([]) (record { part = [] }) 0 32) ∷ []) ∷ []

e29 : reports c29 r29 ≡ (1065353216 ∷ 1065353216 ∷ 1065353216 ∷ 1065353216 ∷ []) ∷ (1065353216 ∷ 1056964608 ∷ 1065353216 ∷ 1056964608 ∷ []) ∷ []
unfolding c29 r29 process judged chunk_steps chunk_step tick_of turns turn new_to new_from source_after aux_after put_slews fill_from tick_sum others plains offsets some_plain plain route_value input_in in_group sounding in_span plan_at route_at part_of sample_in fill part on_part rows_of_chunk audio_of audio_plans glided moved_held advanced joined moving moved_value moved_glide chunk_total chunk_of load_by active_count draw_routes put_state put_held put_globals put_values put_audio with_velocity with_key with_marks with_phase with_block with_primed with_gains with_program with_draw marks_cleared marks_swapped no_marks no_voices no_notes fresh_state empty_of swap_program compiled padded target_place verdict verdicts_from verdicts candidates skipped_of in_use counted_feed used_dests feeder_of readers_of reads hears_audio is_audio controls audios plan_order order slew_for input_by route_by route_in plan_by plans_of all_routes seconds_of rate_per_sample names_table any_names slot_names hold max32 min32 is_nan lt le eq add sub mul div of_int set_held set_voice_held set_base set_amount set_output set_voice_limit note_on note_off voice_ended run done_by note_curve randoms_set alternates sounded_on ranks_on ended_of newest_after marks_on marks_ended set_note set_value set_glide legato_time ended_note arrives glideMoved held_by draw_voices with_voices with_alternate with_limit put_bases lookup_of position cell_of partOfCell reach moved slew_step step scrambled draw_bits draw_of row_at on_row kept_amount kept_output clamp_to finite ne neg to_bits to_unsigned audio_frame audio_frames new_audio audio_sum all_plain from_part to_part is_sounding abs_of
e29 = refl

-- cases/t28-plain-offsets-summed-first.txt
r41 : Runner
r41 =
    start_with (wired_as (record { sample_rate = (fin false 1 (pos 6)); max_frames = 32; voices = 1 })
    (source (K.Held) S.Voice R.Bipolar ∷ [])
    (record { target = (A.Param 0); scope = S.Voice; rate = T.Control; min = (inf true); max = (inf false); feed = F.Nothing } ∷ [])
    (record { source = Some 0; source_curve = C.Linear; amount = (fin false 1 (negsuc 22)); polarity = Q.Unipolar; destination = Some (A.Param 0); aux = None; aux_invert = false; aux_curve = C.Linear; output = (fin false 1 (pos 0)); bypass = false } ∷ record { source = Some 0; source_curve = C.Linear; amount = (fin false 1 (negsuc 22)); polarity = Q.Unipolar; destination = Some (A.Param 0); aux = None; aux_invert = false; aux_curve = C.Linear; output = (fin false 1 (pos 0)); bypass = false } ∷ [])
    N.Linear N.Linear false false)
    (kept_of (wired_as (record { sample_rate = (fin false 1 (pos 6)); max_frames = 32; voices = 1 })
    (source (K.Held) S.Voice R.Bipolar ∷ [])
    (record { target = (A.Param 0); scope = S.Voice; rate = T.Control; min = (inf true); max = (inf false); feed = F.Nothing } ∷ [])
    (record { source = Some 0; source_curve = C.Linear; amount = (fin false 1 (negsuc 22)); polarity = Q.Unipolar; destination = Some (A.Param 0); aux = None; aux_invert = false; aux_curve = C.Linear; output = (fin false 1 (pos 0)); bypass = false } ∷ record { source = Some 0; source_curve = C.Linear; amount = (fin false 1 (negsuc 22)); polarity = Q.Unipolar; destination = Some (A.Param 0); aux = None; aux_invert = false; aux_curve = C.Linear; output = (fin false 1 (pos 0)); bypass = false } ∷ [])
    N.Linear N.Linear false false) [] ∷ [])

c41 : List (List Call)
c41 = ((swap 1) ∷ (base-set 0 (fin false 1 (pos 0))) ∷ (note-on 0 (record { key = (fin false 15 (pos 2)); velocity = (fin false 1 (pos 0)); legato = false; glide_seconds = (fin false 0 (pos 0)) })) ∷ (block ([]) (record { part = [] }) 0 32) ∷ []) ∷ []

e41 : reports c41 r41 ≡ (1065353217 ∷ 1065353217 ∷ 1065353217 ∷ 1065353217 ∷ 1065353217 ∷ 1065353217 ∷ 1065353217 ∷ 1065353217 ∷ 1065353217 ∷ 1065353217 ∷ 1065353217 ∷ 1065353217 ∷ 1065353217 ∷ 1065353217 ∷ 1065353217 ∷ 1065353217 ∷ 1065353217 ∷ 1065353217 ∷ 1065353217 ∷ 1065353217 ∷ 1065353217 ∷ 1065353217 ∷ 1065353217 ∷ 1065353217 ∷ 1065353217 ∷ 1065353217 ∷ 1065353217 ∷ 1065353217 ∷ 1065353217 ∷ 1065353217 ∷ 1065353217 ∷ 1065353217 ∷ []) ∷ []
unfolding c41 r41 process judged chunk_steps chunk_step tick_of turns turn new_to new_from source_after aux_after put_slews fill_from tick_sum others plains offsets some_plain plain route_value input_in in_group sounding in_span plan_at route_at part_of sample_in fill part on_part rows_of_chunk audio_of audio_plans glided moved_held advanced joined moving moved_value moved_glide chunk_total chunk_of load_by active_count draw_routes put_state put_held put_globals put_values put_audio with_velocity with_key with_marks with_phase with_block with_primed with_gains with_program with_draw marks_cleared marks_swapped no_marks no_voices no_notes fresh_state empty_of swap_program compiled padded target_place verdict verdicts_from verdicts candidates skipped_of in_use counted_feed used_dests feeder_of readers_of reads hears_audio is_audio controls audios plan_order order slew_for input_by route_by route_in plan_by plans_of all_routes seconds_of rate_per_sample names_table any_names slot_names hold max32 min32 is_nan lt le eq add sub mul div of_int set_held set_voice_held set_base set_amount set_output set_voice_limit note_on note_off voice_ended run done_by note_curve randoms_set alternates sounded_on ranks_on ended_of newest_after marks_on marks_ended set_note set_value set_glide legato_time ended_note arrives glideMoved held_by draw_voices with_voices with_alternate with_limit put_bases lookup_of position cell_of partOfCell reach moved slew_step step scrambled draw_bits draw_of row_at on_row kept_amount kept_output clamp_to finite ne neg to_bits to_unsigned audio_frame audio_frames new_audio audio_sum all_plain from_part to_part is_sounding abs_of
e41 = refl

-- cases/t29-scaled-gain-underflow.txt
r42 : Runner
r42 =
    start_with (wired_as (record { sample_rate = (fin false 1 (pos 6)); max_frames = 32; voices = 1 })
    (source (K.Held) S.Voice R.Bipolar ∷ [])
    (record { target = (A.Param 0); scope = S.Voice; rate = T.Control; min = (inf true); max = (inf false); feed = F.Nothing } ∷ [])
    (record { source = Some 0; source_curve = C.Linear; amount = (fin false 3 (negsuc 148)); polarity = Q.Unipolar; destination = Some (A.Param 0); aux = None; aux_invert = false; aux_curve = C.Linear; output = (fin false 1 (pos 0)); bypass = false } ∷ [])
    N.Linear N.Linear false false)
    (kept_of (wired_as (record { sample_rate = (fin false 1 (pos 6)); max_frames = 32; voices = 1 })
    (source (K.Held) S.Voice R.Bipolar ∷ [])
    (record { target = (A.Param 0); scope = S.Voice; rate = T.Control; min = (inf true); max = (inf false); feed = F.Nothing } ∷ [])
    (record { source = Some 0; source_curve = C.Linear; amount = (fin false 3 (negsuc 148)); polarity = Q.Unipolar; destination = Some (A.Param 0); aux = None; aux_invert = false; aux_curve = C.Linear; output = (fin false 1 (pos 0)); bypass = false } ∷ [])
    N.Linear N.Linear false false) [] ∷ [])

c42 : List (List Call)
c42 = ((swap 1) ∷ (held-set 0 (fin false 1 (pos 1))) ∷ (note-on 0 (record { key = (fin false 15 (pos 2)); velocity = (fin false 1 (pos 0)); legato = false; glide_seconds = (fin false 0 (pos 0)) })) ∷ (block ([]) (record { part = [] }) 0 32) ∷ []) ∷ []

e42 : reports c42 r42 ≡ (6 ∷ 6 ∷ 6 ∷ 6 ∷ 6 ∷ 6 ∷ 6 ∷ 6 ∷ 6 ∷ 6 ∷ 6 ∷ 6 ∷ 6 ∷ 6 ∷ 6 ∷ 6 ∷ 6 ∷ 6 ∷ 6 ∷ 6 ∷ 6 ∷ 6 ∷ 6 ∷ 6 ∷ 6 ∷ 6 ∷ 6 ∷ 6 ∷ 6 ∷ 6 ∷ 6 ∷ 6 ∷ []) ∷ []
unfolding c42 r42 process judged chunk_steps chunk_step tick_of turns turn new_to new_from source_after aux_after put_slews fill_from tick_sum others plains offsets some_plain plain route_value input_in in_group sounding in_span plan_at route_at part_of sample_in fill part on_part rows_of_chunk audio_of audio_plans glided moved_held advanced joined moving moved_value moved_glide chunk_total chunk_of load_by active_count draw_routes put_state put_held put_globals put_values put_audio with_velocity with_key with_marks with_phase with_block with_primed with_gains with_program with_draw marks_cleared marks_swapped no_marks no_voices no_notes fresh_state empty_of swap_program compiled padded target_place verdict verdicts_from verdicts candidates skipped_of in_use counted_feed used_dests feeder_of readers_of reads hears_audio is_audio controls audios plan_order order slew_for input_by route_by route_in plan_by plans_of all_routes seconds_of rate_per_sample names_table any_names slot_names hold max32 min32 is_nan lt le eq add sub mul div of_int set_held set_voice_held set_base set_amount set_output set_voice_limit note_on note_off voice_ended run done_by note_curve randoms_set alternates sounded_on ranks_on ended_of newest_after marks_on marks_ended set_note set_value set_glide legato_time ended_note arrives glideMoved held_by draw_voices with_voices with_alternate with_limit put_bases lookup_of position cell_of partOfCell reach moved slew_step step scrambled draw_bits draw_of row_at on_row kept_amount kept_output clamp_to finite ne neg to_bits to_unsigned audio_frame audio_frames new_audio audio_sum all_plain from_part to_part is_sounding abs_of
e42 = refl
