-- The claim, worked out: the ticks of document 01's cases 5 and 10, each with what stands before it, what the tick
-- leaves and what the rule asks for; a swap to the installed number; and which wirings are barred. Definitions only.
use Rattle.std.specs.Prelude.{◌≡◌, refl, true, false, List, [], ◌∷◌, ◌++◌, map, ℕ, negsuc, length, set}
use Rattle.std.specs.Float.Ieee.{to_bits, add, sub, mul, div, neg, lt, eq, is_nan, of_int, to_unsigned, le, ne}
use Rattle.std.specs.Float.{fin, binary32}
use Rattle.number.specs.Number.{max32, min32, clamp_to, abs_of, hold, finite, half32}
use Rattle.draw.specs.Xorshift.{step, scrambled, draw_bits, draw_of}
use Rattle.curve_table.specs.Table.{lookup_of, position, cell_of, part_of}
use Rattle.slew.specs.Slew.{rate_per_sample, reach, moved, slew_step}
use Rattle.list.specs.Padded.{padded}
use Rattle.curve_table.specs.Curve.{seconds_of}
use Rattle.feed.specs.Order.{order, ordered}
use Rattle.slots.specs.Slots.{kept_amount, kept_output, empty_slot}
use Rattle.state.specs.Registry.{target_place}
use Rattle.refusal.specs.Judge.{judged}
use Rattle.list.specs.Fill.{fill}
use Rattle.list.specs.Part.{part, on_part}
use Rattle.voice.specs.Voices.{no_voices, ranks_on, sounded_on, ended_of, newest_after, active_count, is_sounding}
use Rattle.voice.specs.Marks.{no_marks, marks_on, marks_ended, marks_swapped, marks_cleared}
use Rattle.voice.specs.Notes.{no_notes, advanced, moving, moved_value, moved_glide, set_note, set_value, set_glide}
use Rattle.voice.specs.Notes.{legato_time, ended_note, arrives, moved as glideMoved}
use Rattle.voice.specs.Joined.{joined}
use Rattle.slots_tables.specs.Tables.{slot_names, any_names, names_table}
use Rattle.list.specs.Rows.{row_at, on_row}
use Rattle.state.specs.declared.Wiring.{Wiring}
use Rattle.config.specs.Sizes.{slots}
use Rattle.slots.specs.Matrix.{new_matrix}
use Rattle.state.specs.declared.Feed.TheVariants as F
use Rattle.state.specs.declared.Kind.TheVariants as K
use Rattle.state.specs.declared.Polarity.TheVariants as Q
use Rattle.state.specs.declared.Range.TheVariants as R
use Rattle.model.specs.Wiring.{verdict, verdicts_from, verdicts, candidates, skipped_of}
use Rattle.model.specs.Feeds.{in_use, counted_feed, used_dests, feeder_of, readers_of, reads, hears_audio, is_audio}
use Rattle.model.specs.Feeds.{controls, audios, plan_order, counted_into}
use Rattle.model.specs.Routes.{slew_for, input_by, route_by, route_in}
use Rattle.model.specs.Plans.{plan_by, plans_of, all_routes, compiled}
use Rattle.model.specs.Compile.{empty_of}
use Rattle.model.specs.Counts.{plan_at, route_at, at}
use Rattle.model.specs.Env.{sample_in}
use Rattle.model.specs.Input.{input_in}
use Rattle.model.specs.Lanes.{in_group, sounding, in_span}
use Rattle.model.specs.RouteValue.{route_value, plain}
use Rattle.model.specs.Sums.{offsets, some_plain, all_plain, plains, others, tick_sum, audio_sum}
use Rattle.model.specs.Slews.{source_after, aux_after}
use Rattle.model.specs.Tick.{fill_from, put_slews, new_to, new_from, turn, turns, tick_of}
use Rattle.model.specs.Audio.{new_audio, audio_frame, audio_frames, audio_plans, audio_of}
use Rattle.model.specs.Chunks.{chunk_total, chunk_of, chunk_list}
use Rattle.model.specs.World.{held_by, load_by}
use Rattle.model.specs.States.{with_voices, with_marks, with_velocity, with_key, with_gains, with_draw, with_alternate}
use Rattle.model.specs.States.{with_limit, with_phase, with_block, with_primed, with_program, put_state, put_held}
use Rattle.model.specs.States.{put_globals, put_bases, put_values, put_audio}
use Rattle.model.specs.Process.{moved_held, glided, draw_voices, draw_routes, rows_of_chunk, chunk_step, chunk_steps}
use Rattle.model.specs.Process.{process}
use Rattle.model.specs.Settings.{done_by, fresh_state, set_base, swap_program, set_held, set_voice_held, set_amount}
use Rattle.model.specs.Settings.{set_output, set_voice_limit, set_draw}
use Rattle.model.specs.NoteCalls.{note_curve, randoms_set, alternates, note_on, note_off, voice_ended}
use Rattle.model.specs.Outputs.{from_part, to_part}
use Rattle.model.specs.Calls.{run, Call, amount-set, draw-set, voice-ended, swap, Runner}
use Rattle.model.specs.Cases.{source, dest, wired, feeding, route, slot, constant, quarter, over, note}
use Rattle.model.specs.Claim.{chainless, Moment, Compiled, names_of, fresh_runner, before, after, chunk_ticks}
use Rattle.model.specs.Claim.{ticks_of, tick_total}
use Rattle.model.specs.Rule.{slot_route, slots_into, slot_into, lanes_of, ruled}
use Rattle.model.specs.Model.{route_place}

-- ---- cases 5 and 10: a constant source into global control 0, from 0 to 1, base 0.25, amount 0.5, output 1

-- case 5's slot, the first of a matrix with all slots, and the rest as there
abbrev full : Wiring
full =
    record {
      matrix =
          record {
            slot = set new_matrix.slot 0 (slot 0 0 half32 Q.Unipolar);
            velocity = constant.matrix.velocity;
            key = constant.matrix.key;
            glide = constant.matrix.glide;
            velocity_legato = constant.matrix.velocity_legato;
          };
      sources = constant.sources;
      dests = constant.dests;
      config = constant.config;
    }

-- the theorem holds of it: its matrix has its slots, and no chain is barred
all_slots : length full.matrix.slot ≡ slots
unfolding new_matrix
all_slots = refl

unbarred : chainless full ≡ true
unfolding chainless empty_slot new_matrix target_place verdict verdicts_from verdicts candidates in_use counted_feed
    hears_audio is_audio counted_into controls order
unbarred = refl

-- it is program 1
abbrev given : List Compiled
given = record { wiring = full; tables = [] } ∷ []

abbrev names : ℕ → Wiring
names = names_of full.config given

abbrev fresh : Runner
fresh = fresh_runner full.sources full.dests full.config given

-- of a tick: its first frame, its phase, its lanes, and by their bits the number before it, the number that it leaves,
-- and what the rule asks for with what it leaves proposed
abbrev told : Moment → List ℕ
told x =
    x.env.frame ∷ x.phase ∷ lanes_of x.wiring x.env 0 ∷ map (to_bits binary32)
    ((before x).to 0 0 ∷ (after x).to 0 0 ∷ ruled x.wiring x.env x.phase (before x) (after x).to 0 0 ∷ [])

-- "range 0 to 64": two ticks, 0 to 0.75 and 0.75 to 0.75
abbrev calls5 : List Call
calls5 = swap 1 ∷ quarter ∷ over 0 64 ∷ []

two-ticks : map told (ticks_of names calls5 fresh)
    ≡ (0 ∷ 0 ∷ 1 ∷ 0 ∷ 0x3f40_0000 ∷ 0x3f40_0000 ∷ [])
    ∷ (32 ∷ 0 ∷ 1 ∷ 0x3f40_0000 ∷ 0x3f40_0000 ∷ 0x3f40_0000 ∷ []) ∷ []
unfolding empty_slot new_matrix set_draw chunk_ticks slot_route slots_into slot_into route_place counted_into chunk_list
    process judged chunk_steps chunk_step tick_of turns turn new_to new_from source_after aux_after put_slews fill_from
    tick_sum others plains offsets some_plain plain route_value input_in in_group sounding in_span plan_at route_at
    part_of sample_in fill part on_part rows_of_chunk audio_of audio_plans glided moved_held advanced joined moving
    moved_value moved_glide chunk_total chunk_of load_by active_count draw_routes put_state put_held put_globals
    put_values put_audio with_velocity with_key with_marks with_phase with_block with_primed with_gains with_program
    with_draw marks_cleared marks_swapped no_marks no_voices no_notes fresh_state empty_of swap_program compiled padded
    target_place verdict verdicts_from verdicts candidates skipped_of in_use counted_feed used_dests feeder_of
    readers_of reads hears_audio is_audio controls audios plan_order order slew_for input_by route_by route_in plan_by
    plans_of all_routes seconds_of rate_per_sample names_table any_names slot_names hold max32 min32 is_nan lt le eq add
    sub mul div of_int set_held set_voice_held set_base set_amount set_output set_voice_limit note_on note_off
    voice_ended run done_by note_curve randoms_set alternates sounded_on ranks_on ended_of newest_after marks_on
    marks_ended set_note set_value set_glide legato_time ended_note arrives glideMoved held_by draw_voices with_voices
    with_alternate with_limit put_bases lookup_of position cell_of reach moved slew_step step scrambled draw_bits
    draw_of row_at on_row kept_amount kept_output clamp_to finite ne neg to_bits to_unsigned audio_frame audio_frames
    new_audio audio_sum all_plain from_part to_part is_sounding abs_of
two-ticks = refl

-- "Range 0 to 5 with no program; note on, voice ended; swap in case 5; range 0 to 27: one tick at phase 5 ... Without
-- the note: no tick"
abbrev calls10 : List Call
calls10 = quarter ∷ over 0 5 ∷ note ∷ voice-ended 0 ∷ swap 1 ∷ over 0 27 ∷ []

abbrev noteless : List Call
noteless = quarter ∷ over 0 5 ∷ swap 1 ∷ over 0 27 ∷ []

one-tick : (map told (ticks_of names calls10 fresh) ≡ (0 ∷ 5 ∷ 1 ∷ 0 ∷ 0x3f40_0000 ∷ 0x3f40_0000 ∷ []) ∷ [])
    × (map told (ticks_of names noteless fresh) ≡ [])
unfolding empty_slot new_matrix set_draw chunk_ticks slot_route slots_into slot_into route_place counted_into chunk_list
    process judged chunk_steps chunk_step tick_of turns turn new_to new_from source_after aux_after put_slews fill_from
    tick_sum others plains offsets some_plain plain route_value input_in in_group sounding in_span plan_at route_at
    part_of sample_in fill part on_part rows_of_chunk audio_of audio_plans glided moved_held advanced joined moving
    moved_value moved_glide chunk_total chunk_of load_by active_count draw_routes put_state put_held put_globals
    put_values put_audio with_velocity with_key with_marks with_phase with_block with_primed with_gains with_program
    with_draw marks_cleared marks_swapped no_marks no_voices no_notes fresh_state empty_of swap_program compiled padded
    target_place verdict verdicts_from verdicts candidates skipped_of in_use counted_feed used_dests feeder_of
    readers_of reads hears_audio is_audio controls audios plan_order order slew_for input_by route_by route_in plan_by
    plans_of all_routes seconds_of rate_per_sample names_table any_names slot_names hold max32 min32 is_nan lt le eq add
    sub mul div of_int set_held set_voice_held set_base set_amount set_output set_voice_limit note_on note_off
    voice_ended run done_by note_curve randoms_set alternates sounded_on ranks_on ended_of newest_after marks_on
    marks_ended set_note set_value set_glide legato_time ended_note arrives glideMoved held_by draw_voices with_voices
    with_alternate with_limit put_bases lookup_of position cell_of reach moved slew_step step scrambled draw_bits
    draw_of row_at on_row kept_amount kept_output clamp_to finite ne neg to_bits to_unsigned audio_frame audio_frames
    new_audio audio_sum all_plain from_part to_part is_sounding abs_of
one-tick = (refl, refl)

-- as many as are due
totals : (tick_total calls5 fresh ≡ 2) × ((tick_total calls10 fresh ≡ 1) × (tick_total noteless fresh ≡ 0))
unfolding empty_slot new_matrix set_draw chunk_ticks slot_route slots_into slot_into route_place counted_into chunk_list
    process judged chunk_steps chunk_step tick_of turns turn new_to new_from source_after aux_after put_slews fill_from
    tick_sum others plains offsets some_plain plain route_value input_in in_group sounding in_span plan_at route_at
    part_of sample_in fill part on_part rows_of_chunk audio_of audio_plans glided moved_held advanced joined moving
    moved_value moved_glide chunk_total chunk_of load_by active_count draw_routes put_state put_held put_globals
    put_values put_audio with_velocity with_key with_marks with_phase with_block with_primed with_gains with_program
    with_draw marks_cleared marks_swapped no_marks no_voices no_notes fresh_state empty_of swap_program compiled padded
    target_place verdict verdicts_from verdicts candidates skipped_of in_use counted_feed used_dests feeder_of
    readers_of reads hears_audio is_audio controls audios plan_order order slew_for input_by route_by route_in plan_by
    plans_of all_routes seconds_of rate_per_sample names_table any_names slot_names hold max32 min32 is_nan lt le eq add
    sub mul div of_int set_held set_voice_held set_base set_amount set_output set_voice_limit note_on note_off
    voice_ended run done_by note_curve randoms_set alternates sounded_on ranks_on ended_of newest_after marks_on
    marks_ended set_note set_value set_glide legato_time ended_note arrives glideMoved held_by draw_voices with_voices
    with_alternate with_limit put_bases lookup_of position cell_of reach moved slew_step step scrambled draw_bits
    draw_of row_at on_row kept_amount kept_output clamp_to finite ne neg to_bits to_unsigned audio_frame audio_frames
    new_audio audio_sum all_plain from_part to_part is_sounding abs_of
totals = (refl, (refl, refl))

-- ---- a swap to the installed number, and the state of the draws

-- the amount set to 0.25, then program 1 again: its compiled amount, 0.5, comes back, it is unprimed, and its memory is
-- as the block left it; a number that names no program changes nothing
abbrev again : List Call
again = swap 1 ∷ quarter ∷ over 0 64 ∷ amount-set 0 (fin false 1 (negsuc 1)) ∷ swap 1 ∷ swap 7 ∷ draw-set 5 ∷ []

installed-again : (at (run again fresh).world.state.gains.amount 0 ≡ half32)
    × (((run again fresh).world.state.primed ≡ false)
    × (((run again fresh).installed ≡ 1)
    × ((map told (ticks_of names (again ++ (over 0 32 ∷ [])) fresh)
    ≡ (0 ∷ 0 ∷ 1 ∷ 0 ∷ 0x3f40_0000 ∷ 0x3f40_0000 ∷ [])
    ∷ (32 ∷ 0 ∷ 1 ∷ 0x3f40_0000 ∷ 0x3f40_0000 ∷ 0x3f40_0000 ∷ [])
    ∷ (0 ∷ 0 ∷ 1 ∷ 0x3f40_0000 ∷ 0x3f40_0000 ∷ 0x3f40_0000 ∷ []) ∷ [])
    × ((run again fresh).world.state.draw ≡ 5))))
unfolding empty_slot new_matrix set_draw chunk_ticks slot_route slots_into slot_into route_place counted_into chunk_list
    process judged chunk_steps chunk_step tick_of turns turn new_to new_from source_after aux_after put_slews fill_from
    tick_sum others plains offsets some_plain plain route_value input_in in_group sounding in_span plan_at route_at
    part_of sample_in fill part on_part rows_of_chunk audio_of audio_plans glided moved_held advanced joined moving
    moved_value moved_glide chunk_total chunk_of load_by active_count draw_routes put_state put_held put_globals
    put_values put_audio with_velocity with_key with_marks with_phase with_block with_primed with_gains with_program
    with_draw marks_cleared marks_swapped no_marks no_voices no_notes fresh_state empty_of swap_program compiled padded
    target_place verdict verdicts_from verdicts candidates skipped_of in_use counted_feed used_dests feeder_of
    readers_of reads hears_audio is_audio controls audios plan_order order slew_for input_by route_by route_in plan_by
    plans_of all_routes seconds_of rate_per_sample names_table any_names slot_names hold max32 min32 is_nan lt le eq add
    sub mul div of_int set_held set_voice_held set_base set_amount set_output set_voice_limit note_on note_off
    voice_ended run done_by note_curve randoms_set alternates sounded_on ranks_on ended_of newest_after marks_on
    marks_ended set_note set_value set_glide legato_time ended_note arrives glideMoved held_by draw_voices with_voices
    with_alternate with_limit put_bases lookup_of position cell_of reach moved slew_step step scrambled draw_bits
    draw_of row_at on_row kept_amount kept_output clamp_to finite ne neg to_bits to_unsigned audio_frame audio_frames
    new_audio audio_sum all_plain from_part to_part is_sounding abs_of
installed-again = (refl, (refl, (refl, (refl, refl))))

-- ---- which wirings are barred

-- document 01, case 1: feeds 2→0, 1→2
in_a_row : chainless (feeding (route 2 0 ∷ route 3 1 ∷ route 1 2 ∷ [])) ≡ true
unfolding chainless target_place verdict verdicts_from verdicts candidates in_use counted_feed hears_audio is_audio
    counted_into controls order
in_a_row = refl

-- document 01, case 2: feeds 0→1, 1→0
in-a-ring : chainless (feeding (route 0 1 ∷ route 1 0 ∷ route 3 2 ∷ [])) ≡ false
unfolding chainless target_place verdict verdicts_from verdicts candidates in_use counted_feed hears_audio is_audio
    counted_into controls order
in-a-ring = refl

-- one that feeds itself makes no chain
itself : chainless (feeding (route 0 0 ∷ route 3 0 ∷ [])) ≡ true
unfolding chainless target_place verdict verdicts_from verdicts candidates in_use counted_feed hears_audio is_audio
    counted_into controls order
itself = refl

-- oracle/cases/diff-1-unread-feeder: destinations 0 and 2 feed source 0, which 1 reads; 1 feeds source 1, which 0
-- reads. The feeds that are read make no ring, the counted ones do
abbrev unread : Wiring
unread =
    let held = source K.Held R.Unipolar in
    wired (held ∷ held ∷ source K.Constant R.Unipolar ∷ [])
    (dest 0 (F.Source 0) ∷ dest 1 (F.Source 1) ∷ dest 2 (F.Source 0) ∷ []) (route 1 0 ∷ route 0 1 ∷ route 2 2 ∷ [])

read-or-not : (chainless unread ≡ false) × (ordered (reads unread) (order (reads unread) (controls unread)) ≡ true)
unfolding chainless target_place verdict verdicts_from verdicts candidates in_use counted_feed used_dests feeder_of
    readers_of reads hears_audio is_audio counted_into controls order
read-or-not = (refl, refl)
