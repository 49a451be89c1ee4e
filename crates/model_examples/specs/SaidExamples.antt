-- `said`, worked out on small sessions: at each tick of them it gives the number that the Rust prints (oracle/cases)
-- and that the tick leaves. Definitions only.
use Rattle.std.specs.Prelude.{◌≡◌, refl, true, false, List, [], ◌∷◌, ◌++◌, map, ℕ, Float, pos, negsuc, length}
use Rattle.std.specs.Prelude.{replicate}
use Rattle.std.specs.Float.Ieee.{to_bits, add, sub, mul, div, neg, lt, eq, is_nan, of_int, to_unsigned, le, ne}
use Rattle.std.specs.Float.{fin, binary32, inf}
use Rattle.number.specs.Number.{max32, min32, clamp_to, abs_of, hold, finite, half32, zero32, one32}
use Rattle.draw.specs.Xorshift.{step, scrambled, draw_bits, draw_of}
use Rattle.curve_table.specs.Table.{lookup_of, position, cell_of, part_of, tabulated, diagonal_at}
use Rattle.slew.specs.Slew.{rate_per_sample, reach, moved, slew_step}
use Rattle.list.specs.Padded.{padded}
use Rattle.curve_table.specs.Curve.{seconds_of}
use Rattle.feed.specs.Order.{order}
use Rattle.slots.specs.Slots.{kept_amount, kept_output, empty_slot}
use Rattle.state.specs.Registry.{target_place}
use Rattle.refusal.specs.Judge.{judged}
use Rattle.list.specs.Fill.{fill}
use Rattle.list.specs.Part.{part, on_part}
use Rattle.voice.specs.Voices.{no_voices, ranks_on, sounded_on, ended_of, newest_after, active_count, is_sounding}
use Rattle.voice.specs.Marks.{no_marks, marks_on, marks_ended, marks_swapped, marks_cleared}
use Rattle.voice.specs.Notes.{no_notes, advanced, moving, moved_value, moved_glide, set_note, set_value, set_glide}
use Rattle.voice.specs.Notes.{legato_time, ended_note, arrives, moved as glideMoved}
use Rattle.voice.specs.Joined.{joined}
use Rattle.slots_tables.specs.Tables.{slot_names, any_names, names_table}
use Rattle.list.specs.Rows.{row_at, on_row}
use Rattle.state.specs.declared.Wiring.{Wiring}
use Rattle.curve_table.specs.declared.Curve.{Curve}
use Rattle.state.specs.declared.Kind.{Kind}
use Rattle.state.specs.declared.Scope.{Scope}
use Rattle.state.specs.declared.Feed.{Feed}
use Rattle.state.specs.declared.Polarity.{Polarity}
use Rattle.state.specs.declared.Source.{Source}
use Rattle.state.specs.declared.Dest.{Dest}
use Rattle.state.specs.declared.Slot.{Slot}
use Rattle.state.specs.declared.Range.{Range}
use Rattle.curve_table.specs.declared.Curve.TheVariants as C
use Rattle.std.specs.Prelude.{None, Some}
use Rattle.state.specs.declared.Feed.TheVariants as F
use Rattle.state.specs.declared.Kind.TheVariants as K
use Rattle.state.specs.declared.NoteCurve.TheVariants as N
use Rattle.state.specs.declared.Polarity.TheVariants as Q
use Rattle.state.specs.declared.Range.TheVariants as R
use Rattle.state.specs.declared.Rate.TheVariants as T
use Rattle.state.specs.declared.Scope.TheVariants as S
use Rattle.state.specs.declared.Target.TheVariants as G
use Rattle.model.specs.Wiring.{verdict, verdicts_from, verdicts, candidates, skipped_of}
use Rattle.model.specs.Feeds.{in_use, counted_feed, used_dests, feeder_of, readers_of, reads, hears_audio, is_audio}
use Rattle.model.specs.Feeds.{controls, audios, plan_order}
use Rattle.model.specs.Routes.{slew_for, input_by, route_by, route_in}
use Rattle.model.specs.Plans.{plan_by, plans_of, all_routes, compiled}
use Rattle.model.specs.Compile.{empty_of}
use Rattle.model.specs.Counts.{plan_at, route_at}
use Rattle.model.specs.Env.{sample_in}
use Rattle.model.specs.Input.{input_in}
use Rattle.model.specs.Lanes.{in_group, sounding, in_span}
use Rattle.model.specs.RouteValue.{route_value, plain}
use Rattle.model.specs.Sums.{offsets, some_plain, all_plain, plains, others, tick_sum, audio_sum}
use Rattle.model.specs.Slews.{source_after, aux_after}
use Rattle.model.specs.Tick.{fill_from, put_slews, new_to, new_from, turn, turns, tick_of}
use Rattle.model.specs.Audio.{new_audio, audio_frame, audio_frames, audio_plans, audio_of}
use Rattle.model.specs.Chunks.{chunk_total, chunk_of, chunk_list}
use Rattle.model.specs.World.{held_by, load_by}
use Rattle.model.specs.States.{with_voices, with_marks, with_velocity, with_key, with_gains, with_draw, with_alternate}
use Rattle.model.specs.States.{with_limit, with_phase, with_block, with_primed, with_program, put_state, put_held}
use Rattle.model.specs.States.{put_globals, put_bases, put_values, put_audio}
use Rattle.model.specs.Process.{moved_held, glided, draw_voices, draw_routes, rows_of_chunk, chunk_step, chunk_steps}
use Rattle.model.specs.Process.{process}
use Rattle.model.specs.Settings.{done_by, fresh_state, set_base, swap_program, set_held, set_voice_held, set_amount}
use Rattle.model.specs.Settings.{set_output, set_voice_limit}
use Rattle.model.specs.NoteCalls.{note_curve, randoms_set, alternates, note_on, note_off, voice_ended}
use Rattle.model.specs.Outputs.{from_part, to_part}
use Rattle.model.specs.Calls.{Call, swap, run, base-set, held-set}
use Rattle.model.specs.Calls.{kept_of, start_of}
use Rattle.model.specs.Cases.{constant, quarter, over, note}
use Rattle.model.specs.Claim.{Moment, chunk_ticks, ticks_of, after}
use Rattle.model.specs.Model.{route_place}
use Rattle.model.specs.Said.{sends, is_used, source_feeder, amount_feeder, output_feeder, slot_voice, simple_slot}
use Rattle.model.specs.Said.{group_active, spanned, plain_slot, source_read, input_said, term, offset_sum, plain_sum}
use Rattle.model.specs.Said.{sum_said, said}
use Rattle.model.specs.Instants.{said_at}

-- ---- small wirings, at 64 samples a second, with up to 64 frames and one voice

abbrev any_source : Kind → Scope → Range → Source
any_source k s r = record { key = []; len = 0; kind = k; scope = s; range = r }

-- parameter n, with a scope and a feed, unbounded
abbrev free_dest : ℕ → Scope → Feed → Dest
free_dest n s f = record { target = G.Param n; scope = s; rate = T.Control; min = inf true; max = inf false; feed = f }

-- from source i over a curve to parameter n
abbrev any_slot : ℕ → Curve → ℕ → Float → Polarity → Slot
any_slot i c n amount p =
    record {
      source = Some i;
      source_curve = c;
      amount = amount;
      polarity = p;
      destination = Some (G.Param n);
      aux = None;
      aux_invert = false;
      aux_curve = C.Linear;
      output = one32;
      bypass = false;
    }

abbrev wired_small : List Source → List Dest → List Slot → Wiring
wired_small ss ds l =
    record {
      matrix = record { slot = l; velocity = N.Linear; key = N.Linear; glide = false; velocity_legato = false };
      sources = record { count = length ss; entry = ss };
      dests = record { count = length ds; entry = ds };
      config = record { sample_rate = fin false 1 (pos 6); max_frames = 64; voices = 1 };
    }

-- at a tick, of destination d in lane l, by their bits: what is said with what the tick leaves proposed, and what the
-- tick leaves
abbrev twice : ℕ → ℕ → Moment → List ℕ
twice d l x = to_bits binary32 (said_at x (after x).to d l) ∷ to_bits binary32 ((after x).to d l) ∷ []

-- at each tick of the list, on a fresh engine with the one program
abbrev said_twice : Wiring → List Float → List Call → ℕ → ℕ → List (List ℕ)
said_twice w tables cs d l =
    map (twice d l)
    (ticks_of (λ k. w) (swap 1 ∷ cs) (start_of w.sources w.dests w.config (kept_of w tables ∷ [])))

-- cases/05-constant: 0.75 at each tick; and at a tick off phase, where a primed program keeps it
constant-said : (said_twice constant [] (quarter ∷ over 0 64 ∷ []) 0 0
    ≡ (0x3f40_0000 ∷ 0x3f40_0000 ∷ []) ∷ (0x3f40_0000 ∷ 0x3f40_0000 ∷ []) ∷ [])
    × (said_twice constant [] (quarter ∷ over 0 5 ∷ note ∷ over 0 27 ∷ []) 0 0
    ≡ (0x3f40_0000 ∷ 0x3f40_0000 ∷ []) ∷ (0x3f40_0000 ∷ 0x3f40_0000 ∷ []) ∷ [])
unfolding said sum_said plain_sum offset_sum term input_said source_read plain_slot spanned group_active simple_slot
    slot_voice output_feeder amount_feeder source_feeder is_used sends empty_slot chunk_ticks route_place chunk_list
    process judged chunk_steps chunk_step tick_of turns turn new_to new_from source_after aux_after put_slews fill_from
    tick_sum others plains offsets some_plain plain route_value input_in in_group sounding in_span plan_at route_at
    part_of sample_in fill part on_part rows_of_chunk audio_of audio_plans glided moved_held advanced joined moving
    moved_value moved_glide chunk_total chunk_of load_by active_count draw_routes put_state put_held put_globals
    put_values put_audio with_velocity with_key with_marks with_phase with_block with_primed with_gains with_program
    with_draw marks_cleared marks_swapped no_marks no_voices no_notes fresh_state empty_of swap_program compiled padded
    target_place verdict verdicts_from verdicts candidates skipped_of in_use counted_feed used_dests feeder_of
    readers_of reads hears_audio is_audio controls audios plan_order order slew_for input_by route_by route_in plan_by
    plans_of all_routes seconds_of rate_per_sample names_table any_names slot_names hold max32 min32 is_nan lt le eq add
    sub mul div of_int set_held set_voice_held set_base set_amount set_output set_voice_limit note_on note_off
    voice_ended run done_by note_curve randoms_set alternates sounded_on ranks_on ended_of newest_after marks_on
    marks_ended set_note set_value set_glide legato_time ended_note arrives glideMoved held_by draw_voices with_voices
    with_alternate with_limit put_bases lookup_of position cell_of reach moved slew_step step scrambled draw_bits
    draw_of row_at on_row kept_amount kept_output clamp_to finite ne neg to_bits to_unsigned audio_frame audio_frames
    new_audio audio_sum all_plain from_part to_part is_sounding abs_of
constant-said = (refl, refl)

-- cases/07-slew: rise 1 s, fall 0: 0.5, 1, then 0
abbrev slewing : Wiring
slewing =
    wired_small (any_source K.Held S.Global R.Unipolar ∷ []) (free_dest 0 S.Global F.Nothing ∷ [])
    (any_slot 0 (C.Table one32 zero32) 0 one32 Q.Unipolar ∷ [])

slew-said : said_twice slewing (tabulated diagonal_at ++ replicate 66177 zero32)
    (held-set 0 one32 ∷ over 0 64 ∷ held-set 0 zero32 ∷ over 0 32 ∷ []) 0 0
    ≡ (0x3f00_0000 ∷ 0x3f00_0000 ∷ []) ∷ (0x3f80_0000 ∷ 0x3f80_0000 ∷ []) ∷ (0 ∷ 0 ∷ []) ∷ []
unfolding said sum_said plain_sum offset_sum term input_said source_read plain_slot spanned group_active simple_slot
    slot_voice output_feeder amount_feeder source_feeder is_used sends empty_slot chunk_ticks route_place chunk_list
    process judged chunk_steps chunk_step tick_of turns turn new_to new_from source_after aux_after put_slews fill_from
    tick_sum others plains offsets some_plain plain route_value input_in in_group sounding in_span plan_at route_at
    part_of sample_in fill part on_part rows_of_chunk audio_of audio_plans glided moved_held advanced joined moving
    moved_value moved_glide chunk_total chunk_of load_by active_count draw_routes put_state put_held put_globals
    put_values put_audio with_velocity with_key with_marks with_phase with_block with_primed with_gains with_program
    with_draw marks_cleared marks_swapped no_marks no_voices no_notes fresh_state empty_of swap_program compiled padded
    target_place verdict verdicts_from verdicts candidates skipped_of in_use counted_feed used_dests feeder_of
    readers_of reads hears_audio is_audio controls audios plan_order order slew_for input_by route_by route_in plan_by
    plans_of all_routes seconds_of rate_per_sample names_table any_names slot_names hold max32 min32 is_nan lt le eq add
    sub mul div of_int set_held set_voice_held set_base set_amount set_output set_voice_limit note_on note_off
    voice_ended run done_by note_curve randoms_set alternates sounded_on ranks_on ended_of newest_after marks_on
    marks_ended set_note set_value set_glide legato_time ended_note arrives glideMoved held_by draw_voices with_voices
    with_alternate with_limit put_bases lookup_of position cell_of reach moved slew_step step scrambled draw_bits
    draw_of row_at on_row kept_amount kept_output clamp_to finite ne neg to_bits to_unsigned audio_frame audio_frames
    new_audio audio_sum all_plain from_part to_part is_sounding abs_of
slew-said = refl

-- cases/09-bipolar: the smallest number is not halved and doubled
abbrev bipolar : Wiring
bipolar =
    wired_small (any_source K.Held S.Global R.Bipolar ∷ []) (free_dest 0 S.Global F.Nothing ∷ [])
    (any_slot 0 C.Linear 0 one32 Q.Bipolar ∷ [])

bipolar-said : said_twice bipolar [] (held-set 0 (fin false 1 (negsuc 148)) ∷ over 0 32 ∷ []) 0 0 ≡ (1 ∷ 1 ∷ []) ∷ []
unfolding said sum_said plain_sum offset_sum term input_said source_read plain_slot spanned group_active simple_slot
    slot_voice output_feeder amount_feeder source_feeder is_used sends empty_slot chunk_ticks route_place chunk_list
    process judged chunk_steps chunk_step tick_of turns turn new_to new_from source_after aux_after put_slews fill_from
    tick_sum others plains offsets some_plain plain route_value input_in in_group sounding in_span plan_at route_at
    part_of sample_in fill part on_part rows_of_chunk audio_of audio_plans glided moved_held advanced joined moving
    moved_value moved_glide chunk_total chunk_of load_by active_count draw_routes put_state put_held put_globals
    put_values put_audio with_velocity with_key with_marks with_phase with_block with_primed with_gains with_program
    with_draw marks_cleared marks_swapped no_marks no_voices no_notes fresh_state empty_of swap_program compiled padded
    target_place verdict verdicts_from verdicts candidates skipped_of in_use counted_feed used_dests feeder_of
    readers_of reads hears_audio is_audio controls audios plan_order order slew_for input_by route_by route_in plan_by
    plans_of all_routes seconds_of rate_per_sample names_table any_names slot_names hold max32 min32 is_nan lt le eq add
    sub mul div of_int set_held set_voice_held set_base set_amount set_output set_voice_limit note_on note_off
    voice_ended run done_by note_curve randoms_set alternates sounded_on ranks_on ended_of newest_after marks_on
    marks_ended set_note set_value set_glide legato_time ended_note arrives glideMoved held_by draw_voices with_voices
    with_alternate with_limit put_bases lookup_of position cell_of reach moved slew_step step scrambled draw_bits
    draw_of row_at on_row kept_amount kept_output clamp_to finite ne neg to_bits to_unsigned audio_frame audio_frames
    new_audio audio_sum all_plain from_part to_part is_sounding abs_of
bipolar-said = refl

-- cases/13-c12: destination 1 feeds the amount of slot 0, which reads 0.5 + 0.25 after the tick; destination 0 is 0.25
-- and that
abbrev fed-amount : Wiring
fed-amount =
    wired_small (any_source K.Constant S.Global R.Unipolar ∷ [])
    (free_dest 0 S.Global F.Nothing ∷ free_dest 1 S.Global (F.Amount 0) ∷ [])
    (any_slot 0 C.Linear 0 half32 Q.Unipolar ∷ any_slot 0 C.Linear 1 (fin false 1 (negsuc 1)) Q.Unipolar ∷ [])

fed-said : (said_twice fed-amount [] (quarter ∷ over 0 32 ∷ []) 0 0 ≡ (0x3f80_0000 ∷ 0x3f80_0000 ∷ []) ∷ [])
    × (said_twice fed-amount [] (quarter ∷ over 0 32 ∷ []) 1 0 ≡ (0x3f40_0000 ∷ 0x3f40_0000 ∷ []) ∷ [])
unfolding said sum_said plain_sum offset_sum term input_said source_read plain_slot spanned group_active simple_slot
    slot_voice output_feeder amount_feeder source_feeder is_used sends empty_slot chunk_ticks route_place chunk_list
    process judged chunk_steps chunk_step tick_of turns turn new_to new_from source_after aux_after put_slews fill_from
    tick_sum others plains offsets some_plain plain route_value input_in in_group sounding in_span plan_at route_at
    part_of sample_in fill part on_part rows_of_chunk audio_of audio_plans glided moved_held advanced joined moving
    moved_value moved_glide chunk_total chunk_of load_by active_count draw_routes put_state put_held put_globals
    put_values put_audio with_velocity with_key with_marks with_phase with_block with_primed with_gains with_program
    with_draw marks_cleared marks_swapped no_marks no_voices no_notes fresh_state empty_of swap_program compiled padded
    target_place verdict verdicts_from verdicts candidates skipped_of in_use counted_feed used_dests feeder_of
    readers_of reads hears_audio is_audio controls audios plan_order order slew_for input_by route_by route_in plan_by
    plans_of all_routes seconds_of rate_per_sample names_table any_names slot_names hold max32 min32 is_nan lt le eq add
    sub mul div of_int set_held set_voice_held set_base set_amount set_output set_voice_limit note_on note_off
    voice_ended run done_by note_curve randoms_set alternates sounded_on ranks_on ended_of newest_after marks_on
    marks_ended set_note set_value set_glide legato_time ended_note arrives glideMoved held_by draw_voices with_voices
    with_alternate with_limit put_bases lookup_of position cell_of reach moved slew_step step scrambled draw_bits
    draw_of row_at on_row kept_amount kept_output clamp_to finite ne neg to_bits to_unsigned audio_frame audio_frames
    new_audio audio_sum all_plain from_part to_part is_sounding abs_of
fed-said = (refl, refl)

-- cases/t28-plain-offsets-summed-first: two plain routes whose offsets, added one by one to the base 1, would be lost;
-- the last lane of the group too
abbrev offset-twice : Wiring
offset-twice =
    let s = any_slot 0 C.Linear 0 (fin false 1 (negsuc 22)) Q.Unipolar in
    wired_small (any_source K.Held S.Voice R.Bipolar ∷ []) (free_dest 0 S.Voice F.Nothing ∷ []) (s ∷ s ∷ [])

offsets-said : (said_twice offset-twice [] (base-set 0 one32 ∷ note ∷ over 0 32 ∷ []) 0 0
    ≡ (0x3f80_0001 ∷ 0x3f80_0001 ∷ []) ∷ [])
    × (said_twice offset-twice [] (base-set 0 one32 ∷ note ∷ over 0 32 ∷ []) 0 15
    ≡ (0x3f80_0001 ∷ 0x3f80_0001 ∷ []) ∷ [])
unfolding said sum_said plain_sum offset_sum term input_said source_read plain_slot spanned group_active simple_slot
    slot_voice output_feeder amount_feeder source_feeder is_used sends empty_slot chunk_ticks route_place chunk_list
    process judged chunk_steps chunk_step tick_of turns turn new_to new_from source_after aux_after put_slews fill_from
    tick_sum others plains offsets some_plain plain route_value input_in in_group sounding in_span plan_at route_at
    part_of sample_in fill part on_part rows_of_chunk audio_of audio_plans glided moved_held advanced joined moving
    moved_value moved_glide chunk_total chunk_of load_by active_count draw_routes put_state put_held put_globals
    put_values put_audio with_velocity with_key with_marks with_phase with_block with_primed with_gains with_program
    with_draw marks_cleared marks_swapped no_marks no_voices no_notes fresh_state empty_of swap_program compiled padded
    target_place verdict verdicts_from verdicts candidates skipped_of in_use counted_feed used_dests feeder_of
    readers_of reads hears_audio is_audio controls audios plan_order order slew_for input_by route_by route_in plan_by
    plans_of all_routes seconds_of rate_per_sample names_table any_names slot_names hold max32 min32 is_nan lt le eq add
    sub mul div of_int set_held set_voice_held set_base set_amount set_output set_voice_limit note_on note_off
    voice_ended run done_by note_curve randoms_set alternates sounded_on ranks_on ended_of newest_after marks_on
    marks_ended set_note set_value set_glide legato_time ended_note arrives glideMoved held_by draw_voices with_voices
    with_alternate with_limit put_bases lookup_of position cell_of reach moved slew_step step scrambled draw_bits
    draw_of row_at on_row kept_amount kept_output clamp_to finite ne neg to_bits to_unsigned audio_frame audio_frames
    new_audio audio_sum all_plain from_part to_part is_sounding abs_of
offsets-said = (refl, refl)
