-- Document 01, "Checked by hand": the worked cases, as one table. Each has its number, what the definitions give, and
-- what document 01 says; a binary32 stands by its bits. Definitions only; that each case holds is the one theorem of
-- proofs/CasesHold.antt.
use Rattle.std.specs.Prelude.{true, false, cond, List, [], ◌∷◌, ◌++◌, map, ℕ, suc, pos, negsuc, length, get_or, Float}
use Rattle.std.specs.Float.{fin, binary32}
use Rattle.std.specs.Float.Ieee.{to_bits}
use Rattle.number.specs.Number.{zero32, half32, one32, plus, times}
use Rattle.draw.specs.Xorshift.{step}
use Rattle.config.specs.Sizes.{lane_stride}
use Rattle.curve_table.specs.Table.{lookup_of, tabulated, diagonal_at}
use Rattle.curve_table.specs.declared.Curve.TheVariants as C
use Rattle.slew.specs.Slew.{rate_per_sample, reach, slew_step}
use Rattle.state.specs.declared.Kind.{Kind}
use Rattle.state.specs.declared.Kind.TheVariants as K
use Rattle.state.specs.declared.Scope.TheVariants as S
use Rattle.state.specs.declared.Range.{Range}
use Rattle.state.specs.declared.Range.TheVariants as R
use Rattle.state.specs.declared.Rate.TheVariants as T
use Rattle.state.specs.declared.Feed.{Feed}
use Rattle.state.specs.declared.Feed.TheVariants as F
use Rattle.state.specs.declared.Target.TheVariants as G
use Rattle.std.specs.Prelude.{None, Some}
use Rattle.state.specs.declared.Polarity.{Polarity}
use Rattle.state.specs.declared.Polarity.TheVariants as Q
use Rattle.state.specs.declared.NoteCurve.TheVariants as N
use Rattle.state.specs.declared.Source.{Source}
use Rattle.state.specs.declared.Dest.{Dest}
use Rattle.state.specs.declared.Slot.{Slot}
use Rattle.state.specs.declared.Plan.{Plan}
use Rattle.state.specs.declared.Route.{Route}
use Rattle.state.specs.declared.Program.{Program}
use Rattle.state.specs.declared.Wiring.{Wiring}
use Rattle.slots.specs.Slots.{kept_amount}
use Rattle.state_filled.specs.Filled.{no_route}
use Rattle.voice.specs.declared.Legato.TheVariants as W
use Rattle.voice.specs.Notes.{no_notes, set_note, advanced, value_of, glide_of}
use Rattle.state.specs.declared.Chunk.{Chunk}
use Rattle.model.specs.Plans.{plans_of, compiled}
use Rattle.model.specs.Counts.{at}
use Rattle.model.specs.Chunks.{chunk_list}
use Rattle.model.specs.Outputs.{from_place, to_place}
use Rattle.model.specs.Calls.{Call, base-set, note-on, voice-ended, swap, block, Runner, kept_of, start_of, run}

pub record Case : Type 0 where
  -- document 01's number of it
  pub number : ℕ
  -- what the definitions give
  pub found : List ℕ
  -- what document 01 says
  pub expected : List ℕ

abbrev pub bits : List Float → List ℕ
bits xs = map (to_bits binary32) xs

-- ---- single pieces

-- "Phase 5, range 0 to 64: lengths 27, 32, 5; starts 0, 27, 59."
unfoldable pub case4 : Case
case4 =
    let cs = chunk_list (record { start = 0; end = 64; phase = 5; first_tick = false }) in
    record {
      number = 4;
      found = map (λ (c : Chunk). c.len) cs ++ map (λ (c : Chunk). c.start) cs;
      expected = 27 ∷ 32 ∷ 5 ∷ 0 ∷ 27 ∷ 59 ∷ [];
    }

-- "Glide 0 to 1, 1 s, rate 64: 0.5 after 32 frames, then 1, ended."
unfoldable pub case8 : Case
case8 =
    let begun = set_note no_notes 0 one32 (W.Glide one32) (fin false 1 (pos 6)) in
    let half = advanced begun 32 in
    let whole = advanced half 32 in
    record {
      number = 8;
      found = bits (value_of begun 0 ∷ value_of half 0 ∷ value_of whole 0 ∷ (glide_of whole 0).step ∷ []);
      expected = 0 ∷ 0x3f00_0000 ∷ 0x3f80_0000 ∷ 0 ∷ [];
    }

-- ---- wirings: sources without keys, destinations from 0 to 1 at control rate, slots with a source, an amount and a
-- destination

abbrev pub source : Kind → Range → Source
source k r = record { key = []; len = 0; kind = k; scope = S.Global; range = r }

-- parameter n, with a feed
abbrev pub dest : ℕ → Feed → Dest
dest n f = record { target = G.Param n; scope = S.Global; rate = T.Control; min = zero32; max = one32; feed = f }

-- from source i to parameter n
abbrev pub slot : ℕ → ℕ → Float → Polarity → Slot
slot i n amount p =
    record {
      source = Some i;
      source_curve = C.Linear;
      amount = amount;
      polarity = p;
      destination = Some (G.Param n);
      aux = None;
      aux_invert = false;
      aux_curve = C.Linear;
      output = one32;
      bypass = false;
    }

abbrev pub wired : List Source → List Dest → List Slot → Wiring
wired ss ds l =
    record {
      matrix = record { slot = l; velocity = N.Linear; key = N.Linear; glide = false; velocity_legato = false };
      sources = record { count = length ss; entry = ss };
      dests = record { count = length ds; entry = ds };
      config = record { sample_rate = one32; max_frames = 0; voices = 0 };
    }

-- destination n feeds source n, for n up to 2; source 3 is a constant
abbrev pub feeding : List Slot → Wiring
feeding l =
    let held = source K.Held R.Unipolar in
    wired (held ∷ held ∷ held ∷ source K.Constant R.Unipolar ∷ [])
    (dest 0 (F.Source 0) ∷ dest 1 (F.Source 1) ∷ dest 2 (F.Source 2) ∷ []) l

-- the destinations of the plans in their order
abbrev ordered : Wiring → List ℕ
ordered w = map (λ (p : Plan). p.dest) (plans_of w)

abbrev pub route : ℕ → ℕ → Slot
route i n = slot i n one32 Q.Unipolar

-- "Feeds 2→0, 1→2 (a→b: b reads a): order 1, 2, 0."
unfoldable pub case1 : Case
case1 =
    record { number = 1; found = ordered (feeding (route 2 0 ∷ route 3 1 ∷ route 1 2 ∷ [])); expected = 1 ∷ 2 ∷ 0 ∷ [] }

-- "Feeds 0→1, 1→0, 2 free: order 2, 0, 1."
unfoldable pub case2 : Case
case2 =
    record { number = 2; found = ordered (feeding (route 1 0 ∷ route 0 1 ∷ route 3 2 ∷ [])); expected = 2 ∷ 0 ∷ 1 ∷ [] }

-- "Voices 0, 16, 17: stride 16, 16, 32."
unfoldable pub case3 : Case
case3 =
    record { number = 3; found = lane_stride 0 ∷ lane_stride 16 ∷ lane_stride 17 ∷ []; expected = 16 ∷ 16 ∷ 32 ∷ [] }

-- "Linear table i / 512 at −3, 0.5, 1: 0, 0.5, 1."
unfoldable pub case6 : Case
case6 =
    let t = tabulated diagonal_at in
    record {
      number = 6;
      found = bits (lookup_of t (fin true 3 (pos 0)) ∷ lookup_of t half32 ∷ lookup_of t one32 ∷ []);
      expected = 0 ∷ 0x3f00_0000 ∷ 0x3f80_0000 ∷ [];
    }

-- the most that a slew of so many seconds moves in a tick's 32 samples, at 64 samples a second
abbrev pub reached : Float → Float
reached seconds = reach (rate_per_sample seconds (fin false 1 (pos 6))) (fin false 1 (pos 5))

-- "Rate 64, rise 1 s, input 1 from 0: 0.5, then 1. Fall 0 moves in full."
unfoldable pub case7 : Case
case7 =
    let towards = slew_step (reached one32) (reached zero32) zero32 in
    let first = towards zero32 one32 in
    let second = towards first one32 in
    record {
      number = 7;
      found = bits (first ∷ second ∷ towards second zero32 ∷ []);
      expected = 0x3f00_0000 ∷ 0x3f80_0000 ∷ 0 ∷ [];
    }

-- one bipolar source into a slot of that amount and polarity
abbrev one : Float → Polarity → Program
one amount p = compiled (wired (source K.Signal R.Bipolar ∷ []) (dest 0 F.Nothing ∷ []) (slot 0 0 amount p ∷ []))

-- "Bipolar source, linear, into a bipolar slot: unchanged, not halved and doubled." Halving loses the smallest number.
unfoldable pub case9 : Case
case9 =
    let r : Route = get_or (one one32 Q.Bipolar).route 0 no_route in
    let least = fin false 1 (negsuc 148) in
    record {
      number = 9;
      found = bits (r.scale ∷ r.offset ∷ plus (times least r.scale) r.offset ∷ []);
      expected = 0x3f80_0000 ∷ 0 ∷ 1 ∷ [];
    }

-- "The amount setter keeps 1.5 as 1, −2 as −1; compiling clamps nothing."
unfoldable pub case11 : Case
case11 =
    let more = fin false 3 (negsuc 0) in
    record {
      number = 11;
      found = bits (kept_amount more ∷ kept_amount (fin true 1 (pos 1)) ∷ (one more Q.Unipolar).gains.amount);
      expected = 0x3f80_0000 ∷ 0xbf80_0000 ∷ 0x3fc0_0000 ∷ [];
    }

-- ---- lists of calls: a constant source into global control 0, from 0 to 1, base 0.25, amount 0.5, output 1, voices 1,
-- frames 64

-- what the program `cases` prints of control destination 0 after the last block: start, length, phase, tick, from and
-- to of each chunk
abbrev printed_chunk : Runner → ℕ → Chunk → List ℕ
printed_chunk r i c =
    let st = r.world.state in
    c.start ∷ c.len ∷ c.phase ∷ cond c.tick 1 0 ∷ bits
    (at r.world.values (from_place st 0 i) ∷ at r.world.values (to_place st 0 i) ∷ [])

abbrev printed_from : Runner → ℕ → List Chunk → List ℕ
printed_from r i [] = []
printed_from r i (c ∷ cs) = printed_chunk r i c ++ printed_from r (suc i) cs

abbrev printed : Runner → List ℕ
printed r = printed_from r 0 (chunk_list r.world.state.block)

abbrev pub constant : Wiring
constant =
    record {
      matrix = record {
        slot = slot 0 0 half32 Q.Unipolar ∷ [];
        velocity = N.Linear;
        key = N.Linear;
        glide = false;
        velocity_legato = false;
      };
      sources = record { count = 1; entry = source K.Constant R.Unipolar ∷ [] };
      dests = record { count = 1; entry = dest 0 F.Nothing ∷ [] };
      config = record { sample_rate = fin false 1 (pos 6); max_frames = 64; voices = 1 };
    }

abbrev started : Runner
started = start_of constant.sources constant.dests constant.config (kept_of constant [] ∷ [])

abbrev pub quarter : Call
quarter = base-set 0 (fin false 1 (negsuc 1))

abbrev pub over : ℕ → ℕ → Call
over start end = block [] (record { part = [] }) start end

-- "range 0 to 64": twice 0.75 to 0.75
unfoldable pub case5 : Case
case5 =
    record {
      number = 5;
      found = printed (run (swap 1 ∷ quarter ∷ over 0 64 ∷ []) started);
      expected = 0 ∷ 32 ∷ 0 ∷ 1 ∷ 0x3f40_0000 ∷ 0x3f40_0000 ∷ 32 ∷ 32 ∷ 0 ∷ 1 ∷ 0x3f40_0000 ∷ 0x3f40_0000 ∷ [];
    }

-- "Range 0 to 5 with no program; note on, voice ended; swap in case 5; range 0 to 27: one tick at phase 5, 0.75 to
-- 0.75. Without the note: no tick, 0 to 0."
abbrev pub note : Call
note = note-on 0 (record { key = zero32; velocity = one32; legato = false; glide_seconds = zero32 })

unfoldable pub case10 : Case
case10 =
    record {
      number = 10;
      found =
          printed (run (quarter ∷ over 0 5 ∷ note ∷ voice-ended 0 ∷ swap 1 ∷ over 0 27 ∷ []) started)
          ++ printed (run (quarter ∷ over 0 5 ∷ swap 1 ∷ over 0 27 ∷ []) started);
      expected = 0 ∷ 27 ∷ 5 ∷ 1 ∷ 0x3f40_0000 ∷ 0x3f40_0000 ∷ 0 ∷ 27 ∷ 5 ∷ 0 ∷ 0 ∷ 0 ∷ [];
    }

-- "Draw state 1 becomes 33,554,433."
unfoldable pub case12 : Case
case12 = record { number = 12; found = step 1 ∷ []; expected = 33554433 ∷ [] }

unfoldable pub cases : List Case
cases = case1 ∷ case2 ∷ case3 ∷ case4 ∷ case5 ∷ case6 ∷ case7 ∷ case8 ∷ case9 ∷ case10 ∷ case11 ∷ case12 ∷ []
