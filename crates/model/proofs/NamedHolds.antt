-- Every call leaves each program what its name was compiled from, and so it is of every fresh engine. Assumes nothing.
use mathlib.Core.Path.{◌≡◌, refl, sym, ap, subst, ◌∙◌}
use mathlib.Core.Logic.{◌≢◌, ◌⊎◌, inl, inr}
use mathlib.Core.Bool.{true, false, not, ◌&&◌, ◌||◌}
use mathlib.Core.List.{List, [], ◌∷◌, map}
use Prim.Native.Nat.{ℕ, zero, suc, ◌-◌, ◌<◌, max}
use native.Mathlib.Omega.{arith}
use native.Mathlib.Decide.{ℕ_discrete}
use lib.Dec.{eqb, ltb}
use lib.ListN.{length, length-set, get_or, set, replicate}
use lib.Seq.{get_or-set_same, get_or-set_other}
use lib.Ieee.{Float}
use borrow.Author.Tests.{eqb-true, eq-eqb, ltb-true}
use Rattle.config.specs.Sizes.{slots}
use Rattle.number.specs.Number.{zero32}
use Rattle.draw.specs.Xorshift.{step, draw_of}
use Rattle.list.specs.Rows.{on_row}
use Rattle.voice.specs.Voices.{sounded_on}
use Rattle.voice.specs.Marks.{marks_on}
use Rattle.voice.specs.Notes.{set_note}
use Rattle.config.specs.declared.Config.{Config}
use Rattle.refusal.specs.Judge.{Row, judged}
use Rattle.feed.proofs.Tests.{which}
use Rattle.slots.specs.Slots.{empty_slot}
use Rattle.slots.specs.Matrix.{new_matrix}
use Rattle.state.specs.declared.Sources.{Sources}
use Rattle.state.specs.declared.Destinations.{Destinations}
use Rattle.state.specs.declared.Signals.{Signals}
use Rattle.state.specs.declared.State.{State}
use Rattle.state.specs.declared.Wiring.{Wiring}
use Rattle.model.specs.Feeds.{is_voice}
use Rattle.model.specs.Plans.{compiled}
use Rattle.model.specs.Counts.{stride_of, engine_sources, route_total}
use Rattle.model.specs.Chunks.{chunk_total}
use Rattle.model.specs.World.{World, mark_at, held_place, held_of, is_velocity, is_key, is_release, is_random}
use Rattle.model.specs.States.{with_voices, with_marks, with_velocity, with_key, with_gains, with_alternate, with_draw, with_limit, with_primed, with_program, put_state, put_held, put_globals, put_bases}
use Rattle.model.specs.Process.{process_rows, loaded, drawn, glided, block_of, no_block, chunk_steps, routeless, routed, over_range, process}
use Rattle.model.specs.Settings.{done_by, fresh_state, held_rows, held_world, voice_held_rows, base_rows, gain_rows, with_amount, with_output, set_held, set_voice_held, set_base, set_amount, set_output, set_voice_limit, set_draw, swap_rows, installed, swap_program}
use Rattle.model.specs.NoteCalls.{Note, velocity_target, key_target, legato_of, written_at, alternates, note_on_rows, note_begun, velocity_set, key_set, randoms_set, alternated, noted_on, note_off_rows, released_to, voice_ended_rows, ended, note_on, note_off, voice_ended}
use Rattle.model.specs.Calls.{Call, block, other, Other, set-held, set-voice-held, set-base, set-amount, set-output, set-limit, set-draw, start-note, release-note, end-voice, install, lend-program, lend-engine, look, Kept, Runner, kept_of, no_kept, on_world, returned, exchanged, kept_at, program_at, swapped, lent_values, program_arrives, engine_arrives, effect_of, called}
use Rattle.model.specs.Claim.{Named, nothing_wired, Compiled, names_of, fresh_runner, Slotted}
use Rattle.model.proofs.Made.{empty-is-compiled}
use Rattle.model.proofs.Conds.{cond-true, cond-false, cond_of}
use Rattle.model.proofs.Frames.{Frame, frame_on, loaded-frame, drawn-frame, glided-frame, steps-frame, closed-frame}

-- a list with the program of number k as it was
set-program : (l : List Kept) (k j : ℕ) (d : Kept) (values audio tables : List Float)
    → (get_or (set l k (record { program = (get_or l k d).program; values = values; audio = audio; tables = tables })) j d).program ≡ (get_or l j d).program
set-program [] k j d values audio tables = refl
set-program (x ∷ l) zero zero d values audio tables = refl
set-program (x ∷ l) zero (suc j) d values audio tables = refl
set-program (x ∷ l) (suc k) zero d values audio tables = refl
set-program (x ∷ l) (suc k) (suc j) d values audio tables = set-program l k j d values audio tables

-- ---- program and configuration stay

pub record Stays (u v : World) : Type 0 where
  pub program : v.state.program ≡ u.state.program
  pub config : v.state.config ≡ u.state.config

self : (u : World) → Stays u u
self u = record { program = refl; config = refl }

and_then : {u v x : World} → Stays u v → Stays v x → Stays u x
and_then f g = record { program = g.program ∙ f.program; config = g.config ∙ f.config }

of-frame : {u v : World} → Frame u v → Stays u v
of-frame f = record { program = f.program; config = f.config }

done-stays : (rows : List Row) (u v : World) → Stays u v → Stays u (done_by rows u v).world
unfolding done_by
done-stays rows u v s = cond_of (Stays u) (eqb (judged rows) 0) v u s (self u)

-- ---- one part replaced

module _ (u : World) where
  held-put : (m : List Float) → Stays u (put_held u m)
  unfolding put_held
  held-put m = record { program = refl; config = refl }

  globals-put : (m : List Float) → Stays u (put_globals u m)
  unfolding put_globals
  globals-put m = record { program = refl; config = refl }

  bases-put : (m : List Float) → Stays u (put_bases u m)
  unfolding put_bases
  bases-put m = record { program = refl; config = refl }

  state-put : (st : State) → st.program ≡ u.state.program → st.config ≡ u.state.config → Stays u (put_state u st)
  unfolding put_state
  state-put st p c = record { program = p; config = c }

-- ---- a note

module _ (v : ℕ) (n : Note) where
  begun-stays : (u : World) → Stays u (note_begun v n u)
  unfolding with_marks with_voices
  begun-stays u = state-put u (with_marks (with_voices u.state (sounded_on u.state.voices v)) (marks_on u.state.marks v n.legato)) refl refl

  velocity-stays : (u : World) → Stays u (velocity_set v n u)
  unfolding with_velocity
  velocity-stays u =
      let st = with_velocity u.state (set_note u.state.velocity v (velocity_target u n) (legato_of u n) u.state.config.sample_rate) in
      let m = written_at u.state is_velocity u.state.velocity v (velocity_target u n) (legato_of u n) u.held in
      cond_of (Stays u) (not n.legato || u.state.program.velocity_legato) (put_held (put_state u st) m) u
      (and_then (state-put u st refl refl) (held-put (put_state u st) m))
      (self u)

  key-stays : (u : World) → Stays u (key_set v n u)
  unfolding with_key
  key-stays u =
      let st = with_key u.state (set_note u.state.key v (key_target u n) (legato_of u n) u.state.config.sample_rate) in
      and_then (state-put u st refl refl) (held-put (put_state u st) (written_at u.state is_key u.state.key v (key_target u n) (legato_of u n) u.held))

  randoms-stay : (k : ℕ) (u : World) → Stays u (randoms_set v k u)
  unfolding randoms_set with_draw
  randoms-stay zero u = self u
  randoms-stay (suc k) u =
      let b = randoms_set v k u in
      let st = with_draw b.state (step b.state.draw) in
      let m = set b.held (held_place u.state k v) (draw_of (step b.state.draw)) in
      and_then (randoms-stay k u)
      (cond_of (Stays b) (is_random (mark_at u.state k).kind) (put_held (put_state b st) m) b (and_then (state-put b st refl refl) (held-put (put_state b st) m)) (self b))

  alternated-stays : (u : World) → Stays u (alternated v u)
  unfolding with_alternate
  alternated-stays u =
      let on = not u.state.alternate in
      let st = with_alternate u.state on in
      and_then (state-put u st refl refl) (held-put (put_state u st) (alternates u.state on v (engine_sources u.state) u.held))

  noted-stays : (u : World) → Stays u (noted_on v n u)
  noted-stays u =
      let a = note_begun v n u in
      let b = velocity_set v n a in
      let c = key_set v n b in
      let d = randoms_set v (engine_sources u.state) c in
      and_then (begun-stays u)
      (and_then (velocity-stays a)
      (and_then (key-stays b)
      (and_then (randoms-stay (engine_sources u.state) c)
      (and_then (alternated-stays d) (held-put (alternated v d) (held_of (alternated v d).state is_release v zero32 (alternated v d).held))))))

-- ---- a block

pub block-stays : (u : World) (samples : List Float) (signals : Signals) (start end : ℕ) → Stays u (process u samples signals start end).world
unfolding process
block-stays u samples signals start end =
    let b = block_of u.state start end in
    let d = drawn (loaded u) in
    cond_of (Stays u) (eqb (judged (process_rows u samples signals end)) 0 && ltb start end) (over_range samples signals start end u) u
    (cond_of (Stays u) (eqb (route_total u.state.program) 0) (routeless (end - start) u) (routed samples signals start end u)
    (of-frame (frame_on (glided-frame (end - start) u) (closed-frame no_block (end - start) (glided (end - start) u))))
    (of-frame
    (frame_on (loaded-frame u)
    (frame_on (drawn-frame (loaded u))
    (frame_on (steps-frame samples signals b (chunk_total b) d) (closed-frame b (end - start) (chunk_steps samples signals b (chunk_total b) d)))))))
    (self u)

-- ---- each call but a swap and an arriving memory, on the world

module _ (u : World) where
  held_stays : (i : ℕ) (x : Float) → Stays u (set_held u i x).world
  unfolding set_held
  held_stays i x =
      let row = on_row u.held (stride_of u.state) i (replicate (stride_of u.state) x) in
      done-stays (held_rows u i x) u (held_world u i x)
      (cond_of (Stays u) (is_voice (mark_at u.state i).scope) (put_held u row) (put_globals u (set u.globals i x)) (held-put u row) (globals-put u (set u.globals i x)))

  voice-held-stays : (i v : ℕ) (x : Float) → Stays u (set_voice_held u i v x).world
  unfolding set_voice_held
  voice-held-stays i v x =
      let m = set u.held (held_place u.state i v) x in
      done-stays (voice_held_rows u i v x) u (put_held u m) (held-put u m)

  base_stays : (d : ℕ) (x : Float) → Stays u (set_base u d x).world
  unfolding set_base
  base_stays d x = done-stays (base_rows u d x) u (put_bases u (set u.bases d x)) (bases-put u (set u.bases d x))

  amount-stays : (n : ℕ) (x : Float) → Stays u (set_amount u n x).world
  unfolding set_amount with_gains
  amount-stays n x =
      let st = with_gains u.state (with_amount u.state.gains n x) in
      done-stays (gain_rows n x) u (put_state u st) (state-put u st refl refl)

  output-stays : (n : ℕ) (x : Float) → Stays u (set_output u n x).world
  unfolding set_output with_gains
  output-stays n x =
      let st = with_gains u.state (with_output u.state.gains n x) in
      done-stays (gain_rows n x) u (put_state u st) (state-put u st refl refl)

  limit-stays : (n : ℕ) → Stays u (set_voice_limit u n).world
  unfolding set_voice_limit with_limit
  limit-stays n = let st = with_limit u.state (max n 1) in done-stays [] u (put_state u st) (state-put u st refl refl)

  draw-stays : (x : ℕ) → Stays u (set_draw u x).world
  unfolding set_draw with_draw
  draw-stays x = let st = with_draw u.state x in done-stays [] u (put_state u st) (state-put u st refl refl)

  note-on-stays : (v : ℕ) (n : Note) → Stays u (note_on u v n).world
  unfolding note_on
  note-on-stays v n = done-stays (note_on_rows u v n) u (noted_on v n u) (noted-stays v n u)

  note-off-stays : (v : ℕ) (x : Float) → Stays u (note_off u v x).world
  unfolding note_off
  note-off-stays v x = done-stays (note_off_rows u v x) u (released_to v x u) (held-put u (held_of u.state is_release v x u.held))

  ended-stays : (v : ℕ) → Stays u (voice_ended u v).world
  unfolding voice_ended with_key with_velocity with_marks with_voices
  ended-stays v = done-stays (voice_ended_rows u v) u (put_state u (ended u.state v)) (state-put u (ended u.state v) refl refl)

-- ---- the names

-- what is installed, as it comes back
abbrev back : Runner → Kept
back r = record { program = r.world.state.program; values = r.world.values; audio = r.world.audio; tables = r.world.tables }

-- a program that is not installed is the one that is kept
pub other-kept : (r : Runner) (k : ℕ) → k ≢ r.installed → program_at r k ≡ (get_or r.kept k (no_kept r.world.state.config)).program
other-kept r k ne = ap (λ (x : Kept). x.program) (get_or-set_other r.kept r.installed k (back r) (no_kept r.world.state.config) ne)

module _ (names : ℕ → Wiring) (r : Runner) (h : Named names r) where
  -- every program, the installed one among them
  all_named : (k : ℕ) → program_at r k ≡ compiled (names k)
  all_named k = elim (ℕ_discrete k r.installed) [
    | yes q ↦ rw q (ap (λ (x : Kept). x.program) (get_or-set_same r.kept r.installed (back r) (no_kept r.world.state.config) h.there) ∙ h.installed)
    | no ne ↦ h.others k ne
  ]

  world-named : (v : World) → Stays r.world v → Named names (on_world r v)
  world-named v s =
      record {
        installed = s.program ∙ h.installed;
        there = h.there;
        others = λ k ne.
            other-kept (on_world r v) k ne
            ∙ ap (λ (c : Config). (get_or r.kept k (no_kept c)).program) s.config
            ∙ sym (other-kept r k ne)
            ∙ h.others k ne;
        slotted = h.slotted;
      }

  exchanged-named : (k : ℕ) → (swap_program r.world.state (program_at r k)).code ≡ 0 → k < length r.kept → Named names (exchanged r k (kept_at r k))
  unfolding swap_program with_marks with_primed with_gains with_program
  exchanged-named k accepted inside =
      let p = program_at r k in
      let st = (swap_program r.world.state p).state in
      let e : st ≡ installed r.world.state p = cond-true (eqb (judged (swap_rows r.world.state p)) 0) (installed r.world.state p) r.world.state (eq-eqb _ 0 accepted) in
      record {
        installed = ap (λ (s : State). s.program) e ∙ all_named k;
        there = omega (arith, length-set r.kept r.installed (back r));
        others =
            λ j nj.
            other-kept (exchanged r k (kept_at r k)) j nj
            ∙ ap (λ (c : Config). (get_or (returned r) j (no_kept c)).program) (ap (λ (s : State). s.config) e)
            ∙ all_named j;
        slotted = h.slotted;
      }

  swapped-named : (k : ℕ) → Named names (swapped r k)
  swapped-named k = go (which (eqb (swap_program r.world.state (program_at r k)).code 0))
    where
      go : (eqb (swap_program r.world.state (program_at r k)).code 0 ≡ true) ⊎ (eqb (swap_program r.world.state (program_at r k)).code 0 ≡ false) → Named names (swapped r k)
      go (inr e) = subst (Named names) (sym (cond-false (eqb (swap_program r.world.state (program_at r k)).code 0) _ r e)) h
      go (inl e) =
          subst (Named names) (sym (cond-true (eqb (swap_program r.world.state (program_at r k)).code 0) _ r e))
          (elim (which (ltb k (length r.kept))) [
            | inl q ↦
                subst (Named names) (sym (cond-true (ltb k (length r.kept)) (exchanged r k (kept_at r k)) r q))
                (exchanged-named k (eqb-true _ 0 e) (ltb-true k (length r.kept) q))
            | inr q ↦ subst (Named names) (sym (cond-false (ltb k (length r.kept)) (exchanged r k (kept_at r k)) r q)) h
          ])

  arrives-named : (k : ℕ) (values audio tables : List Float) → Named names (program_arrives r k values audio tables)
  arrives-named k values audio tables =
      cond_of (Named names) (eqb k r.installed) (on_world r v) q
      (world-named v (record { program = refl; config = refl }))
      (record {
        installed = h.installed;
        there = omega (arith, length-set (returned r) k p, length-set r.kept r.installed (back r), h.there);
        others = λ j ne. other-kept q j ne ∙ set-program (returned r) k j (no_kept r.world.state.config) values audio tables ∙ all_named j;
        slotted = h.slotted;
      })
    where
      v : World
      v = lent_values r.world values audio tables

      p : Kept
      p = record { program = program_at r k; values = values; audio = audio; tables = tables }

      q : Runner
      q = record { world = r.world; kept = set (returned r) k p; installed = r.installed }

  effect-named : (o : Other) → Named names (effect_of o r).left
  effect-named (set-held i x) = world-named (set_held r.world i x).world (held_stays r.world i x)
  effect-named (set-voice-held i v x) = world-named (set_voice_held r.world i v x).world (voice-held-stays r.world i v x)
  effect-named (set-base d x) = world-named (set_base r.world d x).world (base_stays r.world d x)
  effect-named (set-amount n x) = world-named (set_amount r.world n x).world (amount-stays r.world n x)
  effect-named (set-output n x) = world-named (set_output r.world n x).world (output-stays r.world n x)
  effect-named (set-limit n) = world-named (set_voice_limit r.world n).world (limit-stays r.world n)
  effect-named (set-draw x) = world-named (set_draw r.world x).world (draw-stays r.world x)
  effect-named (start-note v n) = world-named (note_on r.world v n).world (note-on-stays r.world v n)
  effect-named (release-note v x) = world-named (note_off r.world v x).world (note-off-stays r.world v x)
  effect-named (end-voice v) = world-named (voice_ended r.world v).world (ended-stays r.world v)
  effect-named (install k) = swapped-named k
  effect-named (lend-program k values audio tables) = arrives-named k values audio tables
  effect-named (lend-engine held globals bases) = world-named (engine_arrives r.world held globals bases) (record { program = refl; config = refl })
  effect-named look = h

  -- A CALL LEAVES THE NAMES
  pub called-named : (c : Call) → Named names (called c r)
  called-named (block samples signals start end) =
      world-named (process r.world samples signals start end).world (block-stays r.world samples signals start end)
  called-named (other o) = effect-named o

-- ---- a fresh engine

pub new-slots : length new_matrix.slot ≡ slots
unfolding new_matrix empty_slot
new-slots = refl

module _ (c : Config) where
  given : (ps : List Compiled) (k : ℕ) → (get_or (map (λ p. kept_of p.wiring p.tables) ps) k (no_kept c)).program ≡ compiled (get_or (map (λ p. p.wiring) ps) k (nothing_wired c))
  given [] k = sym (empty-is-compiled _ _ c)
  given (p ∷ ps) zero = refl
  given (p ∷ ps) (suc k) = given ps k

  pub given-slots : (ps : List Compiled) → Slotted ps → (k : ℕ) → length (get_or (map (λ p. p.wiring) ps) k (nothing_wired c)).matrix.slot ≡ slots
  given-slots [] s k = new-slots
  given-slots (p ∷ ps) s zero = s.0
  given-slots (p ∷ ps) s (suc k) = given-slots ps s.1 k

  -- EVERY FRESH ENGINE HAS NAMED PROGRAMS
  pub fresh-named : (ss : Sources) (ds : Destinations) (ps : List Compiled) → Slotted ps → Named (names_of c ps) (fresh_runner ss ds c ps)
  unfolding fresh_state
  fresh-named ss ds ps s =
      record {
        installed = sym (empty-is-compiled _ _ c);
        there = omega arith;
        others = others;
        slotted = slotted;
      }
    where
      others : (k : ℕ) → k ≢ 0 → program_at (fresh_runner ss ds c ps) k ≡ compiled (names_of c ps k)
      others zero ne = absurd (ne refl)
      others (suc k) ne = other-kept (fresh_runner ss ds c ps) (suc k) ne ∙ given ps k

      slotted : (k : ℕ) → length (names_of c ps k).matrix.slot ≡ slots
      slotted zero = new-slots
      slotted (suc k) = given-slots ps s k
