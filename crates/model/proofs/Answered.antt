-- A STEP THAT IS ANSWERED IS THE MODEL'S: what a call's own promise says, with what was not lent as it was, is what the definitions leave, and its number theirs.
-- Assumes nothing.
use mathlib.Core.Path.{◌≡◌, sym, ap, ◌∙◌}
use mathlib.Core.Logic.{inl, inr}
use mathlib.Core.Bool.{Bool, true, false, cond, true≢false}
use mathlib.Core.List.{List}
use Prim.Native.Nat.{ℕ}
use lib.Dec.{eqb, ltb}
use lib.ListN.{length, set}
use borrow.Author.Tests.{eq-eqb, eqb-true, lt-ltb}
use Rattle.refusal.specs.Judge.{judged}
use Rattle.feed.proofs.Tests.{which}
use Rattle.state.specs.declared.Program.{Program}
use Rattle.state.specs.declared.State.{State}
use Rattle.model.specs.World.{World, world_of}
use Rattle.model.specs.Settings.{done_by, set_held, set_voice_held, set_base, set_amount, set_output, set_voice_limit, set_draw, swap_program, swap_rows, installed}
use Rattle.model.specs.NoteCalls.{note_on, note_off, voice_ended}
use Rattle.model.specs.Process.{process}
use Rattle.model.specs.Calls.{Other, set-held, set-voice-held, set-base, set-amount, set-output, set-limit, set-draw, start-note, release-note, end-voice, install, lend-program, lend-engine, look, Call, block, other, Kept, Runner, on_world, kept_at, program_at, exchanged, swapped, effect_of, called, code_of}
use Rattle.model.specs.Answered.{ProgramsStay, Installs, AnsweredBy, Answered}
use Rattle.model.proofs.Conds.{cond-true, cond-false}
use Rattle.model.proofs.LentToRead.{block-spares, note-tables}
use Rattle.model.proofs.LentFrames.{held_tables, held-frame, voice-held-frame, base-frame, amount-frame, output-frame, limit-frame, draw-frame, note-on-frame, note-off-frame, ended-frame}

-- ---- by parts

world-is : {u v : World} → u.state ≡ v.state → u.held ≡ v.held → u.globals ≡ v.globals → u.bases ≡ v.bases → u.values ≡ v.values → u.audio ≡ v.audio → u.tables ≡ v.tables → u ≡ v
world-is {u = u} {v = v} a b c d e f g =
    let q : world_of u.state u.held u.globals u.bases u.values u.audio u.tables ≡ world_of v.state v.held v.globals v.bases v.values v.audio v.tables = cc (a, b, c, d, e, f, g) in q

runner-of : World → List Kept → ℕ → Runner
runner-of w ks i = record { world = w; kept = ks; installed = i }

runner-is : (q : Runner) (w : World) (ks : List Kept) (i : ℕ) → q.world ≡ w → q.kept ≡ ks → q.installed ≡ i → q ≡ record { world = w; kept = ks; installed = i }
unfolding runner-of
runner-is q w ks i a b c = let e : runner-of q.world q.kept q.installed ≡ runner-of w ks i = cc (a, b, c) in e

on-is : (r q : Runner) (w : World) → ProgramsStay r q → q.world ≡ w → q ≡ on_world r w
on-is r q w s e = runner-is q w r.kept r.installed e s.0 s.1

-- ---- a program is installed

not-both : (b : Bool) → b ≡ true → b ≡ false → ⊥
not-both b s t = let z : true ≡ false = sym s ∙ t in true≢false z

module _ (k : ℕ) (r : Runner) (n : ℕ) (q : Runner) (h : Installs k r n q) where
  abbrev p : Program
  p = program_at r k

  abbrev st : State
  st = r.world.state

  accepts : eqb (swap_program st p).code 0 ≡ true → q ≡ swapped r k
  unfolding swap_program
  accepts t =
      let e = h.accepted (h.promise.0 ∙ eqb-true (swap_program st p).code 0 t) in
      let back = h.promise.1.1 ∙ cond-true (eqb (judged (swap_rows st p)) 0) st.program p t in
      let kept : q.kept ≡ set r.kept r.installed (record { program = st.program; values = r.world.values; audio = r.world.audio; tables = r.world.tables }) =
      e.kept
      ∙ ap (λ (x : Program). set r.kept r.installed (record { program = x; values = r.world.values; audio = r.world.audio; tables = r.world.tables })) back in
      runner-is q (exchanged r k (kept_at r k)).world (exchanged r k (kept_at r k)).kept k
      (world-is h.promise.1.0 h.engine.0 h.engine.1.0 h.engine.1.1 e.values e.audio e.tables)
      kept
      e.installed
      ∙ sym (cond-true (ltb k (length r.kept)) (exchanged r k (kept_at r k)) r (lt-ltb k (length r.kept) h.there))
      ∙ sym (cond-true (eqb (swap_program st p).code 0) (cond (ltb k (length r.kept)) (exchanged r k (kept_at r k)) r) r t)

  refuses : eqb (swap_program st p).code 0 ≡ false → q ≡ swapped r k
  unfolding swap_program
  refuses t =
      let e = h.refused (λ z. not-both (eqb (swap_program st p).code 0) (eq-eqb (swap_program st p).code 0 (sym h.promise.0 ∙ z)) t) in
      on-is r q r.world e.1.1
      (world-is (h.promise.1.0 ∙ cond-false (eqb (judged (swap_rows st p)) 0) (installed st p) st t) h.engine.0 h.engine.1.0 h.engine.1.1 e.0.0 e.0.1 e.1.0)
      ∙ sym (cond-false (eqb (swap_program st p).code 0) (cond (ltb k (length r.kept)) (exchanged r k (kept_at r k)) r) r t)

  installs-is : q ≡ swapped r k
  installs-is = elim (which (eqb (swap_program st p).code 0)) [ inl t ↦ accepts t | inr t ↦ refuses t ]

-- ---- the other calls

module _ (r : Runner) (n : ℕ) (q : Runner) where
  abbrev u : World
  u = r.world

  other-is : (o : Other) → AnsweredBy (other o) r n q → q ≡ (effect_of o r).left
  other-is (set-held i x) (p, s) =
      on-is r q _ s.1.1.1 (world-is p.1.0 p.1.1.0 p.1.1.1 s.0 s.1.0.0 s.1.0.1 s.1.1.0)
      ∙ ap (on_world r) (sym (held-frame u i x))
  other-is (set-voice-held i v x) (p, s) =
      on-is r q _ s.1.1.1.1 (world-is p.1.0 p.1.1 s.0 s.1.0 s.1.1.0.0 s.1.1.0.1 s.1.1.1.0)
      ∙ ap (on_world r) (sym (voice-held-frame u i v x))
  other-is (set-base d x) (p, s) =
      on-is r q _ s.1.1.1.1 (world-is p.1.0 s.0 s.1.0 p.1.1 s.1.1.0.0 s.1.1.0.1 s.1.1.1.0)
      ∙ ap (on_world r) (sym (base-frame u d x))
  other-is (set-amount i x) (p, s) =
      on-is r q _ s.1.1.1.1.1 (world-is p.1 s.0 s.1.0 s.1.1.0 s.1.1.1.0.0 s.1.1.1.0.1 s.1.1.1.1.0)
      ∙ ap (on_world r) (sym (amount-frame u i x))
  other-is (set-output i x) (p, s) =
      on-is r q _ s.1.1.1.1.1 (world-is p.1 s.0 s.1.0 s.1.1.0 s.1.1.1.0.0 s.1.1.1.0.1 s.1.1.1.1.0)
      ∙ ap (on_world r) (sym (output-frame u i x))
  other-is (set-limit m) (p, s) =
      on-is r q _ s.1.1.1.1.1 (world-is p.1 s.0 s.1.0 s.1.1.0 s.1.1.1.0.0 s.1.1.1.0.1 s.1.1.1.1.0)
      ∙ ap (on_world r) (sym (limit-frame u m))
  other-is (set-draw x) (p, s) =
      on-is r q _ s.1.1.1.1.1 (world-is p.0 s.0 s.1.0 s.1.1.0 s.1.1.1.0.0 s.1.1.1.0.1 s.1.1.1.1.0)
      ∙ ap (on_world r) (sym (draw-frame u x))
  other-is (start-note v note) (p, s) =
      on-is r q _ s.1.1.1.1
      (world-is p.1.0 p.1.1 s.0 s.1.0 s.1.1.0.0 s.1.1.0.1 (s.1.1.1.0 ∙ sym (note-tables v note (held_tables u))))
      ∙ ap (on_world r) (sym (note-on-frame u v note))
  other-is (release-note v x) (p, s) =
      on-is r q _ s.1.1.1.1 (world-is p.1.0 p.1.1 s.0 s.1.0 s.1.1.0.0 s.1.1.0.1 s.1.1.1.0)
      ∙ ap (on_world r) (sym (note-off-frame u v x))
  other-is (end-voice v) (p, s) =
      on-is r q _ s.1.1.1.1.1 (world-is p.1 s.0 s.1.0 s.1.1.0 s.1.1.1.0.0 s.1.1.1.0.1 s.1.1.1.1.0)
      ∙ ap (on_world r) (sym (ended-frame u v))
  other-is (install k) (p, s) = installs-is k r n q p
  other-is (lend-program k values audio tables) (p, s) = p.0
  other-is (lend-engine held globals bases) (p, s) = p.0
  other-is look (p, s) = p.0

  other-code : (o : Other) → AnsweredBy (other o) r n q → n ≡ (effect_of o r).code
  unfolding done_by set_held set_voice_held set_base set_amount set_output set_voice_limit set_draw note_on note_off voice_ended judged
  other-code (set-held i x) (p, s) = p.0
  other-code (set-voice-held i v x) (p, s) = p.0
  other-code (set-base d x) (p, s) = p.0
  other-code (set-amount i x) (p, s) = p.0
  other-code (set-output i x) (p, s) = p.0
  other-code (set-limit m) (p, s) = p.0
  other-code (set-draw x) (p, s) = p.1
  other-code (start-note v note) (p, s) = p.0
  other-code (release-note v x) (p, s) = p.0
  other-code (end-voice v) (p, s) = p.0
  other-code (install k) (p, s) = p.promise.0
  other-code (lend-program k values audio tables) (p, s) = p.1
  other-code (lend-engine held globals bases) (p, s) = p.1
  other-code look (p, s) = p.1

  by-is : (c : Call) → AnsweredBy c r n q → q ≡ called c r
  by-is (block samples signals start end) (a, (l, (bases, (tables, s)))) =
      let f = block-spares u samples signals start end in
      on-is r q (process u samples signals start end).world s
      (world-is a.1 l.0 l.1.0 (bases ∙ sym f.bases) l.1.1.0 l.1.1.1 (tables ∙ sym f.tables))
  by-is (other o) a = other-is o a

  by-code : (c : Call) → AnsweredBy c r n q → n ≡ code_of c r
  by-code (block samples signals start end) a = a.0.0
  by-code (other o) a = other-code o a

-- A STEP THAT IS ANSWERED IS THE MODEL'S
pub answered-is : (c : Call) (r q : Runner) → Answered c r q → q ≡ called c r
answered-is c r q a = by-is r a.code q c a.answered

-- and its number is
pub answered-code : (c : Call) (r q : Runner) (a : Answered c r q) → a.code ≡ code_of c r
answered-code c r q a = by-code r a.code q c a.answered
