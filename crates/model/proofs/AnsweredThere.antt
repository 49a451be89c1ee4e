-- EVERY CALL HAS AN ANSWERED STEP: what the definitions leave is what the call's promise asks, with what was not lent as it was. So no list of calls is without a session,
-- as long as each program that is installed is there. Assumes nothing.
use mathlib.Core.Path.{◌≡◌, refl, sym, ap, subst, ◌∙◌}
use mathlib.Core.Logic.{inl, inr}
use mathlib.Core.Bool.{Bool, true, false, cond, true≢false}
use mathlib.Core.List.{List, [], ◌∷◌}
use Prim.Native.Nat.{ℕ, ◌<◌}
use lib.Dec.{eqb, ltb}
use lib.ListN.{length}
use borrow.Author.Tests.{eq-eqb, eqb-true, lt-ltb}
use Rattle.refusal.specs.Judge.{judged}
use Rattle.feed.proofs.Tests.{which}
use Rattle.state.specs.declared.Program.{Program}
use Rattle.state.specs.declared.State.{State}
use Rattle.model.specs.World.{World}
use Rattle.model.specs.Settings.{done_by, set_held, set_voice_held, set_base, set_amount, set_output, set_voice_limit, set_draw, swap_program, swap_rows, installed}
use Rattle.model.specs.NoteCalls.{note_on, note_off, voice_ended}
use Rattle.model.specs.Process.{process}
use Rattle.model.specs.Calls.{Other, set-held, set-voice-held, set-base, set-amount, set-output, set-limit, set-draw, start-note, release-note, end-voice, install, lend-program, lend-engine, look, Call, block, other, Runner, kept_at, program_at, exchanged, swapped, effect_of, called, run}
use Rattle.model.specs.Answered.{Installs, AnsweredBy, Answered, Session, done, step}
use Rattle.model.proofs.Conds.{cond-true, cond-false}
use Rattle.model.proofs.LentToRead.{block-spares, note-tables}
use Rattle.model.proofs.LentFrames.{held-frame, voice-held-frame, base-frame, amount-frame, output-frame, limit-frame, draw-frame, note-on-frame, note-off-frame, ended-frame}

-- a program that is installed is there
abbrev pub Names : Call → Runner → Type 0
Names (block samples signals start end) r = Unit {0}
Names (other (set-held i x)) r = Unit {0}
Names (other (set-voice-held i v x)) r = Unit {0}
Names (other (set-base d x)) r = Unit {0}
Names (other (set-amount i x)) r = Unit {0}
Names (other (set-output i x)) r = Unit {0}
Names (other (set-limit n)) r = Unit {0}
Names (other (set-draw x)) r = Unit {0}
Names (other (start-note v n)) r = Unit {0}
Names (other (release-note v x)) r = Unit {0}
Names (other (end-voice v)) r = Unit {0}
Names (other (install k)) r = k < length r.kept
Names (other (lend-program k values audio tables)) r = Unit {0}
Names (other (lend-engine held globals bases)) r = Unit {0}
Names (other look) r = Unit {0}

abbrev pub AllNamed : List Call → Runner → Type 0
AllNamed [] r = Unit {0}
AllNamed (c ∷ cs) r = Names c r × AllNamed cs (called c r)

-- ---- a program is installed

module _ (k : ℕ) (r : Runner) (there : k < length r.kept) where
  abbrev p : Program
  p = program_at r k

  abbrev st : State
  st = r.world.state

  abbrev n : ℕ
  n = (swap_program st p).code

  no : {A : Type 0} (b : Bool) → b ≡ true → b ≡ false → A
  no b s t = absurd (true≢false (sym s ∙ t))

  accepts : eqb n 0 ≡ true → Installs k r n (swapped r k)
  unfolding swap_program
  accepts t =
      let q = exchanged r k (kept_at r k) in
      let e : swapped r k ≡ q =
      cond-true (eqb n 0) (cond (ltb k (length r.kept)) q r) r t
      ∙ cond-true (ltb k (length r.kept)) q r (lt-ltb k (length r.kept) there) in
      subst (Installs k r n) (sym e)
      (record {
        there = there;
        back = st.program;
        promise = (refl, (refl, sym (cond-true (eqb (judged (swap_rows st p)) 0) st.program p t)));
        engine = (refl, (refl, refl));
        accepted = λ z. record { kept = refl; installed = refl; values = refl; audio = refl; tables = refl };
        refused = λ ne. absurd (ne (eqb-true n 0 t));
      })

  refuses : eqb n 0 ≡ false → Installs k r n (swapped r k)
  unfolding swap_program
  refuses t =
      let e : swapped r k ≡ r = cond-false (eqb n 0) (cond (ltb k (length r.kept)) (exchanged r k (kept_at r k)) r) r t in
      subst (Installs k r n) (sym e)
      (record {
        there = there;
        back = p;
        promise =
            (refl, (sym (cond-false (eqb (judged (swap_rows st p)) 0) (installed st p) st t), sym (cond-false (eqb (judged (swap_rows st p)) 0) st.program p t)));
        engine = (refl, (refl, refl));
        accepted = λ z. no (eqb n 0) (eq-eqb n 0 z) t;
        refused = λ ne. ((refl, refl), (refl, (refl, refl)));
      })

  installs : Installs k r n (swapped r k)
  installs = elim (which (eqb n 0)) [ inl t ↦ accepts t | inr t ↦ refuses t ]

-- ---- every call

module _ (r : Runner) where
  abbrev u : World
  u = r.world

  other-there : (o : Other) → Names (other o) r → AnsweredBy (other o) r (effect_of o r).code (effect_of o r).left
  unfolding done_by set_held set_voice_held set_base set_amount set_output set_voice_limit set_draw note_on note_off voice_ended judged
  other-there (set-held i x) z =
      let f = held-frame u i x in (
        (refl, (ap (λ (v : World). v.state) f, (ap (λ (v : World). v.held) f, ap (λ (v : World). v.globals) f))),
        (ap (λ (v : World). v.bases) f, ((ap (λ (v : World). v.values) f, ap (λ (v : World). v.audio) f), (ap (λ (v : World). v.tables) f, (refl, refl)))),
      )
  other-there (set-voice-held i v x) z =
      let f = voice-held-frame u i v x in (
        (refl, (ap (λ (v : World). v.state) f, ap (λ (v : World). v.held) f)),
        (ap (λ (v : World). v.globals) f, (ap (λ (v : World). v.bases) f, ((ap (λ (v : World). v.values) f, ap (λ (v : World). v.audio) f), (ap (λ (v : World). v.tables) f, (refl, refl))))),
      )
  other-there (set-base d x) z =
      let f = base-frame u d x in (
        (refl, (ap (λ (v : World). v.state) f, ap (λ (v : World). v.bases) f)),
        (ap (λ (v : World). v.held) f, (ap (λ (v : World). v.globals) f, ((ap (λ (v : World). v.values) f, ap (λ (v : World). v.audio) f), (ap (λ (v : World). v.tables) f, (refl, refl))))),
      )
  other-there (set-amount i x) z =
      let f = amount-frame u i x in (
        (refl, ap (λ (v : World). v.state) f),
        (ap (λ (v : World). v.held) f, (ap (λ (v : World). v.globals) f, (ap (λ (v : World). v.bases) f, ((ap (λ (v : World). v.values) f, ap (λ (v : World). v.audio) f), (ap (λ (v : World). v.tables) f, (refl, refl)))))),
      )
  other-there (set-output i x) z =
      let f = output-frame u i x in (
        (refl, ap (λ (v : World). v.state) f),
        (ap (λ (v : World). v.held) f, (ap (λ (v : World). v.globals) f, (ap (λ (v : World). v.bases) f, ((ap (λ (v : World). v.values) f, ap (λ (v : World). v.audio) f), (ap (λ (v : World). v.tables) f, (refl, refl)))))),
      )
  other-there (set-limit m) z =
      let f = limit-frame u m in (
        (refl, ap (λ (v : World). v.state) f),
        (ap (λ (v : World). v.held) f, (ap (λ (v : World). v.globals) f, (ap (λ (v : World). v.bases) f, ((ap (λ (v : World). v.values) f, ap (λ (v : World). v.audio) f), (ap (λ (v : World). v.tables) f, (refl, refl)))))),
      )
  other-there (set-draw x) z =
      let f = draw-frame u x in (
        (ap (λ (v : World). v.state) f, refl),
        (ap (λ (v : World). v.held) f, (ap (λ (v : World). v.globals) f, (ap (λ (v : World). v.bases) f, ((ap (λ (v : World). v.values) f, ap (λ (v : World). v.audio) f), (ap (λ (v : World). v.tables) f, (refl, refl)))))),
      )
  other-there (start-note v m) z =
      let f = note-on-frame u v m in (
        (refl, (ap (λ (v : World). v.state) f, ap (λ (v : World). v.held) f)),
        (ap (λ (v : World). v.globals) f, (ap (λ (v : World). v.bases) f, ((ap (λ (v : World). v.values) f, ap (λ (v : World). v.audio) f), (note-tables v m u, (refl, refl))))),
      )
  other-there (release-note v x) z =
      let f = note-off-frame u v x in (
        (refl, (ap (λ (v : World). v.state) f, ap (λ (v : World). v.held) f)),
        (ap (λ (v : World). v.globals) f, (ap (λ (v : World). v.bases) f, ((ap (λ (v : World). v.values) f, ap (λ (v : World). v.audio) f), (ap (λ (v : World). v.tables) f, (refl, refl))))),
      )
  other-there (end-voice v) z =
      let f = ended-frame u v in (
        (refl, ap (λ (v : World). v.state) f),
        (ap (λ (v : World). v.held) f, (ap (λ (v : World). v.globals) f, (ap (λ (v : World). v.bases) f, ((ap (λ (v : World). v.values) f, ap (λ (v : World). v.audio) f), (ap (λ (v : World). v.tables) f, (refl, refl)))))),
      )
  other-there (install k) z = (installs k r z, tt)
  other-there (lend-program k values audio tables) z = ((refl, refl), tt)
  other-there (lend-engine held globals bases) z = ((refl, refl), tt)
  other-there look z = ((refl, refl), tt)

  -- A CALL HAS AN ANSWERED STEP
  pub answered-there : (c : Call) → Names c r → Answered c r (called c r)
  answered-there (block samples signals start end) z =
      let f = block-spares u samples signals start end in
      record {
        code = (process u samples signals start end).code;
        answered = ((refl, refl), ((refl, (refl, (refl, refl))), (f.bases, (f.tables, (refl, refl)))));
      }
  answered-there (other o) z = record { code = (effect_of o r).code; answered = other-there o z }

-- AND A LIST OF THEM A SESSION
pub session-there : (cs : List Call) (r : Runner) → AllNamed cs r → Session cs r (run cs r)
unfolding run
session-there [] r z = done
session-there (c ∷ cs) r z = step (answered-there r c z.0) (session-there cs (called c r) z.1)
