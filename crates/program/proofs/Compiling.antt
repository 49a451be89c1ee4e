-- What `compile` gives: where rows 6 and 13 refuse, where row 14 does, and where a program is made. Assumes nothing.
use mathlib.Core.Path.{◌≡◌, refl, sym, ap, ◌∙◌}
use mathlib.Core.Logic.{◌≢◌}
use mathlib.Core.Bool.{Bool, true, false, cond, not, ◌&&◌, ◌||◌}
use mathlib.Core.List.{List, [], ◌∷◌, ◌++◌}
use Prim.Native.Nat.{ℕ, zero, suc, ◌≤◌, ◌<◌, min}
use native.Mathlib.Omega.{arith}
use borrow.Author.Tests.{ne_eqb, ltb-false}
use lib.Dec.{ltb}
use lib.ListN.{length}
use lib.Ieee.{Float}
use Rattle.config.specs.Sizes.{slots, most_voices, most_frames}
use Rattle.config.specs.Configuration.{config_rows, config_code}
use Rattle.config.proofs.Accepted.{Accepted, accepted}
use Rattle.list.proofs.Bools.{or-false-l, or-false-r}
use Rattle.refusal.specs.Judge.{first_of, judged, ◌when◌}
use Rattle.refusal.proofs.Laws.{first_of-zero, first_of-code, judged-append, judged-row, judged-taken, judged-passed, judged-none, number-above}
use Rattle.number.specs.Number.{one32}
use Rattle.state.specs.declared.Program.{Program}
use Rattle.std.specs.Prelude.{Ok, Err}
use Rattle.refusal.specs.Refusal.{number_of}
use Rattle.refusal.specs.declared.Refusal.{Refusal}
use Rattle.program.specs.Answers.{compiled_said}
use Rattle.state.specs.declared.Wiring.{Wiring}
use Rattle.slots_tables.specs.Tables.{tables_need, with_tables, names_table}
use Rattle.model.specs.Wiring.{candidates}
use Rattle.model.specs.Feeds.{plan_order}
use Rattle.model.specs.Plans.{compiled}
use Rattle.model.specs.Compile.{Compiled, answered_by, program_values, program_audio, empty_of, Memories, numbers_allowed, tables_short, memory_short, compile_rows, zeroed, made_in, made_by, compile}
use Rattle.model.proofs.Candidates.{candidates-most}
use Rattle.model.proofs.ProgramLayout.{plans-most}
use Rattle.program.specs.Steps.{early_code, held_values, held_audio, copied}

-- a refusal with its number
abbrev pub refusal : ℕ → Compiled
refusal code = record { code = code; program = empty_of (record { sample_rate = one32; max_frames = 0; voices = 0 }) }

-- an answer by its number
pub answered-refused : (r : Refusal) (k : ℕ) (p : Program) → number_of r ≡ k → compiled_said (Err r) ≡ answered_by k p
answered-refused r k p e =
    let above : 0 < number_of r = number-above r in
    let ne : number_of r ≢ 0 = λ z. omega (arith, z) in
    rw (← e, ne_eqb (number_of r) 0 ne)

pub answered-accepted : (k : ℕ) (p : Program) → 0 ≡ k → compiled_said (Ok p) ≡ answered_by k p
answered-accepted k p e = rw (← e)

first-assoc : (a b c : ℕ) → first_of a (first_of b c) ≡ first_of (first_of a b) c
unfolding first_of
first-assoc zero b c = refl
first-assoc (suc a) b c = refl

first-none : (a b : ℕ) → first_of a b ≡ 0 → (a ≡ 0) × (b ≡ 0)
unfolding first_of
first-none zero b h = (refl, h)
first-none (suc a) b h = absurd (omega arith)

module _ (w : Wiring) (tables : List Float) (l : Memories) where
  early : ℕ
  early = early_code w.matrix tables w.config

  -- row 14 applies
  abbrev pub short : Bool
  short = tables_short w.matrix tables l.tables || memory_short (compiled w) l

  code_is : judged (compile_rows w tables l) ≡ first_of (early_code w.matrix tables w.config) (judged (14 when short ∷ []))
  unfolding early_code config_code
  code_is =
      let rows = config_rows w.config.sample_rate w.config.max_frames w.config.voices in
      judged-row 6 (not (numbers_allowed w.matrix tables)) (rows ++ (14 when short ∷ [])) tt
      ∙ ap (first_of (judged (6 when not (numbers_allowed w.matrix tables) ∷ []))) (judged-append rows (14 when short ∷ []) tt)
      ∙ first-assoc (judged (6 when not (numbers_allowed w.matrix tables) ∷ [])) (judged rows) (judged (14 when short ∷ []))

  by_code : (code : ℕ) → judged (compile_rows w tables l) ≡ code → compile w tables l ≡ made_by code w tables l
  unfolding compile
  by_code code h = ap (λ (n : ℕ). made_by n w tables l) h

  refused-by : (code : ℕ) → code ≢ 0 → judged (compile_rows w tables l) ≡ code → compile w tables l ≡ record { answer = refusal code; lent = l }
  refused-by code h e = by_code code e ∙ simp (ne_eqb code 0 h)

  -- rows 6 and 13
  pub compile-early : (code : ℕ) → early_code w.matrix tables w.config ≡ code → code ≢ 0 → compile w tables l ≡ record { answer = refusal code; lent = l }
  compile-early code e h =
      refused-by code h (code_is ∙ ap (λ (n : ℕ). first_of n (judged (14 when short ∷ []))) e ∙ first_of-code code (judged (14 when short ∷ [])) h)

  -- as a Result says it
  pub compile-early-by : (r : Refusal) → number_of r ≡ early_code w.matrix tables w.config → compile w tables l ≡ record { answer = compiled_said (Err r); lent = l }
  compile-early-by r e =
      let above : 0 < number_of r = number-above r in
      compile-early (number_of r) (sym e) (λ z. omega (arith, z))

  late : early_code w.matrix tables w.config ≡ 0 → judged (compile_rows w tables l) ≡ judged (14 when short ∷ [])
  late e = code_is ∙ ap (λ (n : ℕ). first_of n (judged (14 when short ∷ []))) e ∙ first_of-zero (judged (14 when short ∷ []))

  -- row 14
  pub compile-short : early_code w.matrix tables w.config ≡ 0 → short ≡ true → compile w tables l ≡ record { answer = refusal 14; lent = l }
  compile-short e t = refused-by 14 (λ z. omega arith) (late e ∙ judged-taken (14 when short) [] t)

  -- accepted
  pub compile-made : early_code w.matrix tables w.config ≡ 0 → short ≡ false → compile w tables l ≡ record { answer = record { code = 0; program = compiled w }; lent = made_in w tables l }
  compile-made e t = by_code 0 (late e ∙ judged-passed (14 when short) [] t ∙ judged-none)

-- ---- needs: no count of a compiled program is above its limit

module _ (w : Wiring) (tables : List Float) (slotted : length w.matrix.slot ≡ slots) (e : early_code w.matrix tables w.config ≡ 0) where
  allowed : Accepted w.config.sample_rate w.config.max_frames w.config.voices
  unfolding early_code
  allowed = accepted _ _ _ (first-none (judged (6 when not (numbers_allowed w.matrix tables) ∷ [])) _ e).1

  voices-held : min w.config.voices most_voices ≡ w.config.voices
  voices-held = omega (arith, allowed.voices_most)

  frames-held : min w.config.max_frames most_frames ≡ w.config.max_frames
  frames-held = omega (arith, allowed.frames_most)

  plans-held : min (length (plan_order w)) slots ≡ length (plan_order w)
  plans-held = omega (arith, plans-most w slotted)

  routes-held : min (length (candidates w)) slots ≡ length (candidates w)
  routes-held = omega (arith, candidates-most w slotted)

  pub values-held : held_values (compiled w) ≡ program_values (compiled w)
  unfolding held_values compiled
  values-held = rw (voices-held, frames-held, plans-held, routes-held)

  pub audio-held : held_audio (compiled w) ≡ program_audio (compiled w)
  unfolding held_audio compiled
  audio-held = rw (voices-held, frames-held, plans-held)

-- ---- tables

abbrev bit : Bool → ℕ
bit true = 1
bit false = 0

pub copied-made : (named : Bool) (to from : List Float) → named && (ltb (length from) tables_need || ltb (length to) tables_need) ≡ false → copied named to from ≡ cond named (with_tables to from) to
unfolding copied
copied-made named to from h = go named (ltb (length from) tables_need) (ltb (length to) tables_need) h
  where
    go : (n f t : Bool) → n && (f || t) ≡ false → cond (n && not (t || f)) (with_tables to from) to ≡ cond n (with_tables to from) to
    go true false false h = refl
    go true false true h = absurd (omega (arith, ap bit h))
    go true true t h = absurd (omega (arith, ap bit h))
    go false f t h = refl

-- ---- the steps of the code

module _ (w : Wiring) (tables : List Float) (l : Memories) (slotted : length w.matrix.slot ≡ slots) (e : early_code w.matrix tables w.config ≡ 0) (p : Program) (is : p ≡ compiled w) where
  -- what the code asks of the tables, and of the program's own memories
  abbrev pub tables-test : Bool
  tables-test = p.tabled && (ltb (length tables) tables_need || ltb (length l.tables) tables_need)

  abbrev pub memory-test : Bool
  memory-test = ltb (length l.values) (held_values p) || ltb (length l.audio) (held_audio p)

  tables-are : tables-test ≡ tables_short w.matrix tables l.tables
  unfolding compiled
  tables-are = ap (λ (q : Program). q.tabled && (ltb (length tables) tables_need || ltb (length l.tables) tables_need)) is

  memory-are : memory-test ≡ memory_short (compiled w) l
  memory-are =
      ap (λ (q : Program). ltb (length l.values) (held_values q) || ltb (length l.audio) (held_audio q)) is
      ∙ ap (λ (n : ℕ). ltb (length l.values) n || ltb (length l.audio) (held_audio (compiled w))) (values-held w tables slotted e)
      ∙ ap (λ (n : ℕ). ltb (length l.values) (program_values (compiled w)) || ltb (length l.audio) n) (audio-held w tables slotted e)

  pub refused-by-tables : tables-test ≡ true → compile w tables l ≡ record { answer = refusal 14; lent = l }
  refused-by-tables t = compile-short w tables l e (simp (sym tables-are ∙ t))

  pub refused-by-memory : tables-test ≡ false → memory-test ≡ true → compile w tables l ≡ record { answer = refusal 14; lent = l }
  refused-by-memory t m = compile-short w tables l e (simp (sym tables-are ∙ t, sym memory-are ∙ m))

  abbrev pub made-memories : Memories
  made-memories =
      record {
        values = zeroed (held_values p) l.values;
        audio = zeroed (held_audio p) l.audio;
        tables = copied p.tabled l.tables tables;
      }

  named-are : p.tabled ≡ names_table w.matrix
  unfolding compiled
  named-are = ap (λ (q : Program). q.tabled) is

  values-need-is : held_values p ≡ program_values (compiled w)
  values-need-is = ap held_values is ∙ values-held w tables slotted e

  audio-need-is : held_audio p ≡ program_audio (compiled w)
  audio-need-is = ap held_audio is ∙ audio-held w tables slotted e

  memories-are : tables-test ≡ false → made-memories ≡ made_in w tables l
  memories-are t =
      ap (λ (m : List Float). record { values = zeroed (held_values p) l.values; audio = zeroed (held_audio p) l.audio; tables = m }) (copied-made p.tabled l.tables tables t)
      ∙ ap (λ (b : Bool). record { values = zeroed (held_values p) l.values; audio = zeroed (held_audio p) l.audio; tables = cond b (with_tables l.tables tables) l.tables }) named-are
      ∙ ap (λ (n : ℕ). record { values = zeroed n l.values; audio = zeroed (held_audio p) l.audio; tables = cond (names_table w.matrix) (with_tables l.tables tables) l.tables }) values-need-is
      ∙ ap (λ (n : ℕ). record { values = zeroed (program_values (compiled w)) l.values; audio = zeroed n l.audio; tables = cond (names_table w.matrix) (with_tables l.tables tables) l.tables }) audio-need-is

  pub made : tables-test ≡ false → memory-test ≡ false → compile w tables l ≡ record { answer = record { code = 0; program = p }; lent = made-memories }
  made t m =
      compile-made w tables l e (simp (sym tables-are ∙ t, sym memory-are ∙ m))
      ∙ ap (λ (q : Program). record { answer = record { code = 0; program = q }; lent = made_in w tables l }) (sym is)
      ∙ ap (λ (x : Memories). record { answer = record { code = 0; program = p }; lent = x }) (sym (memories-are t))

  -- both memories hold what the program needs
  pub values-fit : memory-test ≡ false → held_values p ≤ length l.values
  values-fit m = ltb-false (length l.values) (held_values p) (or-false-l (ltb (length l.values) (held_values p)) (ltb (length l.audio) (held_audio p)) m)

  pub audio-fits : memory-test ≡ false → held_audio p ≤ length l.audio
  audio-fits m = ltb-false (length l.audio) (held_audio p) (or-false-r (ltb (length l.values) (held_values p)) (ltb (length l.audio) (held_audio p)) m)
