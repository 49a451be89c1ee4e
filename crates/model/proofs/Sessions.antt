-- SESSIONS OF CALLS IN CODE, as specs/Answered.antt has them, end in what the model gives, and the claim holds of them, from every engine that `new` returned with programs that `compile` returned.
-- Assumes nothing.
use mathlib.Core.Path.{◌≡◌, refl, sym, ap, ap₂, ◌∙◌}
use mathlib.Core.Logic.{◌≢◌}
use mathlib.Core.Bool.{true}
use mathlib.Core.List.{List, [], ◌∷◌, ◌++◌, map}
use Prim.Native.Nat.{ℕ, zero, suc, ◌-◌, ◌*◌}
use native.Mathlib.Omega.{arith}
use lib.Dec.{eqb}
use lib.ListN.{length, get_or, drop, replicate}
use lib.Ieee.{Float}
use borrow.Author.Tests.{eq-eqb}
use Rattle.config.specs.Sizes.{slots}
use Rattle.config.specs.declared.Config.{Config}
use Rattle.refusal.specs.Judge.{judged}
use Rattle.list.specs.Part.{part, on_part}
use Rattle.number.specs.Number.{zero32}
use Rattle.slots_tables.specs.Tables.{tables_need, with_tables, names_table}
use Rattle.state.specs.declared.Sources.{Sources}
use Rattle.state.specs.declared.Destinations.{Destinations}
use Rattle.state.specs.declared.State.{State}
use Rattle.model.specs.Plans.{compiled}
use Rattle.model.specs.Compile.{Memories, program_values, program_audio, zeroed, made_in, compile_rows, compile}
use Rattle.model.specs.Counts.{stride_of, engine_sources, engine_dests}
use Rattle.model.specs.World.{World, world_of}
use Rattle.model.specs.States.{put_state, put_held, put_globals, put_bases}
use Rattle.model.specs.Settings.{fresh_state, fresh_world, refused_state, new_rows, new_engine}
use Rattle.model.specs.Calls.{Call, Kept, Runner, no_kept, program_at, run}
use Rattle.model.specs.Answered.{Session, done, step, KeptBy, AllKept, Begun}
use Rattle.model.specs.Claim.{Named, nothing_wired, Compiled, names_of, Slotted}
use Rattle.model.specs.Sessions.{SessionClaim}
use Rattle.model.proofs.Conds.{cond-true}
use Rattle.model.proofs.Made.{empty-is-compiled}
use Rattle.model.proofs.NamedHolds.{other-kept, new-slots, given-slots}
use Rattle.model.proofs.Claim.{the-claim, compile-named}
use Rattle.model.proofs.Answered.{answered-is}

-- 0 up to n, and beyond it as it came
zeroed-is : (n : ℕ) (m : List Float) → zeroed n m ≡ replicate n zero32 ++ drop n m
unfolding zeroed on_part
zeroed-is n m = ap (λ (k : ℕ). replicate n zero32 ++ drop k m) (let e : n - 0 ≡ n = omega arith in e)

-- ---- what compiling leaves

module _ (p : Compiled) (k : Kept) (b : KeptBy p k) where
  compile-accepted : (compile p.wiring p.tables b.lent).answer.code ≡ 0
  compile-accepted = sym (ap (λ x. x.code) b.answers)

  -- A PROGRAM THAT `compile` RETURNED, ACCEPTED, IS WHAT ITS WIRING COMPILES TO
  pub compile-keeps : k.program ≡ compiled p.wiring
  compile-keeps = ap (λ x. x.program) b.answers ∙ compile-named p.wiring p.tables b.lent compile-accepted

  made-in : record { values = k.values; audio = k.audio; tables = k.tables } ≡ made_in p.wiring p.tables b.lent
  unfolding compile
  made-in = b.lent_after ∙ cond-true (eqb (judged (compile_rows p.wiring p.tables b.lent)) 0) (made_in p.wiring p.tables b.lent) b.lent (eq-eqb _ 0 compile-accepted)

  -- its memories are 0 up to its need, and beyond it as they came
  pub compile-values : k.values ≡ replicate (program_values (compiled p.wiring)) zero32 ++ drop (program_values (compiled p.wiring)) b.lent.values
  compile-values = ap (λ (m : Memories). m.values) made-in ∙ zeroed-is _ _

  pub compile-audio : k.audio ≡ replicate (program_audio (compiled p.wiring)) zero32 ++ drop (program_audio (compiled p.wiring)) b.lent.audio
  compile-audio = ap (λ (m : Memories). m.audio) made-in ∙ zeroed-is _ _

  -- where its matrix names a table, its tables are those that its name stands for, and beyond them as they came
  pub compile-tables : names_table p.wiring.matrix ≡ true → k.tables ≡ part p.tables 0 tables_need ++ drop tables_need b.lent.tables
  unfolding with_tables on_part
  compile-tables e = ap (λ (m : Memories). m.tables) made-in ∙ cond-true (names_table p.wiring.matrix) (with_tables b.lent.tables p.tables) b.lent.tables e

-- ---- the start

module _ (ss : Sources) (ds : Destinations) (c : Config) (ps : List Compiled) (r : Runner) (b : Begun ss ds c ps r) where
  abbrev lent : World
  lent = world_of refused_state b.held b.globals b.bases [] [] []

  made : (new_engine ss ds c lent).world ≡ fresh_world ss ds c lent
  unfolding new_engine
  made = cond-true (eqb (judged (new_rows ss ds c lent)) 0) (fresh_world ss ds c lent) (put_state lent refused_state) (eq-eqb _ 0 (sym b.answers.0))

  -- the engine is the fresh one
  pub new-state : r.world.state ≡ fresh_state ss ds c
  unfolding put_bases put_globals put_held put_state
  new-state = b.answers.1 ∙ ap (λ (w : World). w.state) made

  -- its memories are 0 up to their needs, and beyond them as they came
  pub new-held : r.world.held
      ≡ replicate (stride_of (fresh_state ss ds c) * engine_sources (fresh_state ss ds c)) zero32
      ++ drop (stride_of (fresh_state ss ds c) * engine_sources (fresh_state ss ds c)) b.held
  unfolding put_bases put_globals put_held put_state
  new-held = b.lent_after.0 ∙ ap (λ (w : World). w.held) made ∙ zeroed-is _ _

  pub new-globals : r.world.globals ≡ replicate (engine_sources (fresh_state ss ds c)) zero32 ++ drop (engine_sources (fresh_state ss ds c)) b.globals
  unfolding put_bases put_globals put_held put_state
  new-globals = b.lent_after.1.0 ∙ ap (λ (w : World). w.globals) made ∙ zeroed-is _ _

  pub new-bases : r.world.bases ≡ replicate (engine_dests (fresh_state ss ds c)) zero32 ++ drop (engine_dests (fresh_state ss ds c)) b.bases
  unfolding put_bases put_globals put_held put_state
  new-bases = b.lent_after.1.1 ∙ ap (λ (w : World). w.bases) made ∙ zeroed-is _ _

  given-by : (ps : List Compiled) (ks : List Kept) → AllKept ps ks → (k : ℕ) → (get_or ks k (no_kept c)).program ≡ compiled (get_or (map (λ p. p.wiring) ps) k (nothing_wired c))
  given-by [] [] a k = sym (empty-is-compiled _ _ c)
  given-by [] (x ∷ ks) a k = absurd a
  given-by (p ∷ ps) [] a k = absurd a
  given-by (p ∷ ps) (x ∷ ks) a zero = compile-keeps p x a.0
  given-by (p ∷ ps) (x ∷ ks) a (suc k) = given-by ps ks a.1 k

  config-is : r.world.state.config ≡ c
  unfolding fresh_state
  config-is = ap (λ (s : State). s.config) new-state

  program-is : r.world.state.program ≡ compiled (names_of c ps r.installed)
  unfolding fresh_state
  program-is = ap (λ (s : State). s.program) new-state ∙ sym (empty-is-compiled _ _ c) ∙ ap (λ (k : ℕ). compiled (names_of c ps k)) (sym b.installed)

  others-are : (k : ℕ) → k ≢ r.installed → program_at r k ≡ compiled (names_of c ps k)
  others-are zero ne = absurd (ne (sym b.installed))
  others-are (suc k) ne =
      other-kept r (suc k) ne
      ∙ ap₂ (λ (l : List Kept) (x : Config). (get_or l (suc k) (no_kept x)).program) b.kept config-is
      ∙ given-by ps b.rest b.programs k

  names-slotted : Slotted ps → (k : ℕ) → length (names_of c ps k).matrix.slot ≡ slots
  names-slotted s zero = new-slots
  names-slotted s (suc k) = given-slots c ps s k

  -- WHAT `new` AND `compile` LEAVE, ACCEPTED, IS A START OF THE CLAIM
  pub new-starts : Slotted ps → Named (names_of c ps) r
  new-starts s =
      record {
        installed = program-is;
        there = omega (arith, b.installed, ap length b.kept);
        others = others-are;
        slotted = names-slotted s;
      }

-- ---- sessions

-- A SESSION ENDS IN WHAT THE DEFINITIONS LEAVE
pub session-is : (cs : List Call) (r q : Runner) → Session cs r q → q ≡ run cs r
unfolding run
session-is [] r q done = refl
session-is (c ∷ cs) r q (step {x = x} a rest) = session-is cs x q rest ∙ ap (run cs) (answered-is c r x a)

-- AND THE CLAIM HOLDS OF IT
pub session-claim : SessionClaim
session-claim ss ds c ps s r b cs q m = (session-is cs r q m, the-claim (names_of c ps) cs r (new-starts ss ds c ps r b s))
