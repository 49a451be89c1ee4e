-- WHAT COMPILE MADE IS NEVER REFUSED BY ROW 6: the amounts and outputs of every program that `compile` and `empty` answer, refused or not, are finite. Assumes nothing.
use mathlib.Core.Path.{◌≡◌, refl, ap}
use mathlib.Core.Logic.{◌≢◌}
use mathlib.Core.Bool.{Bool, true, false, not, cond, ◌&&◌, ◌||◌}
use mathlib.Core.List.{List, [], ◌∷◌, ◌++◌, map}
use Prim.Native.Nat.{ℕ}
use native.Mathlib.Omega.{arith}
use lib.Dec.{eqb, ltb}
use lib.Ieee.{Float}
use Rattle.number.specs.Number.{one32, finite}
use Rattle.refusal.specs.Judge.{Row, judged, ◌when◌}
use Rattle.config.specs.Configuration.{config_rows, config_code}
use Rattle.config.specs.declared.Config.{Config}
use Rattle.slots_tables.specs.Tables.{named_allowed}
use Rattle.slots.specs.Slots.{numbers_finite, all_finite}
use Rattle.state.specs.declared.Slot.{Slot}
use Rattle.state.specs.declared.Program.{Program}
use Rattle.state.specs.declared.State.{State}
use Rattle.state.specs.declared.Wiring.{Wiring}
use Rattle.model.specs.Plans.{gains_of, compiled}
use Rattle.model.specs.Compile.{Memories, answered_by, empty_of, empty_program, numbers_allowed, tables_short, memory_short, compile_rows, compile}
use Rattle.model.specs.Settings.{every_finite, gains_finite, same_config, swap_program}
use Rattle.model.specs.Counts.{engine_sources, engine_dests, route_total}

left : (a b : Bool) → (a && b) ≡ true → a ≡ true
left true b h = refl
left false b h = h

right : (a b : Bool) → (a && b) ≡ true → b ≡ true
right true b h = h
right false true h = refl
right false false h = h

both : {a b : Bool} → a ≡ true → b ≡ true → (a && b) ≡ true
both p q = rw (p, q)

-- of a slot, and of those after it
module _ (s : Slot) (ss : List Slot) (h : all_finite (s ∷ ss) ≡ true) where
  head-finite : numbers_finite s ≡ true
  unfolding all_finite
  head-finite = left (numbers_finite s) (all_finite ss) h

  tail-finite : all_finite ss ≡ true
  unfolding all_finite
  tail-finite = right (numbers_finite s) (all_finite ss) h

  amount-finite : finite s.amount ≡ true
  unfolding numbers_finite
  amount-finite = left (finite s.amount) _ head-finite

  output-finite : finite s.output ≡ true
  unfolding numbers_finite
  output-finite = left (finite s.output) _ (right (finite s.amount) _ head-finite)

amounts-finite : (ss : List Slot) → all_finite ss ≡ true → every_finite (map (λ s. s.amount) ss) ≡ true
amounts-finite [] h = refl
amounts-finite (s ∷ ss) h = both (amount-finite s ss h) (amounts-finite ss (tail-finite s ss h))

outputs-finite : (ss : List Slot) → all_finite ss ≡ true → every_finite (map (λ s. s.output) ss) ≡ true
outputs-finite [] h = refl
outputs-finite (s ∷ ss) h = both (output-finite s ss h) (outputs-finite ss (tail-finite s ss h))

pub slots-finite : (ss : List Slot) → all_finite ss ≡ true → gains_finite (gains_of ss) ≡ true
slots-finite ss h = both (amounts-finite ss h) (outputs-finite ss h)

pub empty-finite : (c : Config) → gains_finite (empty_of c).gains ≡ true
unfolding empty_of finite
empty-finite c = refl

-- of two programs, the one by a test
picked : (b : Bool) (p q : Program) → (b ≡ true → gains_finite p.gains ≡ true) → gains_finite q.gains ≡ true → gains_finite (cond b p q).gains ≡ true
picked true p q h k = h refl
picked false p q h k = k

answer-finite : (code : ℕ) (p : Program) → (eqb code 0 ≡ true → gains_finite p.gains ≡ true) → gains_finite (answered_by code p).program.gains ≡ true
answer-finite code p h = picked (eqb code 0) p (empty_of (record { sample_rate = one32; max_frames = 0; voices = 0 })) h (empty-finite _)

pub empty-answer-finite : (c : Config) → gains_finite (empty_program c).program.gains ≡ true
unfolding empty_program
empty-answer-finite c = answer-finite (config_code c.sample_rate c.max_frames c.voices) (empty_of c) (λ e. empty-finite c)

-- the first row does not apply where the code is 0
first-passed : (b : Bool) (rs : List Row) → eqb (judged (6 when not b ∷ rs)) 0 ≡ true → b ≡ true
unfolding judged
first-passed true rs h = refl
first-passed false rs h = h

module _ (w : Wiring) (tables : List Float) (l : Memories) where
  -- the rows of `compile` after the first
  abbrev rest : List Row
  rest =
      config_rows w.config.sample_rate w.config.max_frames w.config.voices
      ++ (14 when (tables_short w.matrix tables l.tables || memory_short (compiled w) l) ∷ [])

  pub compile-finite : gains_finite (compile w tables l).answer.program.gains ≡ true
  unfolding compile compiled
  compile-finite =
      answer-finite (judged (compile_rows w tables l)) (compiled w)
      (λ e. slots-finite w.matrix.slot (left (all_finite w.matrix.slot) (named_allowed w.matrix tables) (first-passed (numbers_allowed w.matrix tables) rest e)))

-- row 6 does not apply to finite gains
never-6 : (g a b : Bool) → g ≡ true → judged (6 when not g ∷ 7 when a ∷ 8 when b ∷ []) ≢ 6
unfolding judged
never-6 true true b e h = omega arith
never-6 true false true e h = omega arith
never-6 true false false e h = omega arith
never-6 false a b e h = go e
  where
    go : false ≡ true → ⊥
    go q = let z : ◌≡◌ {A = ℕ} 0 1 = ap (λ (b : Bool). cond b 1 0) q in omega arith

pub finite-taken : (st : State) (p : Program) → gains_finite p.gains ≡ true → (swap_program st p).code ≢ 6
unfolding swap_program
finite-taken st p h =
    never-6 (gains_finite p.gains) (not (same_config st.config p.config))
    (not (eqb (route_total p) 0) && (ltb (engine_sources st) p.sources || ltb (engine_dests st) p.dests))
    h

pub compiled-taken : (st : State) (w : Wiring) (tables : List Float) (l : Memories) → (swap_program st (compile w tables l).answer.program).code ≢ 6
compiled-taken st w tables l = finite-taken st _ (compile-finite w tables l)
