-- A NAME STANDS FOR WIRING AND TABLES: no call but an arriving memory of a program changes that program's tables. Assumes nothing.
use mathlib.Core.Path.{◌≡◌, refl, sym, ap, ◌∙◌}
use mathlib.Core.Logic.{◌≢◌, ◌⊎◌, inl, inr}
use mathlib.Core.Bool.{true, false, cond}
use mathlib.Core.List.{List, [], ◌∷◌}
use Prim.Native.Nat.{ℕ, zero, suc}
use lib.Dec.{eqb, ltb}
use lib.ListN.{length, get_or, set}
use lib.Seq.{get_or-set_other}
use lib.Ieee.{Float}
use borrow.Author.Tests.{eqb-true}
use Rattle.feed.proofs.Tests.{which}
use Rattle.model.specs.World.{World}
use Rattle.model.specs.Settings.{set_held, set_voice_held, set_base, set_amount, set_output, set_voice_limit, set_draw, swap_program}
use Rattle.model.specs.NoteCalls.{note_on, note_off, voice_ended}
use Rattle.model.specs.Process.{process}
use Rattle.model.specs.Calls.{set-held, set-voice-held, set-base, set-amount, set-output, set-limit, set-draw, start-note, release-note, end-voice, install, lend-program, lend-engine, look, Call, block, other, Kept, Runner, no_kept, on_world, returned, kept_at, program_at, exchanged, swapped, lent_values, engine_arrives, effect_of, called}
use Rattle.model.proofs.Conds.{cond-true, cond-false, cond_of}
use Rattle.model.proofs.LentToRead.{block-spares, note-tables}
use Rattle.model.proofs.LentFrames.{held-frame, voice-held-frame, base-frame, amount-frame, output-frame, limit-frame, draw-frame, note-off-frame, ended-frame}

-- the memories of program k arrive with the call
abbrev pub Brings : Call → ℕ → Type 0
Brings (block samples signals start end) k = ⊥
Brings (other (set-held i x)) k = ⊥
Brings (other (set-voice-held i v x)) k = ⊥
Brings (other (set-base d x)) k = ⊥
Brings (other (set-amount i x)) k = ⊥
Brings (other (set-output i x)) k = ⊥
Brings (other (set-limit n)) k = ⊥
Brings (other (set-draw x)) k = ⊥
Brings (other (start-note v n)) k = ⊥
Brings (other (release-note v x)) k = ⊥
Brings (other (end-voice v)) k = ⊥
Brings (other (install j)) k = ⊥
Brings (other (lend-program j values audio tables)) k = k ≡ j
Brings (other (lend-engine held globals bases)) k = ⊥
Brings (other look) k = ⊥

-- ---- lists

-- one in the place of another with the same tables
set-either : (l : List Kept) (i k : ℕ) (x y d e : Kept) → x.tables ≡ y.tables → d.tables ≡ e.tables → (get_or (set l i x) k d).tables ≡ (get_or (set l i y) k e).tables
set-either [] i k x y d e p q = q
set-either (z ∷ l) zero zero x y d e p q = p
set-either (z ∷ l) zero (suc k) x y d e p q = default l k d e q
  where
    default : (l : List Kept) (k : ℕ) (d e : Kept) → d.tables ≡ e.tables → (get_or l k d).tables ≡ (get_or l k e).tables
    default [] k d e q = q
    default (z ∷ l) zero d e q = refl
    default (z ∷ l) (suc k) d e q = default l k d e q
set-either (z ∷ l) (suc i) zero x y d e p q = refl
set-either (z ∷ l) (suc i) (suc k) x y d e p q = set-either l i k x y d e p q

-- one with the tables that stand there
set-same : (l : List Kept) (i k : ℕ) (x d e : Kept) → x.tables ≡ (get_or l i d).tables → e.tables ≡ d.tables → (get_or (set l i x) k e).tables ≡ (get_or l k d).tables
set-same [] i k x d e p q = q
set-same (z ∷ l) zero zero x d e p q = p
set-same (z ∷ l) zero (suc k) x d e p q = default l k
  where
    default : (l : List Kept) (k : ℕ) → (get_or l k e).tables ≡ (get_or l k d).tables
    default [] k = q
    default (z ∷ l) zero = refl
    default (z ∷ l) (suc k) = default l k
set-same (z ∷ l) (suc i) zero x d e p q = refl
set-same (z ∷ l) (suc i) (suc k) x d e p q = set-same l i k x d e p q

-- twice
set-twice : (l : List Kept) (i k : ℕ) (b d : Kept) → get_or (set (set l i b) i b) k d ≡ get_or (set l i b) k d
set-twice [] i k b d = refl
set-twice (z ∷ l) zero zero b d = refl
set-twice (z ∷ l) zero (suc k) b d = refl
set-twice (z ∷ l) (suc i) zero b d = refl
set-twice (z ∷ l) (suc i) (suc k) b d = set-twice l i k b d

less-one : {k j : ℕ} → suc k ≢ suc j → k ≢ j
less-one ne e = ne (ap suc e)

-- with another set between
set-around : (l : List Kept) (i j k : ℕ) (b y d : Kept) → k ≢ j → get_or (set (set (set l i b) j y) i b) k d ≡ get_or (set l i b) k d
set-around [] i j k b y d ne = refl
set-around (z ∷ l) zero zero zero b y d ne = absurd (ne refl)
set-around (z ∷ l) zero zero (suc k) b y d ne = refl
set-around (z ∷ l) zero (suc j) zero b y d ne = refl
set-around (z ∷ l) zero (suc j) (suc k) b y d ne = get_or-set_other l j k y d (less-one ne)
set-around (z ∷ l) (suc i) zero zero b y d ne = absurd (ne refl)
set-around (z ∷ l) (suc i) zero (suc k) b y d ne = set-twice l i k b d
set-around (z ∷ l) (suc i) (suc j) zero b y d ne = refl
set-around (z ∷ l) (suc i) (suc j) (suc k) b y d ne = set-around l i j k b y d (less-one ne)

-- ---- calls

-- what is installed, as it comes back
abbrev back : Runner → Kept
back r = record { program = r.world.state.program; values = r.world.values; audio = r.world.audio; tables = r.world.tables }

abbrev nothing : Runner → Kept
nothing r = no_kept r.world.state.config

module _ (r : Runner) (k : ℕ) where
  world-tables : (v : World) → v.tables ≡ r.world.tables → (kept_at (on_world r v) k).tables ≡ (kept_at r k).tables
  world-tables v e = set-either r.kept r.installed k (back (on_world r v)) (back r) (nothing (on_world r v)) (nothing r) e refl

  swapped-tables : (j : ℕ) → (kept_at (swapped r j) k).tables ≡ (kept_at r k).tables
  swapped-tables j =
      let q = exchanged r j (kept_at r j) in
      let Same : Runner → Type 0 = λ x. (kept_at x k).tables ≡ (kept_at r k).tables in
      cond_of Same (eqb (swap_program r.world.state (program_at r j)).code 0) (cond (ltb j (length r.kept)) q r) r
      (cond_of Same (ltb j (length r.kept)) q r (set-same (returned r) j k (back q) (nothing r) (nothing q) refl refl) refl)
      refl

  arrives-tables : (j : ℕ) (values audio tables : List Float) → k ≢ j → (kept_at (effect_of (lend-program j values audio tables) r).left k).tables ≡ (kept_at r k).tables
  arrives-tables j values audio tables ne = by (which (eqb j r.installed))
    where
      v : World
      v = lent_values r.world values audio tables

      p : Kept
      p = record { program = program_at r j; values = values; audio = audio; tables = tables }

      q : Runner
      q = record { world = r.world; kept = set (returned r) j p; installed = r.installed }

      away : k ≢ r.installed → (kept_at (on_world r v) k).tables ≡ (kept_at r k).tables
      away n =
          ap (λ (x : Kept). x.tables)
          (get_or-set_other r.kept r.installed k (back (on_world r v)) (nothing r) n ∙ sym (get_or-set_other r.kept r.installed k (back r) (nothing r) n))

      by : (eqb j r.installed ≡ true) ⊎ (eqb j r.installed ≡ false) → (kept_at (cond (eqb j r.installed) (on_world r v) q) k).tables ≡ (kept_at r k).tables
      by (inl t) =
          ap (λ (x : Runner). (kept_at x k).tables) (cond-true (eqb j r.installed) (on_world r v) q t)
          ∙ away (λ e. ne (e ∙ sym (eqb-true j r.installed t)))
      by (inr t) =
          ap (λ (x : Runner). (kept_at x k).tables) (cond-false (eqb j r.installed) (on_world r v) q t)
          ∙ ap (λ (x : Kept). x.tables) (set-around r.kept r.installed j k (back r) p (nothing r) ne)

  -- NO OTHER CALL CHANGES A PROGRAM'S TABLES
  pub tables-stay : (c : Call) → (Brings c k → ⊥) → (kept_at (called c r) k).tables ≡ (kept_at r k).tables
  tables-stay (block samples signals start end) n = world-tables (process r.world samples signals start end).world (block-spares r.world samples signals start end).tables
  tables-stay (other (set-held i x)) n = world-tables (set_held r.world i x).world (ap (λ (w : World). w.tables) (held-frame r.world i x))
  tables-stay (other (set-voice-held i v x)) n = world-tables (set_voice_held r.world i v x).world (ap (λ (w : World). w.tables) (voice-held-frame r.world i v x))
  tables-stay (other (set-base d x)) n = world-tables (set_base r.world d x).world (ap (λ (w : World). w.tables) (base-frame r.world d x))
  tables-stay (other (set-amount i x)) n = world-tables (set_amount r.world i x).world (ap (λ (w : World). w.tables) (amount-frame r.world i x))
  tables-stay (other (set-output i x)) n = world-tables (set_output r.world i x).world (ap (λ (w : World). w.tables) (output-frame r.world i x))
  tables-stay (other (set-limit m)) n = world-tables (set_voice_limit r.world m).world (ap (λ (w : World). w.tables) (limit-frame r.world m))
  tables-stay (other (set-draw x)) n = world-tables (set_draw r.world x).world (ap (λ (w : World). w.tables) (draw-frame r.world x))
  tables-stay (other (start-note v m)) n = world-tables (note_on r.world v m).world (note-tables v m r.world)
  tables-stay (other (release-note v x)) n = world-tables (note_off r.world v x).world (ap (λ (w : World). w.tables) (note-off-frame r.world v x))
  tables-stay (other (end-voice v)) n = world-tables (voice_ended r.world v).world (ap (λ (w : World). w.tables) (ended-frame r.world v))
  tables-stay (other (install j)) n = swapped-tables j
  tables-stay (other (lend-program j values audio tables)) n = arrives-tables j values audio tables n
  tables-stay (other (lend-engine held globals bases)) n = world-tables (engine_arrives r.world held globals bases) refl
  tables-stay (other look) n = refl
