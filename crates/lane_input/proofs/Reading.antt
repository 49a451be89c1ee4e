-- What an input reads, and its value, by what the code finds. Assumes nothing.
use mathlib.Core.Path.{◌≡◌, refl, ap, ◌∙◌}
use mathlib.Core.Bool.{Bool, true, false}
use mathlib.Core.List.{List}
use Prim.Native.Nat.{ℕ}
use lib.Ieee.{Float}
use Rattle.state.specs.declared.Read.{Read}
use Rattle.state.specs.declared.Read.TheVariants as D
use Rattle.state.specs.declared.SignalPart.{SignalPart}
use Rattle.state.specs.declared.Input.{Input}
use Rattle.state.specs.declared.Signals.{Signals}
use Rattle.model.specs.Env.{Env, Rows, sample_in}
use Rattle.model.specs.Input.{own, read_in, unipolar, curved, slewed, input_in}
use Rattle.model.specs.Layout.{plan_to}
use Rattle.lane_input.specs.declared.Point.{Point}
use Rattle.lane_input.specs.declared.Scene.{Scene}
use Rattle.lane_input.specs.Scene.{env_of}
use Rattle.lane_input.specs.Reads.{Reads, Works, part_for, fed_from, held_at, point_of, plan_rows}

-- of a scene and what is lent beside it
pub scene-reads : (s : Scene) (chunks : ℕ) (held globals bases tables samples values : List Float) (signals : Signals)
    → Reads (env_of s held globals bases tables samples signals) (plan_rows s.stride chunks values) (point_of s chunks) held globals samples values
scene-reads s chunks held globals bases tables samples values signals =
    record { stride = refl; frame = refl; held = refl; globals = refl; samples = refl; rows = λ e l. refl }

pub scene-works : (s : Scene) (chunks : ℕ) (held globals bases tables samples : List Float) (signals : Signals)
    → Works (env_of s held globals bases tables samples signals) (point_of s chunks) tables
scene-works s chunks held globals bases tables samples signals = record { steps = refl; tables = refl }

held_by : (t : Env) (f : Rows) (random : Float) (lane src : ℕ) (voice : Bool)
    → read_in t f random lane (D.Held src voice) ≡ held_at t.held t.globals src t.stride voice lane
held_by t f random lane src true = refl
held_by t f random lane src false = refl

module _ {t : Env} {f : Rows} {p : Point} {h g s m : List Float} (see : Reads t f p h g s m) (random : Float) (lane : ℕ) where
  pub signal-read : {read : Read} {part : SignalPart} (src : ℕ) {voice : Bool} {r : Float} → read ≡ D.Signal src voice → part_for t.signals read ≡ part
      → r ≡ sample_in s part p.frame voice lane → r ≡ read_in t f random lane read
  signal-read src q e k = rw (q, see.samples, rw q at e, see.frame) k

  pub held-read : {read : Read} {src : ℕ} {voice : Bool} {r : Float} → read ≡ D.Held src voice
      → r ≡ held_at h g src p.stride voice lane → r ≡ read_in t f random lane read
  held-read {src = src} {voice = voice} q k = rw q (rw (held_by t f random lane src voice, see.held, see.globals, see.stride) k)

  pub fed-read : {read : Read} {e : ℕ} {voice : Bool} {r : Float} → read ≡ D.Fed e voice
      → r ≡ fed_from m (plan_to p.stride p.chunks e) voice lane p.stride → r ≡ read_in t f random lane read
  fed-read {e = e} {voice = voice} q k = rw (q, see.stride, see.rows e (own voice lane)) k

pub input_of : (t : Env) (f : Rows) (slot position : ℕ) (snap prev random : Float) (lane : ℕ) (i : Input) (raw uni cur r : Float)
    → raw ≡ read_in t f random lane i.read → uni ≡ unipolar i.bipolar raw → cur ≡ curved t slot position i.table uni → r ≡ slewed t snap prev i.slew cur
    → r ≡ input_in t f slot position snap prev random lane i
unfolding input_in
input_of t f slot position snap prev random lane i raw uni cur r a b c d =
    d ∙ ap (slewed t snap prev i.slew) (c ∙ ap (curved t slot position i.table) (b ∙ ap (unipolar i.bipolar) a))
