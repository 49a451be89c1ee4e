-- What an input reads from, and that it is the environment's. Definitions only.
use Rattle.std.specs.Prelude.{◌≡◌, Bool, cond, List, ℕ, ◌+◌, ◌*◌, ◌≤◌, ltb, Float}
use Rattle.std.specs.Float.{nan}
use Rattle.state.specs.declared.Read.{Read}
use Rattle.state.specs.declared.Read.TheVariants as D
use Rattle.state.specs.declared.SignalPart.{SignalPart}
use Rattle.state.specs.declared.Signals.{Signals}
use Rattle.model.specs.Counts.{at}
use Rattle.model.specs.Env.{Env, Rows, no_part, part_of}
use Rattle.model.specs.Input.{own}
use Rattle.model.specs.Layout.{plan_to}
use Rattle.model.specs.Tick.{lanes_from}
use Rattle.lane_input.specs.declared.Point.{Point}
use Rattle.lane_input.specs.declared.Scene.{Scene}

-- sizes below their limits
pub record Sized (p : Point) : Type 0 where
  pub stride : p.stride ≤ 64
  pub chunks : p.chunks ≤ 130

-- the part of the signal that an input reads, where it reads one
abbrev pub part_for : Signals → Read → SignalPart
part_for s (D.Signal src voice) = part_of s src
part_for s (D.Held src voice) = no_part
part_for s (D.Fed e voice) = no_part
part_for s D.Constant = no_part
part_for s D.RouteRandom = no_part

-- lane `lane` of the row that starts there, where the stride has it
abbrev pub fed_from : List Float → ℕ → Bool → ℕ → ℕ → Float
fed_from m start voice lane stride = cond (ltb (own voice lane) stride) (lanes_from m start (own voice lane)) nan

-- a held number, of a lane or of all
abbrev pub held_at : List Float → List Float → ℕ → ℕ → Bool → ℕ → Float
held_at h g src stride voice lane = cond voice (at h (src * stride + lane)) (at g src)

-- the point of a scene
abbrev pub point_of : Scene → ℕ → Point
point_of s chunks = record { stride = s.stride; chunks = chunks; frame = s.frame; steps = s.steps }

-- the rows of all plans in the values
abbrev pub plan_rows : ℕ → ℕ → List Float → Rows
plan_rows stride chunks m e = lanes_from m (plan_to stride chunks e)

-- f is the rows of all plans in the values m
abbrev pub IsRows : Rows → Point → List Float → Type 0
IsRows f p m = (e l : ℕ) → f e l ≡ plan_rows p.stride p.chunks m e l

-- what t and f have is what is read: the point, held numbers h, globals g, samples s and values m
pub record Reads (t : Env) (f : Rows) (p : Point) (h g s m : List Float) : Type 0 where
  pub stride : t.stride ≡ p.stride
  pub frame : t.frame ≡ p.frame
  pub held : t.held ≡ h
  pub globals : t.globals ≡ g
  pub samples : t.samples ≡ s
  pub rows : IsRows f p m

-- and what inputs are then worked out by: the steps, and the tables b
pub record Works (t : Env) (p : Point) (b : List Float) : Type 0 where
  pub steps : t.steps ≡ p.steps
  pub tables : t.tables ≡ b
