-- What the turns of a tick go by is the work's. Definitions only.
use Rattle.std.specs.Prelude.{◌≡◌, true, List, ℕ, ◌≤◌, ◌<◌, length, get_or, Float}
use Rattle.config.specs.Sizes.{slots, most_frames}
use Rattle.state_filled.specs.Filled.{no_plan}
use Rattle.state.specs.declared.State.{State}
use Rattle.model.specs.Counts.{at}
use Rattle.model.specs.Env.{Env}
use Rattle.plan_sum.specs.Job.{AreSimple, base_by}
use Rattle.plan_slews.specs.declared.Tick.{Tick}
use Rattle.plan_slews.specs.Seen.{Fits}
use Rattle.plan_sweep.specs.declared.Leads.{Leads}
use Rattle.plan_sweep.specs.Leads.{Led, Fielded}
use Rattle.plan_turning.specs.declared.Round.{Round}
use Rattle.control_tick.specs.declared.Work.{Work}
use Rattle.control_tick.specs.Turn.{Given, IsTick}

-- sizes below their limits, and the simple routes
pub record Sized (w : Work) : Type 0 where
  pub fits : Fits w.scene w.chunks w.plans
  pub control : w.control ≤ w.plans
  pub simples : AreSimple w.routes w.simples

-- what the turns of swept plans go by
abbrev pub tick_by : Work → Tick
tick_by w = record { phase = w.phase; voice = true; primed = w.scene.primed; snap = w.scene.snap; fresh = w.scene.fresh }

-- the round is the work's; where its field is on, the frame that is read is there
pub record IsRound (w : Work) (r : Round) : Type 0 where
  pub field : Fielded w.scene.voices.active w.scene.stride 1 r.field
  pub here : r.field.on ≡ true → (w.scene.frame < w.scene.up_to) × (w.scene.up_to ≤ most_frames)
  pub tick : r.tick ≡ tick_by w
  pub chunks : r.chunks ≡ w.chunks
  pub frame : r.frame ≡ w.scene.frame
  pub control : r.control ≡ w.control

-- the leads are those of the work's routes, where there are not too many frames; samples xs
pub record IsLed (w : Work) (xs : List Float) (l : Leads) : Type 0 where
  pub starts : length l.starts ≡ slots
  pub steps : length l.steps ≡ slots
  pub gains : length l.gains ≡ slots
  pub offsets : length l.offsets ≡ slots
  pub led : w.scene.up_to ≤ most_frames
      → Led w.signals w.scene.gains w.scene.stride w.scene.up_to xs w.routes l.starts l.steps l.gains l.offsets slots

-- the first numbers of b are the bases of the control plans: globals g, bases a
abbrev pub AreBases : Work → List Float → List Float → List Float → Type 0
AreBases w g a b = (d : ℕ) → d < w.control → at b d ≡ base_by w.scene.gains g a (get_or w.plan d no_plan).dest (get_or w.plan d no_plan).base

-- st has the work's program, and t its scene and signals, and the lent: held numbers h, globals g, bases a, tables b, samples i
abbrev pub Works : State → Env → Work → List Float → List Float → List Float → List Float → List Float → Type 0
Works st t w h g a b i =
    IsTick st w.plan w.control w.routes w.scene.stride w.chunks w.plans × Given t w.scene w.signals h g a b i
