-- `audio_rows::sweep_plans` meets its contract. The invariant: the plans before k are done.
use mathlib.Core.Path.{◌≡◌}
use mathlib.Core.List.{List}
use Prim.Native.Nat.{◌-◌, ◌≤◌}
use lib.ListN.{length}
use lib.Ieee.{Float}
use Rattle.state.specs.declared.State.{State}
use Rattle.model.specs.Audio.{Sounds, audio_plans}
use Rattle.audio_rows.specs.declared.Work.{Work}
use Rattle.audio_rows.specs.Rows.{sounds}
use Rattle.audio_rows.specs.Work.{Installed, work_env}
use Rattle.audio_rows.specs.Passes.{Prepared}
use Rattle.audio_rows.proofs.sweep_plans.Given as goal

abbrev pub invariant-loop-k : goal.invariant-loop-k
invariant-loop-k l = (l.from ≤ l.k) × (l.k ≤ l.count) × (length l.audio ≡ length l.initial.audio) × (length l.plans ≡ 64)
    × ((st : State) (w : Work) (h b v : List Float) (m : Sounds) → Installed st w → Prepared w l.chunk l.field l.plans l.control l.levels l.samples l.starts l.steps l.gains l.offsets
    → sounds v l.initial.audio ≡ audio_plans st (work_env w h l.globals l.bases b l.samples) l.chunk l.from m → sounds v l.audio ≡ audio_plans st (work_env w h l.globals l.bases b l.samples) l.chunk l.k m)

abbrev pub decreases-loop-k : goal.decreases-loop-k
decreases-loop-k l = l.count - l.k
