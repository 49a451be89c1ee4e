-- `audio_rows::plans_from` meets its contract. The invariant: the plans before k are done.
use mathlib.Core.Path.{◌≡◌}
use Prim.Native.Nat.{◌-◌, ◌≤◌}
use lib.ListN.{length}
use Rattle.state.specs.declared.State.{State}
use Rattle.model.specs.Audio.{audio_plans}
use Rattle.audio_rows.specs.Rows.{sounds}
use Rattle.audio_rows.specs.Work.{Installed, work_env}
use Rattle.audio_rows.proofs.plans_from.Given as goal

abbrev pub invariant-loop-k : goal.invariant-loop-k
invariant-loop-k l = (l.k ≤ l.count) × (length l.values ≡ length l.initial.values) × (length l.audio ≡ length l.initial.audio)
    × ((st : State) → Installed st l.work → sounds l.values l.audio ≡ audio_plans st (work_env l.work l.held l.globals l.bases l.tables l.samples) l.chunk l.k (sounds l.initial.values l.initial.audio))

abbrev pub decreases-loop-k : goal.decreases-loop-k
decreases-loop-k l = l.count - l.k
