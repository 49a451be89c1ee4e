-- `audio_rows::frames` meets its contract. The invariant: the frames before n are done.
use mathlib.Core.Path.{◌≡◌}
use Prim.Native.Nat.{ℕ, ◌-◌, ◌≤◌}
use lib.ListN.{length}
use Rattle.state.specs.declared.State.{State}
use Rattle.plan_slews.specs.Put.{new_need}
use Rattle.audio_rows.specs.Rows.{sounds, job_env, Of, row_frames}
use Rattle.audio_rows.proofs.frames.Given as goal

abbrev pub invariant-loop-n : goal.invariant-loop-n
invariant-loop-n l =
    (l.n ≤ l.len) × (length l.values ≡ length l.initial.values) × (length l.audio ≡ length l.initial.audio)
    × ((st : State) (d : ℕ) → Of st d l.job → sounds l.values l.audio ≡ row_frames st (job_env l.job l.held l.globals l.bases l.tables l.samples) l.chunk d 0 l.n (sounds l.initial.values l.initial.audio))
    × (length l.new ≡ new_need) × (length l.initial.new ≡ new_need)

abbrev pub decreases-loop-n : goal.decreases-loop-n
decreases-loop-n l = l.len - l.n
