-- `voice::moved_values` meets its contract. The invariant: the values below v are moved.
use Prim.Native.Nat.{ℕ, ◌≤◌, ◌-◌}
use lib.ListN.{get_or}
use Rattle.list.proofs.Filled.{Filled}
use lib.Ieee.{nan}
use Rattle.config.specs.Sizes.{most_voices}
use Rattle.voice.specs.Notes.{unread, moved_value}
use Rattle.voice.proofs.moved_values.Given as goal

abbrev pub invariant-loop-v : goal.invariant-loop-v
invariant-loop-v l = (l.v ≤ most_voices) × Filled l.initial.out (λ (i : ℕ). moved_value l.frames (get_or l.initial.out i nan) (get_or l.glide i unread)) l.v l.out

abbrev pub decreases-loop-v : goal.decreases-loop-v
decreases-loop-v l = most_voices - l.v
