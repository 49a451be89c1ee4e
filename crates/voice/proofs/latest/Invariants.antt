-- `voice::latest` meets its contract. The invariant: the newest is the latest of the voices below v.
use mathlib.Core.Path.{◌≡◌}
use Prim.Native.Nat.{◌≤◌, ◌-◌}
use Rattle.config.specs.Sizes.{most_voices}
use Rattle.voice.specs.Voices.{latest}
use Rattle.voice.proofs.latest.Given as goal

abbrev pub invariant-loop-v : goal.invariant-loop-v
invariant-loop-v l = (l.v ≤ most_voices) × (l.newest ≡ latest l.active l.rank l.v)

abbrev pub decreases-loop-v : goal.decreases-loop-v
decreases-loop-v l = most_voices - l.v
