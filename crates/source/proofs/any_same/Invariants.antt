-- `source::any_same` meets its contract. The loop's invariant: one of the keys from i on, which start at `at`, is left to be the key. Assumes nothing.
use mathlib.Core.Path.{◌≡◌}
use Prim.Native.Nat.{◌-◌, ◌≤◌}
use lib.ListN.{length, drop}
use Rattle.source.specs.Standard.{audio_keys, any_same}
use Rattle.source.proofs.any_same.Given as goal

abbrev pub invariant-loop-i : goal.invariant-loop-i
invariant-loop-i l =
    (l.at ≤ length l.bytes)
    × (l.i ≤ length l.lengths)
    × (any_same l.key (audio_keys (drop l.from l.bytes) (drop l.first l.lengths)) ≡ any_same l.key (audio_keys (drop l.at l.bytes) (drop l.i l.lengths)))

abbrev pub decreases-loop-i : goal.decreases-loop-i
decreases-loop-i l = length l.lengths - l.i
