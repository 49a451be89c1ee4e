-- `source::any_clash` meets its contract. The loop's invariant: one of the keys from i on, which start at `start`, is left to clash. Assumes nothing.
use mathlib.Core.Path.{◌≡◌}
use Prim.Native.Nat.{◌-◌, ◌≤◌}
use lib.ListN.{length, drop}
use Rattle.source.specs.Standard.{audio_keys, clashes}
use Rattle.source.proofs.any_clash.Given as goal

abbrev pub invariant-loop-i : goal.invariant-loop-i
invariant-loop-i l =
    (l.start ≤ length l.bytes)
    × (l.i ≤ length l.lengths)
    × (clashes l.counts (audio_keys l.bytes l.lengths) ≡ clashes l.counts (audio_keys (drop l.start l.bytes) (drop l.i l.lengths)))

abbrev pub decreases-loop-i : goal.decreases-loop-i
decreases-loop-i l = length l.lengths - l.i
