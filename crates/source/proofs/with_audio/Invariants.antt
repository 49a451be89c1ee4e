-- `source::with_audio` meets its contract. The loop's invariant: the sources for the keys from i on, which start at `start`, are left to add; they lie inside the bytes and are short. Assumes nothing.
use mathlib.Core.Path.{◌≡◌}
use mathlib.Core.Bool.{false}
use Prim.Native.Nat.{◌+◌, ◌-◌, ◌≤◌}
use lib.ListN.{length, drop}
use Rattle.source.specs.Standard.{with_audio, audio_keys, total, any_long}
use Rattle.source.proofs.with_audio.Given as goal

abbrev pub invariant-loop-i : goal.invariant-loop-i
invariant-loop-i l =
    (l.i ≤ length l.lengths)
    × (l.start ≤ length l.bytes)
    × (l.start + total (drop l.i l.lengths) ≤ length l.bytes)
    × (any_long (drop l.i l.lengths) ≡ false)
    × (with_audio (audio_keys l.bytes l.lengths) l.initial.next ≡ with_audio (audio_keys (drop l.start l.bytes) (drop l.i l.lengths)) l.next)

abbrev pub decreases-loop-i : goal.decreases-loop-i
decreases-loop-i l = length l.lengths - l.i
