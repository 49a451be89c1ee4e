-- `source::find_key` meets its contract. The loop's invariant: the answer is that of the entries from i on. Assumes nothing.
use mathlib.Core.Path.{◌≡◌}
use Prim.Native.Nat.{◌-◌, ◌≤◌}
use lib.ListN.{drop}
use Rattle.state.specs.Registry.{source_count}
use Rattle.source.specs.Registry.{registered, find_key}
use Rattle.source.proofs.find_key.Given as goal

abbrev pub invariant-loop-i : goal.invariant-loop-i
invariant-loop-i l =
    (l.i ≤ l.n)
    × (l.n ≡ source_count l.sources)
    × (find_key 0 l.key (registered l.sources) ≡ find_key l.i l.key (drop l.i (registered l.sources)))

abbrev pub decreases-loop-i : goal.decreases-loop-i
decreases-loop-i l = l.n - l.i
