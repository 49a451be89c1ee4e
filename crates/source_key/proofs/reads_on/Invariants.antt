-- `source_key::reads_on` meets its contract. The loop's invariant: v is the number of the digits before i, and what is left is read on from there. Assumes nothing.
use mathlib.Core.Path.{◌≡◌}
use Prim.Native.Nat.{◌-◌, ◌≤◌}
use lib.ListN.{length, drop}
use Rattle.source_key.specs.Numbered.{read_on}
use Rattle.source_key.proofs.reads_on.Given as goal

abbrev pub invariant-loop-i : goal.invariant-loop-i
invariant-loop-i l = (l.i ≤ length l.rest) × (l.v ≤ l.n) × (read_on l.n l.after 0 l.rest ≡ read_on l.n l.after l.v (drop l.i l.rest))

abbrev pub decreases-loop-i : goal.decreases-loop-i
decreases-loop-i l = length l.rest - l.i
