-- `slots_tables::any_names` meets its contract. The loop's invariant: none of the slots passed names a table.
use mathlib.Core.Path.{◌≡◌}
use Prim.Native.Nat.{◌-◌, ◌≤◌}
use lib.ListN.{length, drop}
use Rattle.config.specs.Sizes.{slots}
use Rattle.slots_tables.specs.Tables.{any_names}
use Rattle.slots_tables.proofs.any_names.Given as goal

abbrev pub invariant-loop-i : goal.invariant-loop-i
invariant-loop-i l = (l.i ≤ slots) × (length l.slot ≡ slots) × (any_names l.slot ≡ any_names (drop l.i l.slot))

abbrev pub decreases-loop-i : goal.decreases-loop-i
decreases-loop-i l = slots - l.i
