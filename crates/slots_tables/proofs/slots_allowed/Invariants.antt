-- `slots_tables::slots_allowed` meets its contract. The loop's invariant: the named places of the slots passed are allowed.
use mathlib.Core.Path.{◌≡◌}
use Prim.Native.Nat.{◌-◌, ◌≤◌}
use lib.ListN.{length, drop}
use Rattle.config.specs.Sizes.{slots}
use Rattle.slots_tables.specs.Tables.{slots_allowed}
use Rattle.slots_tables.proofs.slots_allowed.Given as goal

abbrev pub invariant-loop-i : goal.invariant-loop-i
invariant-loop-i l = (l.i ≤ slots) × (length l.slot ≡ slots) × (slots_allowed l.tables 0 l.slot ≡ slots_allowed l.tables l.i (drop l.i l.slot))

abbrev pub decreases-loop-i : goal.decreases-loop-i
decreases-loop-i l = slots - l.i
