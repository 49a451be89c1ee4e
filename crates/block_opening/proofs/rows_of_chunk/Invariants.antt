-- `block_opening::rows_of_chunk` meets its contract. The invariant: the first d plans have had their turn.
use mathlib.Core.Path.{◌≡◌}
use Prim.Native.Nat.{◌≤◌, ◌-◌}
use lib.ListN.{length}
use Rattle.block_opening.specs.Rows.{chunk_rows}
use Rattle.block_opening.proofs.rows_of_chunk.Given as goal

abbrev pub invariant-loop-d : goal.invariant-loop-d
invariant-loop-d l = (l.d ≤ l.control) × (length l.plan ≡ 64) × (length l.values ≡ length l.initial.values) × (l.values ≡ chunk_rows l.plan l.stride l.chunks l.i l.d l.initial.values)

abbrev pub decreases-loop-d : goal.decreases-loop-d
decreases-loop-d l = l.control - l.d
