-- A table's numbers, read from all tables. Assumes nothing.
use mathlib.Core.Path.{◌≡◌, sym, ◌∙◌}
use mathlib.Core.List.{List}
use Prim.Native.Nat.{ℕ, ◌+◌, ◌*◌, ◌≤◌}
use native.Mathlib.Omega.{arith}
use lib.ListN.{get_or}
use lib.Ieee.{Float, nan}
use Rattle.list.specs.Rows.{row_at}
use Rattle.list.proofs.Rows.{row-at}
use Rattle.number.specs.Number.{plus, less, times, nearest32}
use Rattle.curve_table.specs.Table.{points, position, cell_at, cell_of, part_of, lookup_of}

-- the two points of the cell, read from the first number of the place on
pub looked-up : (m : List Float) (place i : ℕ) (u p a b : Float) → p ≡ position u → i ≡ cell_at p
    → a ≡ get_or m (place * points + i) nan → b ≡ get_or m (place * points + (i + 1)) nan
    → plus a (times (less b a) (less p (nearest32 i))) ≡ lookup_of (row_at m points place) u
unfolding cell_of part_of lookup_of
looked-up m place i u p a b ep ei ea eb =
    let small : i ≤ 511 = omega arith in
    let ra : a ≡ get_or (row_at m points place) i nan = ea ∙ sym (row-at m points place i nan (omega arith)) in
    let rb : b ≡ get_or (row_at m points place) (i + 1) nan = eb ∙ sym (row-at m points place (i + 1) nan (omega arith)) in
    rw (← ep, ← ei, ← ra, ← rb)
