-- Tables of 513 numbers: their points, the lookup, and what a table may hold (document 01, Curve table). Definitions
-- only.
use Rattle.std.specs.Prelude.{Bool, true, false, not, ◌&&◌, List, [], ◌∷◌, ℕ, zero, suc, ◌+◌, min, eqb, pos, length}
use Rattle.std.specs.Prelude.{get_or, Float}
use Rattle.std.specs.Float.{nan, fin}
use Rattle.std.specs.Float.Ieee.{le}
use Rattle.refusal.specs.Judge.{Row, judged, ◌when◌}
use Rattle.number.specs.Number.{zero32, one32, plus, less, times, over, finite, clamp_to, whole_part, nearest32}

-- a table has 512 cells between its 513 points (curve.rs 27, 99-101)
abbrev pub points : ℕ
points = 513

abbrev pub last_cell : ℕ
last_cell = 511

abbrev pub cells32 : Float
cells32 = fin false 1 (pos 9)

-- ---- the lookup (document 01, Curve table; curve.rs 139-145)

-- where x lies: held to 0..1 by Rust's clamp, which keeps a NaN, times 512
unfoldable pub position : Float → Float
position x = times (clamp_to zero32 one32 x) cells32

-- the cell of a position: its whole part, at most 511; 0 for a NaN
abbrev pub cell_at : Float → ℕ
cell_at p = min (whole_part p) last_cell

unfoldable pub cell_of : Float → ℕ
cell_of x = cell_at (position x)

-- how far into its cell: what is left of the position
unfoldable pub part_of : Float → Float
part_of x = less (position x) (nearest32 (cell_of x))

-- from a towards b by so large a part of the way, each operation rounded
abbrev pub between : Float → Float → Float → Float
between a b part = plus a (times (less b a) part)

-- the table's numbers at the cell and after it, and the part between them
unfoldable pub lookup_of : List Float → Float → Float
lookup_of t x = between (get_or t (cell_of x) nan) (get_or t (cell_of x + 1) nan) (part_of x)

-- ---- what a table may hold (document 01, Curve table, and rows 6 and 15)

abbrev pub most32 : Float
most32 = fin false 1 (pos 4)

abbrev pub least32 : Float
least32 = fin true 1 (pos 4)

-- finite and from -16 to 16
unfoldable pub allowed : Float → Bool
allowed x = finite x && (le least32 x && le x most32)

-- each number of the slice, also past the 513th
unfoldable pub all_allowed : List Float → Bool
all_allowed [] = true
all_allowed (x ∷ t) = allowed x && all_allowed t

-- the rows of a lent table, in the order in which they are judged
abbrev pub table_rows : List Float → List Row
table_rows t = 6 when not (all_allowed t) ∷ 15 when not (eqb (length t) points) ∷ []

unfoldable pub table_code : List Float → ℕ
table_code t = judged (table_rows t)

-- ---- a table given by the index of its points

-- f i, f (i + 1) and so on, n of them
abbrev pub from_index : (ℕ → Float) → ℕ → ℕ → List Float
from_index f i zero = []
from_index f i (suc n) = f i ∷ from_index f (suc i) n

-- a table that a function of the index fills (curve.rs 99-101)
abbrev pub tabulated : (ℕ → Float) → List Float
tabulated f = from_index f 0 points

-- the diagonal's point i: i / 512 (curve.rs 100, 107-109; document 01, case 6)
abbrev pub diagonal_at : ℕ → Float
diagonal_at i = over (nearest32 i) cells32
