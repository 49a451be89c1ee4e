-- The cells of sixteen positions in a table. Definitions only.
use Rattle.std.specs.Prelude.{◌≡◌, false, List, ℕ, ◌<◌, pos, length, get_or, Float}
use Rattle.std.specs.Float.{fin}
use Rattle.config.specs.Sizes.{lanes}
use Rattle.curve_table.specs.Table.{cell_at}
use Rattle.model.specs.Counts.{at}

-- the last cell's number
abbrev pub last32 : Float
last32 = fin false 511 (pos 0)

-- r has the cell of each position of a row
pub record Celled (r : List ℕ) (row : List Float) : Type 0 where
  pub as_long : length r ≡ lanes
  pub each : (l : ℕ) → l < lanes → get_or r l 0 ≡ cell_at (at row l)
  pub few : (l : ℕ) → l < lanes → get_or r l 0 < 512
