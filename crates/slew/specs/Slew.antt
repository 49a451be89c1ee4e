-- How a slewed value moves, in one lane (document 01, Chunk and value). Definitions only.
use Rattle.std.specs.Prelude.{false, cond, Float}
use Rattle.std.specs.Float.{inf}
use Rattle.std.specs.Float.Ieee.{lt, eq, neg}
use Rattle.number.specs.Number.{zero32, one32, plus, less, times, over, max32, min32}

-- the most that a value moves per sample to cross full scale in so many seconds; without limit for 0 seconds
-- (program.rs 594-602)
unfoldable pub rate_per_sample : Float → Float → Float
rate_per_sample seconds rate = cond (lt zero32 seconds) (over one32 (times seconds rate)) (inf false)

-- the most that it moves in so many samples; 0 in none, also without limit (engine.rs 1437-1441)
unfoldable pub reach : Float → Float → Float
reach rate steps = cond (eq steps zero32) zero32 (times rate steps)

-- from prev towards u by at most up upwards and down downwards (engine.rs 1442)
unfoldable pub moved : Float → Float → Float → Float → Float
moved up down prev u = plus prev (min32 (max32 (less u prev) (neg down)) up)

-- One step of a slew. snap is 1 where what is left is added, else 0, and the product is always taken: a u that is a NaN
-- or an infinity makes a slew that stands still a NaN (engine.rs 1434-1446)
unfoldable pub slew_step : Float → Float → Float → Float → Float → Float
slew_step up down snap prev u = let m = moved up down prev u in plus m (times (less u m) snap)
