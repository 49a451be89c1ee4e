-- Document 01's comparison as a relation. Definitions only.
use Rattle.std.specs.Prelude.{Bool, pos, Float}
use Rattle.std.specs.Float.{fin}

infix 4 ◌≈◌
-- document 01, opening: numbers compare by bits, except that NaN equals NaN and the two zeros are equal. A Float has
-- one NaN.
pub data ◌≈◌ : Float → Float → Type 0 where
  equal : {x : Float} → x ≈ x
  zeros : {s t : Bool} → fin s 0 (pos 0) ≈ fin t 0 (pos 0)
