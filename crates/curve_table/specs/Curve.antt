-- Curves: linear, or a table with its seconds (document 01, Curve table). Definitions only.
use Rattle.std.specs.Prelude.{Bool, true, false, not, ◌&&◌, List, [], ◌∷◌, ℕ}
use Rattle.refusal.specs.Judge.{Row, judged, ◌when◌}
use Rattle.number.specs.Number.{zero32, finite, max32}
use Rattle.curve_table.specs.declared.Curve.{Curve}
use Rattle.curve_table.specs.declared.Curve.TheVariants as C
use Rattle.curve_table.specs.declared.Seconds.{Seconds}

-- the mark "linear", which changes nothing (curve.rs 74-76)
abbrev pub is_linear : Curve → Bool
is_linear C.Linear = true
is_linear (C.Table rise fall) = false

-- Rise and fall in seconds, below 0 taken as 0 (curve.rs 91-96). The Rust's max(0.0) gives 0 for a NaN, as here. For -0
-- Rust leaves open which zero it gives; here it stays -0, and document 01's comparison takes the two as equal.
unfoldable pub seconds_of : Curve → Seconds
seconds_of C.Linear = record { rise = zero32; fall = zero32 }
seconds_of (C.Table rise fall) = record { rise = max32 rise zero32; fall = max32 fall zero32 }

-- a linear curve has no seconds, and so none that are not finite
unfoldable pub seconds_finite : Curve → Bool
seconds_finite C.Linear = true
seconds_finite (C.Table rise fall) = finite rise && finite fall

-- the row of a curve: its seconds are not finite (document 01, row 6)
abbrev pub curve_rows : Curve → List Row
curve_rows c = 6 when not (seconds_finite c) ∷ []

unfoldable pub curve_code : Curve → ℕ
curve_code c = judged (curve_rows c)
