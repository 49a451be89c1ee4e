-- The public calls on tables (document 01, Curve table). Definitions only.
use Rattle.std.specs.Prelude.{cond, List, ℕ, eqb, Float, Result, Ok, Err}
use Rattle.refusal.specs.Refusal.{number_of}
use Rattle.refusal.specs.declared.Refusal.{Refusal}
use Rattle.number.specs.Number.{zero32}
use Rattle.curve_table.specs.Curve.{curve_code, seconds_of}
use Rattle.curve_table.specs.declared.Curve.{Curve}
use Rattle.curve_table.specs.Table.{lookup_of, table_code, tabulated, diagonal_at}
use Rattle.curve_table.specs.declared.Seconds.{Seconds}

-- a number by which the call is refused, or 0 and the table's value
pub record Looked : Type 0 where
  pub code : ℕ
  pub value : Float

-- a number by which the call is refused, or 0 and the curve's seconds
pub record Slewed : Type 0 where
  pub code : ℕ
  pub seconds : Seconds

-- what an answer says: its number and its value, 0 on a refusal
abbrev pub looked_said : Result Float Refusal → Looked
looked_said (Ok x) = record { code = 0; value = x }
looked_said (Err r) = record { code = number_of r; value = zero32 }

abbrev pub no_seconds : Seconds
no_seconds = record { rise = zero32; fall = zero32 }

-- what an answer says: its number and its seconds, 0 on a refusal
abbrev pub slewed_said : Result Seconds Refusal → Slewed
slewed_said (Ok s) = record { code = 0; seconds = s }
slewed_said (Err r) = record { code = number_of r; seconds = no_seconds }

-- The table at x (curve.rs 139-145). Only the table's rows apply, 6 and 15: the position is exempt from row 6, since
-- document 01 says what a NaN position yields. A refusal has the value 0.
unfoldable pub lookup_call : List Float → Float → Looked
lookup_call t x =
    cond (eqb (table_code t) 0) (record { code = 0; value = lookup_of t x })
    (record { code = table_code t; value = zero32 })

-- A curve's rise and fall, below 0 taken as 0 (curve.rs 91-96). Row 6 where one is not finite; a refusal has 0 for
-- both.
unfoldable pub slew_call : Curve → Slewed
slew_call c =
    cond (eqb (curve_code c) 0)
    (record { code = 0; seconds = seconds_of c })
    (record { code = curve_code c; seconds = record { rise = zero32; fall = zero32 } })

-- the table of the diagonal: i / 512 at i (curve.rs 107-109; document 01, case 6)
unfoldable pub diagonal_table : List Float
diagonal_table = tabulated diagonal_at
