-- The rows of a lent table (document 01, Numbers that a call hands back; Curve table). Definitions only.
use Rattle.std.specs.Prelude.{Bool, not, ◌&&◌, List, [], ◌∷◌, eqb, ltb, length, Float}
use Rattle.refusal.specs.Judge.{Row, ◌when◌}
use Rattle.number.specs.Number.{finite}
use Rattle.curve_table.specs.Table.{points, all_allowed}
use Rattle.slots_tables.specs.Tables.{tables_need}

-- a number not finite, as the test says
abbrev pub finite_row : Bool → Row
finite_row t = 6 when not t

-- lent memory shorter than all places need
abbrev pub tables_row : List Float → Row
tables_row tables = 14 when ltb (length tables) tables_need

-- table not 513 long
abbrev pub length_row : List Float → Row
length_row t = 15 when not (eqb (length t) points)

-- row 6 of a curve: its table's numbers and its seconds
unfoldable pub curve_allowed : List Float → Float → Float → Bool
curve_allowed t rise fall = all_allowed t && (finite rise && finite fall)

abbrev pub table_rows : Bool → List Float → List Float → List Row
table_rows allowed tables t = finite_row allowed ∷ tables_row tables ∷ length_row t ∷ []
