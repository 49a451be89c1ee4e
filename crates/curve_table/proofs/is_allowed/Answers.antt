-- `curve_table::is_allowed` meets its contract: what lies between two finite numbers is finite.
use mathlib.Core.Path.{◌≡◌, refl}
use mathlib.Core.Bool.{true, false}
use lib.Ieee.{Float, nan, inf, fin, le, neg, of_bits}
use Rattle.number.specs.Number.{finite}
use Rattle.number.proofs.Laws.{no}
use Rattle.curve_table.specs.Table.{least32, most32, allowed}
use Rattle.curve_table.proofs.is_allowed.Goals as goal

-- from -16 on the second test decides
second : (x : Float) → le least32 x ≡ true → le x most32 ≡ allowed x
unfolding allowed finite le
second nan h = refl
second (inf true) h = absurd (no h)
second (inf false) h = refl
second (fin s m e) h = rw h

first : (x : Float) → le least32 x ≡ false → le least32 x ≡ allowed x
unfolding allowed finite le
first nan h = refl
first (inf true) h = refl
first (inf false) h = h
first (fin s m e) h = rw h

pub returns-then-x : goal.returns-then-x
unfolding of_bits neg
returns-then-x c = second c.args.x c.if-x.true

pub returns-else-x : goal.returns-else-x
unfolding of_bits neg
returns-else-x c = first c.args.x c.if-x.false
