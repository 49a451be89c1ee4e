-- `number::is_finite` meets its contract.
use Rattle.std.proofs.Common.{◌≡◌, true, false, sym, refl}
use lib.Ieee.{Float, nan, inf, fin, lt, neg, div, of_bits}
use Rattle.number.specs.Number.{finite}
use Rattle.number.proofs.is_finite.Goals as goal

-- below the upper infinity the second test decides
second : (x : Float) → lt x (inf false) ≡ true → lt (inf true) x ≡ finite x
unfolding finite lt
second nan h = refl
second (inf true) h = refl
second (inf false) h = sym h
second (fin s m e) h = refl

first : (x : Float) → lt x (inf false) ≡ false → lt x (inf false) ≡ finite x
unfolding finite lt
first nan h = refl
first (inf true) h = h
first (inf false) h = refl
first (fin s m e) h = refl

pub returns-then-x-top : goal.returns-then-x-top
unfolding div of_bits neg
returns-then-x-top c = second c.args.x c.if-x-top.true

pub returns-else-x-top : goal.returns-else-x-top
unfolding div of_bits neg
returns-else-x-top c = first c.args.x c.if-x-top.false
