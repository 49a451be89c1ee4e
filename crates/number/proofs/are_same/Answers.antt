-- `number::are_same` meets its contract.
use Rattle.std.proofs.Common.{◌≡◌, true, false, sym, refl, ◌∙◌}
use lib.Ieee.{Float, nan, inf, fin, eq, is_nan}
use Rattle.number.specs.Number.{same}
use Rattle.number.proofs.Laws.{no, differs}
use Rattle.number.proofs.are_same.Goals as goal

not-a-number : (a b : Float) → is_nan a ≡ true → is_nan b ≡ same a b
unfolding is_nan same
not-a-number nan b h = refl
not-a-number (inf s) b h = absurd (no h)
not-a-number (fin s m e) b h = absurd (no h)

number : (a b : Float) → is_nan a ≡ false → eq a b ≡ same a b
unfolding is_nan same
number nan b h = absurd (no (sym h))
number (inf s) b h = refl
number (fin s m e) b h = refl

pub returns-then-a : goal.returns-then-a
returns-then-a c = differs _ ∙ not-a-number _ _ (sym (differs _) ∙ c.if-a.true)

pub returns-else-a : goal.returns-else-a
returns-else-a c = number _ _ (sym (differs _) ∙ c.if-a.false)
