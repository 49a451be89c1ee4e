-- `curve_table::seconds_finite` meets its contract.
use mathlib.Core.Path.{◌≡◌, sym, ap, ◌∙◌}
use mathlib.Core.Bool.{Bool, false, ◌&&◌}
use borrow.Author.Rules.{rules}
use Rattle.list.proofs.Bools.{and-true}
use Rattle.curve_table.specs.Curve.{seconds_finite}
use Rattle.curve_table.proofs.seconds_finite.Goals as goal

first : {a : Bool} (b : Bool) → a ≡ false → a ≡ (a && b)
first b h = rw h

pub returns-in-Linear : goal.returns-in-Linear
unfolding seconds_finite
returns-in-Linear c = search rules

pub returns-then-is_finite : goal.returns-then-is_finite
unfolding seconds_finite
returns-then-is_finite c =
    c.is_finite-then-is_finite.ensures ∙ and-true (sym c.is_finite.ensures ∙ c.if-is_finite.true) ∙ sym (ap seconds_finite c.in-Table.is)

pub returns-else-is_finite : goal.returns-else-is_finite
unfolding seconds_finite
returns-else-is_finite c =
    c.is_finite.ensures ∙ first _ (sym c.is_finite.ensures ∙ c.if-is_finite.false) ∙ sym (ap seconds_finite c.in-Table.is)
