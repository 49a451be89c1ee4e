-- What a reply by rows says: its number is what the rows say. Assumes nothing.
use mathlib.Core.Path.{◌≡◌, refl, sym}
use mathlib.Core.Logic.{◌≢◌}
use mathlib.Core.List.{List}
use native.Mathlib.Decide.{ℕ_discrete}
use borrow.Author.Tests.{eq-eqb, ne_eqb}
use Rattle.refusal.specs.Judge.{Row, judged}
use Rattle.reply.specs.Reply.{accepts, refuses, by_rows}

module _ {A : Type 0} (rows : List Row) (vs : List A) where
  pub by-accepted : judged rows ≡ 0 → by_rows rows vs ≡ accepts vs
  unfolding by_rows
  by-accepted e = rw (eq-eqb (judged rows) 0 e)

  pub by-refused : judged rows ≢ 0 → by_rows rows vs ≡ refuses (judged rows)
  unfolding by_rows
  by-refused ne = rw (ne_eqb (judged rows) 0 ne)

  pub by_number : (by_rows rows vs).number ≡ judged rows
  by_number = elim (ℕ_discrete (judged rows) 0) [ yes e ↦ rw (by-accepted e) (sym e) | no ne ↦ rw (by-refused ne) refl ]
