-- `matrix::set_curve` meets its contract.
use mathlib.Core.Path.{◌≡◌, sym, ap, ◌∙◌}
use mathlib.Core.Bool.{Bool}
use mathlib.Core.List.{[], ◌∷◌}
use Prim.Native.Nat.{ℕ}
use lib.Dec.{leb}
use borrow.Author.Tests.{leb-false}
use Rattle.std.proofs.lemmas.Result.{err_from_is_err_and}
use Rattle.refusal.specs.Judge.{judged}
use Rattle.refusal.specs.Refusal.{number_of}
use Rattle.refusal.proofs.Laws.{judged-refused, judged-then, passes-here}
use Rattle.config.specs.Sizes.{slots}
use Rattle.curve_table.specs.declared.Curve.TheVariants as C
use Rattle.state.specs.declared.Slot.{Slot}
use Rattle.slots.specs.Matrix.{with_slot}
use Rattle.matrix.specs.Which.{with_curve}
use Rattle.slots_tables.specs.Tables.{with_table}
use Rattle.slots_tables.specs.Rows.{table_rows, curve_allowed}
use Rattle.matrix.specs.Edits.{slot_row, answered, tabled, set_curve}
use Rattle.matrix.proofs.Laws.{table-rows-accepted, tabled-refused-by, tabled-accepted, answered-same}
use Rattle.matrix.proofs.set_curve.Goals as goal

pub returns-in_err-when : goal.returns-in_err-when
unfolding set_curve
returns-in_err-when c =
    let a = c.args in
    let t = a.table.now in
    let p = err_from_is_err_and c.from_residual.result c.from_residual.ensures.1 in
    let rows = table_rows (curve_allowed t a.rise a.fall) a.tables.now t in
    let done = tabled-refused-by _ _ a.matrix _ a.tables.now _ (sym (judged-refused (slot_row a.n ∷ []) rows _ tt c.in_err-when.ensures)) in
    record { answer = rw (p.1, p.2) done.0; lent = done.1 }

pub returns-in_err-check_table : goal.returns-in_err-check_table
unfolding set_curve
returns-in_err-check_table c =
    let a = c.args in
    let t = a.table.now in
    let r = c.from_residual-in_err-check_table in
    let p = err_from_is_err_and r.result r.ensures.1 in
    let rows = table_rows (curve_allowed t a.rise a.fall) a.tables.now t in
    let e : number_of c.in_err-check_table.field-0.0 ≡ judged rows =
    c.in_err-check_table.ensures ∙ ap (λ (b : Bool). judged (table_rows b a.tables.now t)) c.curve_allowed-allowed.ensures in
    let done = tabled-refused-by _ _ a.matrix _ a.tables.now _ (e ∙ sym (judged-then (slot_row a.n ∷ []) rows tt c.in_ok-when.ensures)) in
    record { answer = rw (p.1, p.2) done.0; lent = done.1 }

pub place_of-requires : goal.place_of-requires
place_of-requires c =
    let a = c.args in
    leb-false slots a.n (passes-here (leb slots a.n) 5 tt c.in_ok-when.ensures)

pub write_table-requires : goal.write_table-requires
write_table-requires c =
    let a = c.args in
    let known = table-rows-accepted c.curve_allowed-allowed.result a.tables.now a.table.now (sym c.in_ok-check_table.ensures) in
    (c.place_of.ensures.1, known.0, known.1)

pub returns : goal.returns
unfolding set_curve tabled answered
returns c =
    let a = c.args in
    let t = a.table.now in
    let rows = table_rows (curve_allowed t a.rise a.fall) a.tables.now t in
    let rest : 0 ≡ judged rows = c.in_ok-check_table.ensures ∙ ap (λ (b : Bool). judged (table_rows b a.tables.now t)) c.curve_allowed-allowed.ensures in
    let all : 0 ≡ judged (slot_row a.n ∷ rows) = rest ∙ sym (judged-then (slot_row a.n ∷ []) rows tt c.in_ok-when.ensures) in
    let slot = c.with_curve-slot.ensures ∙ ap (with_curve a.which (C.Table a.rise a.fall)) c.slot_of.ensures in
    let done = tabled-accepted _ a.matrix _ a.tables.now _ all in
    record {
      answer =
          c.replace.ensures
          ∙ answered-same _ a.matrix _ c.in_ok-when.ensures
          ∙ ap (λ (s : Slot). answered 0 a.matrix (with_slot a.matrix a.n s)) slot
          ∙ done.0;
      lent = c.write_table.ensures ∙ ap (λ (p : ℕ). with_table a.tables.now p t) c.place_of.ensures.0 ∙ done.1;
    }
