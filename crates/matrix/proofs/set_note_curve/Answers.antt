-- `matrix::set_note_curve` meets its contract.
use mathlib.Core.Path.{◌≡◌, sym, ap, ◌∙◌}
use mathlib.Core.Bool.{Bool}
use Rattle.std.proofs.lemmas.Result.{err_from_is_err_and}
use Rattle.std.specs.Prelude.{Ok}
use Rattle.state.specs.declared.Matrix.{Matrix}
use Prim.Native.Nat.{ℕ}
use Rattle.refusal.specs.Judge.{judged}
use Rattle.refusal.specs.Refusal.{number_of}
use Rattle.curve_table.specs.Table.{all_allowed}
use Rattle.slots_tables.specs.Tables.{with_table}
use Rattle.slots_tables.specs.Rows.{table_rows}
use Rattle.matrix.specs.Answers.{edited_said}
use Rattle.matrix.specs.Edits.{set_note_curve}
use Rattle.matrix.proofs.Laws.{table-rows-accepted, tabled-refused-by, tabled-accepted}
use Rattle.matrix.proofs.set_note_curve.Goals as goal

pub returns-in_err-check_table : goal.returns-in_err-check_table
unfolding set_note_curve
returns-in_err-check_table c =
    let a = c.args in
    let t = a.table.now in
    let p = err_from_is_err_and c.from_residual.result c.from_residual.ensures.1 in
    let e : number_of c.in_err-check_table.field-0.0 ≡ judged (table_rows (all_allowed t) a.tables.now t) =
    c.in_err-check_table.ensures ∙ ap (λ (b : Bool). judged (table_rows b a.tables.now t)) c.numbers_allowed-allowed.ensures in
    let done = tabled-refused-by _ _ a.matrix _ a.tables.now _ e in
    record { answer = rw (p.1, p.2) done.0; lent = done.1 }

pub write_table-requires : goal.write_table-requires
write_table-requires c =
    let a = c.args in
    let known = table-rows-accepted c.numbers_allowed-allowed.result a.tables.now a.table.now (sym c.in_ok-check_table.ensures) in
    (c.note_place.ensures.1, known.0, known.1)

pub returns : goal.returns
unfolding set_note_curve
returns c =
    let a = c.args in
    let t = a.table.now in
    let all = c.in_ok-check_table.ensures ∙ ap (λ (b : Bool). judged (table_rows b a.tables.now t)) c.numbers_allowed-allowed.ensures in
    let done = tabled-accepted _ a.matrix _ a.tables.now _ all in
    record {
      answer = ap (λ (m : Matrix). edited_said a.matrix (Ok m)) c.with_note-next.ensures ∙ done.0;
      lent = c.write_table.ensures ∙ ap (λ (p : ℕ). with_table a.tables.now p t) c.note_place.ensures.0 ∙ done.1;
    }
