-- `matrix::load` meets its contract.
use mathlib.Core.Path.{sym, ◌∙◌}
use Rattle.matrix.proofs.Laws.{load-barred, load-plain, load-short, load-other-short, load-named}
use Rattle.matrix.proofs.load.Goals as goal

pub returns-then-not-matrix_allowed : goal.returns-then-not-matrix_allowed
returns-then-not-matrix_allowed c =
    let done = load-barred c.args.matrix c.args.tables.now c.args.other c.args.other_tables.now (sym c.matrix_allowed.ensures ∙ c.if-not-matrix_allowed.true) in
    record { answer = done.0; lent = done.1 }

pub returns-then-not-names_table : goal.returns-then-not-names_table
returns-then-not-names_table c =
    let done = load-plain c.args.matrix c.args.tables.now c.args.other c.args.other_tables.now (sym c.matrix_allowed.ensures ∙ c.if-not-matrix_allowed.false) (sym c.names_table.ensures ∙ c.if-not-names_table.true) in
    record { answer = done.0; lent = done.1 }

pub returns-then-tables-lt-TABLES : goal.returns-then-tables-lt-TABLES
returns-then-tables-lt-TABLES c =
    let done = load-short c.args.matrix c.args.tables.now c.args.other c.args.other_tables.now (sym c.matrix_allowed.ensures ∙ c.if-not-matrix_allowed.false) (sym c.names_table.ensures ∙ c.if-not-names_table.false) c.if-tables-lt-TABLES.true in
    record { answer = done.0; lent = done.1 }

pub returns-then-other_tables-lt-TABLES : goal.returns-then-other_tables-lt-TABLES
returns-then-other_tables-lt-TABLES c =
    let done = load-other-short c.args.matrix c.args.tables.now c.args.other c.args.other_tables.now (sym c.matrix_allowed.ensures ∙ c.if-not-matrix_allowed.false) (sym c.names_table.ensures ∙ c.if-not-names_table.false) c.if-tables-lt-TABLES.false c.if-other_tables-lt-TABLES.true in
    record { answer = done.0; lent = done.1 }

pub returns : goal.returns
returns c =
    let done = load-named c.args.matrix c.args.tables.now c.args.other c.args.other_tables.now (sym c.matrix_allowed.ensures ∙ c.if-not-matrix_allowed.false) (sym c.names_table.ensures ∙ c.if-not-names_table.false) c.if-tables-lt-TABLES.false c.if-other_tables-lt-TABLES.false in
    record { answer = done.0; lent = c.write_tables.ensures ∙ done.1 }
