-- `matrix::sort` meets its contract.
use mathlib.Core.Path.{sym, ap, ◌∙◌}
use mathlib.Core.Bool.{Bool}
use mathlib.Core.List.{map}
use Rattle.slots.specs.Matrix.{with_slots}
use Rattle.matrix_sorting.specs.Keys.{key_of}
use Rattle.matrix_sorting.specs.Order.{sorted_places}
use Rattle.matrix.specs.Edits.{sorted_from}
use Rattle.matrix.proofs.Laws.{sort-barred, sort-plain, sort-short, sort-named}
use Rattle.matrix.proofs.sort.Goals as goal

pub returns-then-not-matrix_allowed : goal.returns-then-not-matrix_allowed
returns-then-not-matrix_allowed c =
    let done = sort-barred c.args.matrix c.args.tables.now c.args.by (sym c.matrix_allowed.ensures ∙ c.if-not-matrix_allowed.true) in
    record { answer = done.0; lent = done.1 }

pub returns-then-not-names_table : goal.returns-then-not-names_table
unfolding sorted_from
returns-then-not-names_table c =
    let m = c.args.matrix in
    let places = c.places_by-places.ensures.is ∙ ap (λ (b : Bool). sorted_places (map (key_of b) m.slot)) c.by_source.ensures in
    let next = c.with_slots-next.ensures ∙ ap (with_slots m) c.slots_at.ensures in
    let done = sort-plain c.args.matrix c.args.tables.now c.args.by (sym c.matrix_allowed.ensures ∙ c.if-not-matrix_allowed.false) _ _ (sym c.names_table.ensures ∙ c.if-not-names_table.true) places next in
    record { answer = done.0; lent = done.1 }

pub returns-then-tables-lt-TABLES : goal.returns-then-tables-lt-TABLES
returns-then-tables-lt-TABLES c =
    let done = sort-short c.args.matrix c.args.tables.now c.args.by (sym c.matrix_allowed.ensures ∙ c.if-not-matrix_allowed.false) (sym c.names_table.ensures ∙ c.if-not-names_table.false) c.if-tables-lt-TABLES.true in
    record { answer = done.0; lent = done.1 }

pub returns : goal.returns
unfolding sorted_from
returns c =
    let m = c.args.matrix in
    let places = c.places_by-places.ensures.is ∙ ap (λ (b : Bool). sorted_places (map (key_of b) m.slot)) c.by_source.ensures in
    let next = c.with_slots-next.ensures ∙ ap (with_slots m) c.slots_at.ensures in
    let done = sort-named c.args.matrix c.args.tables.now c.args.by (sym c.matrix_allowed.ensures ∙ c.if-not-matrix_allowed.false) _ _ (sym c.names_table.ensures ∙ c.if-not-names_table.false) c.if-tables-lt-TABLES.false places next in
    record { answer = done.0; lent = c.move_tables.ensures ∙ done.1 }
