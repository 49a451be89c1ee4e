-- `program::compile` meets its contract.
use mathlib.Core.Path.{◌≡◌, sym, ap, ◌∙◌}
use lib.Ieee.{Float}
use lib.ListN.{length}
use mathlib.Core.List.{List}
use Rattle.std.proofs.lemmas.Result.{err_from_is_err_and}
use Rattle.config.specs.Sizes.{slots}
use Rattle.state.specs.declared.Wiring.{Wiring}
use Rattle.model.specs.Compile.{Memories, Made}
use Rattle.program.proofs.Compiling.{compile-early-by, refused-by-tables, refused-by-memory, made, values-fit, audio-fits}
use Rattle.program.proofs.compile.Goals as goal

pub returns-in_err-check_early : goal.returns-in_err-check_early
returns-in_err-check_early c =
    let a = c.args in
    let p = err_from_is_err_and c.from_residual.result c.from_residual.ensures.1 in
    let w : Wiring = record { matrix = a.matrix; sources = a.sources; dests = a.dests; config = a.config } in
    let mt : List Float = a.matrix_tables.now in
    let l : Memories = record { values = a.values.now; audio = a.audio.now; tables = a.tables.now } in
    let m = compile-early-by w mt l c.in_err-check_early.field-0.0 c.in_err-check_early.ensures in
    record { answer = rw (p.1, p.2) (sym (ap (λ (x : Made). x.answer) m)); lent = sym (ap (λ (x : Made). x.lent) m) }

pub returns-then-tables_short : goal.returns-then-tables_short
returns-then-tables_short c =
    let a = c.args in
    let w : Wiring = record { matrix = a.matrix; sources = a.sources; dests = a.dests; config = a.config } in
    let mt : List Float = a.matrix_tables.now in
    let l : Memories = record { values = a.values.now; audio = a.audio.now; tables = a.tables.now } in
    let long : length a.matrix.slot ≡ slots = c.well_formed.0.1.1.0.1.0.1 in
    let e = sym c.in_ok-check_early.ensures in
    let p = c.compiled-program.result in
    let is = c.compiled-program.ensures in
    let m = refused-by-tables w mt l long e p is (sym c.tables_short.ensures ∙ c.if-tables_short.true) in
    record { answer = sym (ap (λ (x : Made). x.answer) m); lent = sym (ap (λ (x : Made). x.lent) m) }

pub returns-then-memory_short : goal.returns-then-memory_short
returns-then-memory_short c =
    let a = c.args in
    let w : Wiring = record { matrix = a.matrix; sources = a.sources; dests = a.dests; config = a.config } in
    let mt : List Float = a.matrix_tables.now in
    let l : Memories = record { values = a.values.now; audio = a.audio.now; tables = a.tables.now } in
    let long : length a.matrix.slot ≡ slots = c.well_formed.0.1.1.0.1.0.1 in
    let e = sym c.in_ok-check_early.ensures in
    let p = c.compiled-program.result in
    let is = c.compiled-program.ensures in
    let m = refused-by-memory w mt l long e p is (sym c.tables_short.ensures ∙ c.if-tables_short.false) (sym c.memory_short.ensures ∙ c.if-memory_short.true) in
    record { answer = sym (ap (λ (x : Made). x.answer) m); lent = sym (ap (λ (x : Made). x.lent) m) }

pub zero-requires : goal.zero-requires
zero-requires c =
    let a = c.args in
    let w : Wiring = record { matrix = a.matrix; sources = a.sources; dests = a.dests; config = a.config } in
    let mt : List Float = a.matrix_tables.now in
    let l : Memories = record { values = a.values.now; audio = a.audio.now; tables = a.tables.now } in
    let long : length a.matrix.slot ≡ slots = c.well_formed.0.1.1.0.1.0.1 in
    let e = sym c.in_ok-check_early.ensures in
    let p = c.compiled-program.result in
    let is = c.compiled-program.ensures in
    rw c.values_need.ensures (values-fit w mt l long e p is (sym c.memory_short.ensures ∙ c.if-memory_short.false))

pub zero-requires-2 : goal.zero-requires-2
zero-requires-2 c =
    let a = c.args in
    let w : Wiring = record { matrix = a.matrix; sources = a.sources; dests = a.dests; config = a.config } in
    let mt : List Float = a.matrix_tables.now in
    let l : Memories = record { values = a.values.now; audio = a.audio.now; tables = a.tables.now } in
    let long : length a.matrix.slot ≡ slots = c.well_formed.0.1.1.0.1.0.1 in
    let e = sym c.in_ok-check_early.ensures in
    let p = c.compiled-program.result in
    let is = c.compiled-program.ensures in
    rw c.audio_need.ensures (audio-fits w mt l long e p is (sym c.memory_short.ensures ∙ c.if-memory_short.false))

pub returns : goal.returns
returns c =
    let a = c.args in
    let w : Wiring = record { matrix = a.matrix; sources = a.sources; dests = a.dests; config = a.config } in
    let mt : List Float = a.matrix_tables.now in
    let l : Memories = record { values = a.values.now; audio = a.audio.now; tables = a.tables.now } in
    let long : length a.matrix.slot ≡ slots = c.well_formed.0.1.1.0.1.0.1 in
    let e = sym c.in_ok-check_early.ensures in
    let p = c.compiled-program.result in
    let is = c.compiled-program.ensures in
    let m = made w mt l long e p is (sym c.tables_short.ensures ∙ c.if-tables_short.false) (sym c.memory_short.ensures ∙ c.if-memory_short.false) in
    record { answer = sym (ap (λ (x : Made). x.answer) m); lent = rw (c.zero.ensures, c.values_need.ensures, c.zero-2.ensures, c.audio_need.ensures, c.copy_tables.ensures) (sym (ap (λ (x : Made). x.lent) m)) }
