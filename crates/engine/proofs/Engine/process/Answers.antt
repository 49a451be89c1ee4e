-- `Engine::process` meets its contract.
use mathlib.Core.Path.{sym, ◌∙◌}
use Rattle.std.proofs.lemmas.Result.{err_from_is_err_and}
use Rattle.block.proofs.Blocks.{has_room, answered-refused}
use Rattle.engine.proofs.Refused.{number-taken}
use Rattle.refusal.specs.Refusal.{number_of}
use Rattle.engine.proofs.Processing.{process-done}
use Rattle.engine.proofs.Engine.process.Goals as goal

pub answered-small-requires : goal.answered-small-requires
answered-small-requires c z =
    let a = c.args in
    let h = has_room a.self.state _ a.signals.part a.end (sym c.code-judged.ensures ∙ z) in
    (h.0, h.1.0, h.1.1)

pub returns-in_err-judged : goal.returns-in_err-judged
returns-in_err-judged c =
    let a = c.args in
    let n = c.in_err-judged.field-0.0 in
    let coded = rw c.in_err-judged.was at c.code-judged.ensures in
    let left = rw c.in_err-judged.was at c.answered-small.ensures in
    let r = process-done a.self.state a.held.now a.globals.now a.bases.now a.values.now a.audio.now a.tables.now a.samples.now a.signals a.start a.end (number_of n) coded a.self.state a.held.now a.globals.now a.values.now a.audio.now (answered-refused a.samples.now a.signals a.start a.end _ _ (number-taken n)) in
    let m = process-done a.self.state a.held.now a.globals.now a.bases.now a.values.now a.audio.now a.tables.now a.samples.now a.signals a.start a.end (number_of n) coded _ _ _ _ _ left in
    let p = err_from_is_err_and c.from_residual.result c.from_residual.ensures.1 in
    rw (p.1, p.2) (record { answer = r.0; lent = m.1 })

pub returns : goal.returns
returns c =
    let a = c.args in
    let coded = rw c.in_ok-judged.was at c.code-judged.ensures in
    let left = rw c.in_ok-judged.was at c.answered-small.ensures in
    let r = process-done a.self.state a.held.now a.globals.now a.bases.now a.values.now a.audio.now a.tables.now a.samples.now a.signals a.start a.end 0 coded _ _ _ _ _ left in
    record { answer = r.0; lent = r.1 }
