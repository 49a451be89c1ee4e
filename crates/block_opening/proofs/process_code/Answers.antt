-- `block_opening::process_code` meets its contract.
use mathlib.Core.Path.{◌≡◌, sym, ◌∙◌}
use mathlib.Core.Bool.{true, false}
use Rattle.model.specs.Process.{any_outside}
use Rattle.block_opening.specs.Codes.{engine_short_by, program_short_by}
use Rattle.block_opening.proofs.Codes.{code-1, code-13, code-14, code-0}
use Rattle.block_opening.proofs.process_code.Goals as goal

pub returns-then-at_most-end : goal.returns-then-at_most-end
returns-then-at_most-end c =
    let a = c.args in
    code-1 a.counts a.lent a.signals.part a.end _ c.at_most.ensures c.if-at_most-end.true

pub returns-then-any_stride : goal.returns-then-any_stride
returns-then-any_stride c =
    let a = c.args in
    code-13 a.counts a.lent a.signals.part a.end _ c.at_most.ensures c.if-at_most-end.false (sym c.any_stride.ensures ∙ c.if-any_stride.true)

pub returns-then-engine_short : goal.returns-then-engine_short
returns-then-engine_short c =
    let a = c.args in
    let t : engine_short_by a.counts a.lent ≡ true = sym c.engine_short.ensures ∙ c.if-engine_short.true in
    code-14 a.counts a.lent a.signals.part a.end _ c.at_most.ensures c.if-at_most-end.false (sym c.any_stride.ensures ∙ c.if-any_stride.false) (rw t)

pub returns-then-program_short : goal.returns-then-program_short
returns-then-program_short c =
    let a = c.args in
    let t : engine_short_by a.counts a.lent ≡ false = sym c.engine_short.ensures ∙ c.if-engine_short.false in
    let u : program_short_by a.counts a.lent ≡ true = sym c.program_short.ensures ∙ c.if-program_short.true in
    code-14 a.counts a.lent a.signals.part a.end _ c.at_most.ensures c.if-at_most-end.false (sym c.any_stride.ensures ∙ c.if-any_stride.false) (rw (t, u))

pub returns-then-any_outside : goal.returns-then-any_outside
returns-then-any_outside c =
    let a = c.args in
    let t : engine_short_by a.counts a.lent ≡ false = sym c.engine_short.ensures ∙ c.if-engine_short.false in
    let u : program_short_by a.counts a.lent ≡ false = sym c.program_short.ensures ∙ c.if-program_short.false in
    let v : any_outside a.lent.samples a.signals.part ≡ true = sym c.any_outside.ensures ∙ c.if-any_outside.true in
    code-14 a.counts a.lent a.signals.part a.end _ c.at_most.ensures c.if-at_most-end.false (sym c.any_stride.ensures ∙ c.if-any_stride.false) (rw (t, u, v))

pub returns : goal.returns
returns c =
    let a = c.args in
    code-0 a.counts a.lent a.signals.part a.end _ c.at_most.ensures c.if-at_most-end.false (sym c.any_stride.ensures ∙ c.if-any_stride.false) (sym c.engine_short.ensures ∙ c.if-engine_short.false) (sym c.program_short.ensures ∙ c.if-program_short.false) (sym c.any_outside.ensures ∙ c.if-any_outside.false)
