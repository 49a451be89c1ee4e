-- `plan_sum::plain_row` meets its contract.
use native.Mathlib.Omega.{arith}
use Rattle.model.specs.Counts.{at}
use Rattle.plan_sum.proofs.Steps.{span-start}
use Rattle.plan_sum.proofs.plain_row.Goals as goal

pub span_row-begun-requires : goal.span_row-begun-requires
span_row-begun-requires c = (c.span_of-span.ensures.0, omega (arith, c.span_of-span.ensures.1, c.requires.stride))

pub add_plains-requires : goal.add_plains-requires
add_plains-requires c = (c.requires, c.span_of-span.ensures.0, c.span_of-span.ensures.1)

pub returns : goal.returns
returns c = λ t f s x k e l h.
    let a = c.args in
    let sp = c.span_of-span.ensures.2 t k.job.scene in
    c.add_plains.ensures t f s x k sp l h (at a.row l) (span-start _ _ (at a.row l) a.start (c.span_row-begun.ensures l) (sp l (rw k.job.scene.stride h)) e)
