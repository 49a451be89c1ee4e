-- `trace_grammar::after` meets its contract. Assumes nothing.
use native.Mathlib.Omega.{arith}
use Rattle.trace_grammar.proofs.Laws.{specs-within, samples-within}
use Rattle.trace_grammar.proofs.after.Goals as goal

pub overflow_add-result : goal.overflow_add-result
overflow_add-result c = omega (arith, c.spec_row.ensures, specs-within c.args.w.now)

pub overflow_mul-result : goal.overflow_mul-result
overflow_mul-result c = omega (arith, c.spec_row.ensures, specs-within c.args.w.now)

pub overflow_add-result-in-Samples : goal.overflow_add-result-in-Samples
overflow_add-result-in-Samples c = omega (arith, c.samples_row.ensures, samples-within c.args.w.now)

pub overflow_mul-result-in-Samples : goal.overflow_mul-result-in-Samples
overflow_mul-result-in-Samples c = omega (arith, c.samples_row.ensures, samples-within c.args.w.now)
