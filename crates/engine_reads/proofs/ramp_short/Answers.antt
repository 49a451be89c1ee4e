-- `engine_reads::ramp_short` meets its contract.
use mathlib.Core.Path.{sym, ◌∙◌}
use Rattle.engine_reads.proofs.ramp_short.Goals as goal

pub returns-then-values_short : goal.returns-then-values_short
returns-then-values_short c = simp (sym c.values_short.ensures ∙ c.if-values_short.true)

pub returns : goal.returns
returns c = rw (c.frames_of.ensures, sym c.values_short.ensures ∙ c.if-values_short.false)
