-- `engine_reads::short` meets its contract.
use mathlib.Core.Path.{sym, ◌∙◌}
use Rattle.engine_reads.proofs.short.Goals as goal

pub returns-then-values_short : goal.returns-then-values_short
returns-then-values_short c = simp (sym c.values_short.ensures ∙ c.if-values_short.true)

pub returns : goal.returns
returns c = simp (sym c.values_short.ensures ∙ c.if-values_short.false, c.audio_short.ensures)
