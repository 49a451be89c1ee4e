-- `source::is_sequence` meets its contract. Assumes nothing.
use mathlib.Core.Path.{sym, ◌∙◌}
use Rattle.source_key.proofs.Bytes.{pointwise-same}
use Rattle.source.proofs.Sequence.{sequence-value, sequence-none, sequence-index}
use Rattle.source.proofs.is_sequence.Goals as goal

pub returns-then-is_numbered : goal.returns-then-is_numbered
returns-then-is_numbered c = sym (sequence-value _ _ (sym c.is_numbered.ensures ∙ c.if-is_numbered.true))

pub returns-then-n-eq0 : goal.returns-then-n-eq0
returns-then-n-eq0 c = sym (sequence-none _ _ (sym c.is_numbered.ensures ∙ c.if-is_numbered.false) c.if-n-eq0.true)

pub returns : goal.returns
returns c = c.eq.ensures ∙ pointwise-same _ _ ∙ sym (sequence-index _ _ (sym c.is_numbered.ensures ∙ c.if-is_numbered.false) c.if-n-eq0.false)
