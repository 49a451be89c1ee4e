-- `source::with_sequence` meets its contract. Assumes nothing.
use mathlib.Core.Path.{sym}
use Rattle.source.specs.Standard.{with_sequence}
use Rattle.source.proofs.Written.{sequence-some}
use Rattle.source.proofs.with_sequence.Goals as goal

pub returns-then-count-eq0 : goal.returns-then-count-eq0
unfolding with_sequence
returns-then-count-eq0 c = rw c.if-count-eq0.true

pub returns : goal.returns
returns c =
    rw (c.with_source.ensures, c.with_numbered-values.ensures, c.held_info-info.ensures) (sym (sequence-some _ _ c.if-count-eq0.false))
