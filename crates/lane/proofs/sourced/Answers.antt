-- `lane::sourced` meets its contract.
use mathlib.Core.Path.{sym, ◌∙◌}
use Rattle.lane.proofs.sourced.Goals as goal

pub returns-then-is_bare : goal.returns-then-is_bare
returns-then-is_bare c = λ t f s j v e. rw (sym c.is_bare.ensures ∙ c.if-is_bare.true, ← c.raw_in-raw.ensures t f s j v.reads v.own v.source)

pub returns : goal.returns
returns c = λ t f s j v e. rw (sym c.is_bare.ensures ∙ c.if-is_bare.false, ← c.source_in-u.ensures t f s j v e) c.spread.ensures
