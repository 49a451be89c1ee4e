-- `source::SourceInfo::global` meets its contract. Assumes nothing.
use mathlib.Core.Path.{sym, ◌∙◌}
use Rattle.source.proofs.SourceInfo.global.Goals as goal

pub returns-then-not-is_engine_owned : goal.returns-then-not-is_engine_owned
returns-then-not-is_engine_owned c = simp (sym c.is_engine_owned.ensures ∙ c.if-not-is_engine_owned.true)

pub returns-else-not-is_engine_owned : goal.returns-else-not-is_engine_owned
returns-else-not-is_engine_owned c = simp (sym c.is_engine_owned.ensures ∙ c.if-not-is_engine_owned.false)
