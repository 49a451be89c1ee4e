-- `engine_settings::new_short` meets its contract.
use borrow.Author.Rules.{rules}
use Rattle.engine_settings.proofs.Tests.{below, not-below}
use Rattle.engine_settings.proofs.new_short.Goals as goal

pub returns-then-held-held_need : goal.returns-then-held-held_need
returns-then-held-held_need c = simp (below _ _ _ c.held_need.ensures c.if-held-held_need.true)

pub returns-then-globals-sources_of : goal.returns-then-globals-sources_of
returns-then-globals-sources_of c = simp (not-below _ _ _ c.held_need.ensures c.if-held-held_need.false, below _ _ _ c.sources_of.ensures c.if-globals-sources_of.true)

pub returns : goal.returns
returns c = simp (not-below _ _ _ c.held_need.ensures c.if-held-held_need.false, not-below _ _ _ c.sources_of.ensures c.if-globals-sources_of.false, c.dests_of.ensures)
