-- `plan_sum::part_or` meets its contract.
use borrow.Author.Tests.{lt-ltb, le-ltb}
use Rattle.config.specs.Sizes.{most_sources}
use Rattle.plan_sum.proofs.part_or.Goals as goal

pub returns-then-key-lt-SOURCES : goal.returns-then-key-lt-SOURCES
returns-then-key-lt-SOURCES c = rw (lt-ltb c.args.key most_sources c.if-key-lt-SOURCES.true)

pub returns : goal.returns
returns c = rw (le-ltb c.args.key most_sources c.if-key-lt-SOURCES.false) c.no_part.ensures
