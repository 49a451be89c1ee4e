-- `compile_feeds::counted` meets its contract.
use Rattle.compile_feeds.proofs.counted.Goals as goal

pub returns-in-Source : goal.returns-in-Source
returns-in-Source c = rw (c.counted_source.ensures, c.in-Source.is)

pub returns-in-Amount : goal.returns-in-Amount
returns-in-Amount c = rw (c.counted_amount.ensures, c.in-Amount.is)

pub returns-in-Output : goal.returns-in-Output
returns-in-Output c = rw (c.counted_output.ensures, c.in-Output.is)
