-- `compile_feeds::aux_thing` meets its contract.
use Rattle.compile_feeds.proofs.aux_thing.Goals as goal

pub returns-in-Some : goal.returns-in-Some
returns-in-Some c = rw c.in-Some.is
