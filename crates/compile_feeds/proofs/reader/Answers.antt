-- `compile_feeds::reader` meets its contract.
use Rattle.compile_feeds.proofs.reader.Goals as goal

pub returns : goal.returns
returns c =
    rw (c.feeder-4.ensures, c.feeder-3.ensures, c.feeder-2.ensures, c.aux_thing.ensures, c.feeder.ensures)
