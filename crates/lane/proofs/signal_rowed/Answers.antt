-- `lane::signal_rowed` meets its contract.
use Rattle.lane.proofs.signal_rowed.Goals as goal

pub returns-then-not-voice : goal.returns-then-not-voice
returns-then-not-voice c = rw (c.if-not-voice.true)

pub returns : goal.returns
returns c = rw (c.if-not-voice.false) c.row_whole.ensures
