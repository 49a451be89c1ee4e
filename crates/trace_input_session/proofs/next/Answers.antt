-- `trace_input_session::next` meets its contract. Assumes nothing.
use Rattle.trace_input_session.proofs.Walks.{passed}
use Rattle.trace_input_session.proofs.next.Goals as goal

pub returns : goal.returns
returns c = passed _ _ _ _ c.stop.ensures c.skip.ensures
