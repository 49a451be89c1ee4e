-- `lane::rowed` meets its contract.
use Rattle.lane.proofs.Values.{signal-rowed}
use Rattle.lane.proofs.rowed.Goals as goal

pub returns-in-Signal : goal.returns-in-Signal
returns-in-Signal c = λ t e d p. signal-rowed t _ e d p c.in-Signal.is c.signal_rowed.ensures

pub returns-in-Held : goal.returns-in-Held
returns-in-Held c = λ t e d p. rw c.in-Held.is

pub returns-in-Fed : goal.returns-in-Fed
returns-in-Fed c = λ t e d p. rw c.in-Fed.is

pub returns-in-Constant : goal.returns-in-Constant
returns-in-Constant c = λ t e d p. rw c.in-Constant.is

pub returns-in-RouteRandom : goal.returns-in-RouteRandom
returns-in-RouteRandom c = λ t e d p. rw c.in-RouteRandom.is
