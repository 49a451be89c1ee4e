-- `lane_input::read_in` meets its contract.
use lib.Ieee.{of_bits}
use Rattle.lane_input.proofs.Reading.{signal-read, held-read, fed-read}
use Rattle.lane_input.proofs.read_in.Goals as goal

pub returns-in-Signal : goal.returns-in-Signal
returns-in-Signal c = λ t f see e. let a = c.args in signal-read see a.random a.lane _ c.in-Signal.is e c.sample_in.ensures

pub returns-in-Held : goal.returns-in-Held
returns-in-Held c = λ t f see e. let a = c.args in held-read see a.random a.lane c.in-Held.is c.held_at.ensures

pub returns-in-Fed : goal.returns-in-Fed
returns-in-Fed c = λ t f see e. let a = c.args in fed-read see a.random a.lane c.in-Fed.is c.plan_in.ensures

pub returns-in-Constant : goal.returns-in-Constant
unfolding of_bits
returns-in-Constant c = λ t f see e. rw c.in-Constant.is

pub returns-in-RouteRandom : goal.returns-in-RouteRandom
returns-in-RouteRandom c = λ t f see e. rw c.in-RouteRandom.is
