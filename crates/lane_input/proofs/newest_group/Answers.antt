-- `lane_input::newest_group` meets its contract.
use Rattle.lane_input.proofs.newest_group.Goals as goal

pub returns-in-Some : goal.returns-in-Some
returns-in-Some c = rw (c.in-Some.is, ← c.group_of.ensures.0, ← c.group_of-in-Some.ensures.0)
