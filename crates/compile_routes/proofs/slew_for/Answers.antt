-- `compile_routes::slew_for` meets its contract.
use lib.Ieee.{of_bits}
use Rattle.slew.specs.Slew.{rate_per_sample}
use Rattle.model.specs.Routes.{slew_for}
use Rattle.compile_routes.proofs.slew_for.Goals as goal

pub returns-then-seconds : goal.returns-then-seconds
unfolding slew_for rate_per_sample of_bits
returns-then-seconds c =
    rw (← c.seconds_of-seconds.ensures, c.rate_per_sample.ensures, c.rate_per_sample-2.ensures, c.if-seconds.true)

pub returns-then-seconds-2 : goal.returns-then-seconds-2
unfolding slew_for rate_per_sample of_bits
returns-then-seconds-2 c =
    rw (← c.seconds_of-seconds.ensures, c.rate_per_sample.ensures, c.rate_per_sample-2.ensures, c.if-seconds.false, c.if-seconds-2.true)

pub returns : goal.returns
unfolding slew_for of_bits
returns c = rw (← c.seconds_of-seconds.ensures, c.if-seconds.false, c.if-seconds-2.false)
