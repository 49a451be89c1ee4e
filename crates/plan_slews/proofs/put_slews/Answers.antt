-- `plan_slews::put_slews` meets its contract.
use native.Mathlib.Omega.{arith}
use Rattle.plan_slews.proofs.put_slews.Goals as goal

pub returns : goal.returns
returns c = λ t x st d w mix lies news. c.put_made.ensures t x st d w mix.count (λ j h. mix.route j (omega (arith, mix.count))) lies news
