-- `draw::step` meets its contract: the code's shifts read as the definition's quotients and product. Assumes nothing.
use Rattle.std.proofs.Common.{refl}
use Rattle.draw.specs.Xorshift.{step}
use Rattle.draw.proofs.step.Goals as goal

pub returns : goal.returns
unfolding step
returns c = refl
