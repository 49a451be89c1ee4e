-- `draw::bits` meets its contract. Assumes nothing.
use Rattle.std.proofs.Common.{arith}
use Rattle.draw.specs.Xorshift.{draw_bits, scrambled}
use Rattle.draw.proofs.bits.Goals as goal

pub returns : goal.returns
unfolding draw_bits scrambled
returns c = omega arith
