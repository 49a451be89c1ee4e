-- `hex_words::of_bits` meets its contract.
use mathlib.Core.Path.{◌∙◌}
use Rattle.hex_words.proofs.Patterns.{zero-over-zero, nan-above, number-below}
use Rattle.hex_words.proofs.of_bits.Goals as goal

pub returns-then-n-gt2139095040 : goal.returns-then-n-gt2139095040
returns-then-n-gt2139095040 c = zero-over-zero ∙ nan-above c.args.n c.if-n-gt2139095040.true

pub float_from_bits-result : goal.float_from_bits-result
float_from_bits-result c = number-below c.args.n c.if-n-gt2139095040.false
