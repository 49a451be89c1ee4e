-- `hex_words::bits_of` meets its contract.
use Rattle.hex_words.proofs.Patterns.{pattern-of-nan, no_nan}
use Rattle.hex_words.proofs.bits_of.Goals as goal

pub returns-then-x : goal.returns-then-x
returns-then-x c = pattern-of-nan _ c.if-x.true

pub float_to_bits-result : goal.float_to_bits-result
float_to_bits-result c = no_nan _ c.if-x.false
