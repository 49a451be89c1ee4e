-- `number::nearest_u64_to_f32` meets its contract.
use Rattle.std.proofs.Common.{arith}
use lib.Ieee.{of_bits}
use Rattle.number.proofs.Nearest.{upper_in, lower_in, two-parts, two-parts-sticky, sticky-small}
use Rattle.number.proofs.nearest_u64_to_f32.Goals as goal

pub int_to_float-result : goal.int_to_float-result
int_to_float-result c = upper_in _ (omega arith)

pub int_to_float-result-then-n-lt281474976710656 : goal.int_to_float-result-then-n-lt281474976710656
int_to_float-result-then-n-lt281474976710656 c = lower_in _

pub int_to_float-result-else-n-lt281474976710656 : goal.int_to_float-result-else-n-lt281474976710656
int_to_float-result-else-n-lt281474976710656 c = rw c.with_sticky_digit-m.ensures (upper_in _ (sticky-small _ (omega arith)))

pub int_to_float-result-else-n-lt281474976710656-2 : goal.int_to_float-result-else-n-lt281474976710656-2
int_to_float-result-else-n-lt281474976710656-2 c = lower_in _

pub returns-then-n-lt281474976710656 : goal.returns-then-n-lt281474976710656
unfolding of_bits
returns-then-n-lt281474976710656 c = two-parts _ (omega arith)

pub returns-else-n-lt281474976710656 : goal.returns-else-n-lt281474976710656
unfolding of_bits
returns-else-n-lt281474976710656 c = rw c.with_sticky_digit-m.ensures (two-parts-sticky _ (omega arith) (omega arith))
