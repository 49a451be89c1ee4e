-- `draw::wrapping_mul` meets its contract. Each product of two halves fits 64 bits; modulo 2^64 the product of the upper halves falls away. Assumes nothing.
use Rattle.std.proofs.Common.{arith, rules}
use Rattle.draw.proofs.Mul.{halves, by-halves}
use Rattle.draw.proofs.wrapping_mul.Goals as goal

pub overflow_mul-low : goal.overflow_mul-low
overflow_mul-low c = record { fits = halves _ _ (search rules) (search rules) }

pub overflow_mul-p : goal.overflow_mul-p
overflow_mul-p c = record { fits = halves _ _ (search rules) (search rules) }

pub overflow_mul-q : goal.overflow_mul-q
overflow_mul-q c = record { fits = halves _ _ (search rules) (search rules) }

pub returns : goal.returns
returns c = omega (arith, c.wrapping_add_u64.ensures, by-halves c.args.a c.args.b)
