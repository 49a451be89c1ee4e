-- `decimal::quotient` meets its contract. Assumes nothing.
use native.Mathlib.Omega.{arith}
use Rattle.decimal.proofs.Rounding.{five-pos, five-small, few-wide, few-raised, short, quotient-number, quotient_is}
use borrow.Author.Rules.{rules}
use Rattle.decimal.proofs.quotient.Goals as goal

pub widened-b-requires : goal.widened-b-requires
widened-b-requires c = (omega (arith, five-pos c.args.k, c.power_of_five.ensures), omega (arith, five-small c.args.k c.requires.2, c.power_of_five.ensures), search rules)

pub raised-a-requires : goal.raised-a-requires
raised-a-requires c = (search rules, c.widened-b.ensures.2, c.widened-b.ensures.1)

pub nearest-c-requires : goal.nearest-c-requires
nearest-c-requires c = (c.widened-b.ensures.2, c.raised-a.ensures.2)

pub overflow_add-result : goal.overflow_add-result
overflow_add-result c = omega (arith, few-wide _ _ _ _ _ _ _ _ c.requires.0 c.requires.2 c.power_of_five.ensures c.widened-b.ensures.0 c.widened-b.ensures.2 c.raised-a.ensures.0 c.raised-a.ensures.1 c.raised-a.ensures.2 c.nearest-c.ensures)

pub overflow_sub-result : goal.overflow_sub-result
overflow_sub-result c = omega (arith, few-wide _ _ _ _ _ _ _ _ c.requires.0 c.requires.2 c.power_of_five.ensures c.widened-b.ensures.0 c.widened-b.ensures.2 c.raised-a.ensures.0 c.raised-a.ensures.1 c.raised-a.ensures.2 c.nearest-c.ensures, few-raised _ _ _ _ _ _ _ _ c.requires.0 c.requires.2 c.power_of_five.ensures c.widened-b.ensures.0 c.widened-b.ensures.2 c.raised-a.ensures.0 c.raised-a.ensures.1 c.raised-a.ensures.2 c.nearest-c.ensures, short _ _ _ _ _ _ _ _ c.requires.0 c.requires.2 c.power_of_five.ensures c.widened-b.ensures.0 c.widened-b.ensures.2 c.raised-a.ensures.0 c.raised-a.ensures.1 c.raised-a.ensures.2 c.nearest-c.ensures)

pub overflow_sub-result-2 : goal.overflow_sub-result-2
overflow_sub-result-2 c = omega (arith, few-wide _ _ _ _ _ _ _ _ c.requires.0 c.requires.2 c.power_of_five.ensures c.widened-b.ensures.0 c.widened-b.ensures.2 c.raised-a.ensures.0 c.raised-a.ensures.1 c.raised-a.ensures.2 c.nearest-c.ensures, few-raised _ _ _ _ _ _ _ _ c.requires.0 c.requires.2 c.power_of_five.ensures c.widened-b.ensures.0 c.widened-b.ensures.2 c.raised-a.ensures.0 c.raised-a.ensures.1 c.raised-a.ensures.2 c.nearest-c.ensures, short _ _ _ _ _ _ _ _ c.requires.0 c.requires.2 c.power_of_five.ensures c.widened-b.ensures.0 c.widened-b.ensures.2 c.raised-a.ensures.0 c.raised-a.ensures.1 c.raised-a.ensures.2 c.nearest-c.ensures)

pub overflow_mul-result : goal.overflow_mul-result
overflow_mul-result c = omega (arith, few-wide _ _ _ _ _ _ _ _ c.requires.0 c.requires.2 c.power_of_five.ensures c.widened-b.ensures.0 c.widened-b.ensures.2 c.raised-a.ensures.0 c.raised-a.ensures.1 c.raised-a.ensures.2 c.nearest-c.ensures, few-raised _ _ _ _ _ _ _ _ c.requires.0 c.requires.2 c.power_of_five.ensures c.widened-b.ensures.0 c.widened-b.ensures.2 c.raised-a.ensures.0 c.raised-a.ensures.1 c.raised-a.ensures.2 c.nearest-c.ensures, short _ _ _ _ _ _ _ _ c.requires.0 c.requires.2 c.power_of_five.ensures c.widened-b.ensures.0 c.widened-b.ensures.2 c.raised-a.ensures.0 c.raised-a.ensures.1 c.raised-a.ensures.2 c.nearest-c.ensures)

pub overflow_add-result-2 : goal.overflow_add-result-2
overflow_add-result-2 c = omega (arith, few-wide _ _ _ _ _ _ _ _ c.requires.0 c.requires.2 c.power_of_five.ensures c.widened-b.ensures.0 c.widened-b.ensures.2 c.raised-a.ensures.0 c.raised-a.ensures.1 c.raised-a.ensures.2 c.nearest-c.ensures, few-raised _ _ _ _ _ _ _ _ c.requires.0 c.requires.2 c.power_of_five.ensures c.widened-b.ensures.0 c.widened-b.ensures.2 c.raised-a.ensures.0 c.raised-a.ensures.1 c.raised-a.ensures.2 c.nearest-c.ensures, short _ _ _ _ _ _ _ _ c.requires.0 c.requires.2 c.power_of_five.ensures c.widened-b.ensures.0 c.widened-b.ensures.2 c.raised-a.ensures.0 c.raised-a.ensures.1 c.raised-a.ensures.2 c.nearest-c.ensures)

pub overflow_cast-result : goal.overflow_cast-result
overflow_cast-result c = omega (arith, few-wide _ _ _ _ _ _ _ _ c.requires.0 c.requires.2 c.power_of_five.ensures c.widened-b.ensures.0 c.widened-b.ensures.2 c.raised-a.ensures.0 c.raised-a.ensures.1 c.raised-a.ensures.2 c.nearest-c.ensures, few-raised _ _ _ _ _ _ _ _ c.requires.0 c.requires.2 c.power_of_five.ensures c.widened-b.ensures.0 c.widened-b.ensures.2 c.raised-a.ensures.0 c.raised-a.ensures.1 c.raised-a.ensures.2 c.nearest-c.ensures, short _ _ _ _ _ _ _ _ c.requires.0 c.requires.2 c.power_of_five.ensures c.widened-b.ensures.0 c.widened-b.ensures.2 c.raised-a.ensures.0 c.raised-a.ensures.1 c.raised-a.ensures.2 c.nearest-c.ensures)

pub float_from_bits-result : goal.float_from_bits-result
float_from_bits-result c = quotient-number _ _ _ _ _ _ _ _ c.requires.0 c.requires.2 c.power_of_five.ensures c.widened-b.ensures.0 c.widened-b.ensures.2 c.raised-a.ensures.0 c.raised-a.ensures.1 c.raised-a.ensures.2 c.nearest-c.ensures

pub returns : goal.returns
returns c = quotient_is _ _ _ _ _ _ _ _ c.requires.0 c.requires.2 c.power_of_five.ensures c.widened-b.ensures.0 c.widened-b.ensures.2 c.raised-a.ensures.0 c.raised-a.ensures.1 c.raised-a.ensures.2 c.nearest-c.ensures
