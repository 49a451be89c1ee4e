use borrow.Author.Rules.{rules}
use native.Mathlib.Omega.{arith}
use Rattle.block.proofs.Steps.{keeps_self, keeps_on}
use Rattle.block.proofs.Blocks.{step-ready, steps-none, steps-more, steps_all}
use Rattle.block.proofs.each_step.Goals as goal

pub loop-i-init : goal.loop-i-init
loop-i-init c = (search rules, search rules, search rules, search rules, keeps_self _, steps-none _ _ _ _)

pub of-c-requires : goal.of-c-requires
of-c-requires c = omega (arith, c.total-n.ensures, c.loop-i-test.true)

pub chunk_step-after-requires : goal.chunk_step-after-requires
chunk_step-after-requires c =
    let l = c.loop-i in
    step-ready l.invariant.4 c.args.block l.i _ _ _ _ _ _ _ l.invariant.1 l.invariant.2 l.invariant.3 c.requires.0 c.requires.1 (omega (arith, c.total-n.ensures, c.loop-i-test.true)) c.of-c.ensures

pub loop-i-preserved : goal.loop-i-preserved
loop-i-preserved c =
    let l = c.loop-i in
    let k = c.chunk_step-after in
    (omega (arith, c.loop-i-test.true), search rules, search rules, search rules, keeps_on l.invariant.4 k.ensures.1, steps-more _ _ _ _ l.i _ _ _ l.invariant.5 c.of-c.ensures k.ensures.0)

pub returns : goal.returns
returns c = let l = c.loop-i in steps_all _ _ _ _ l.i _ _ l.invariant.5 (omega arith) c.total-n.ensures
