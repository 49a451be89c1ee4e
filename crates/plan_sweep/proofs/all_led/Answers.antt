use Prim.Native.Nat.{ℕ, ◌+◌, ◌<◌}
use native.Mathlib.Omega.{arith}
use borrow.Author.Count.{below_more}
use lib.ListN.{get_or}
use Rattle.plan_sweep.proofs.Kept.{never, positive}
use borrow.Author.Rules.{rules}
use Rattle.plan_sweep.proofs.all_led.Goals as goal

pub loop-j-init : goal.loop-j-init
loop-j-init c = (search rules, λ i h. absurd (omega arith))

pub returns-then-steps-i-eq0 : goal.returns-then-steps-i-eq0
returns-then-steps-i-eq0 c = λ h. never h

pub loop-j-preserved : goal.loop-j-preserved
loop-j-preserved c = let l = c.loop-j in
    let a = c.args in
    (omega arith, below_more (λ (i : ℕ). 0 < get_or a.steps.now (a.first + i) 0) l.j l.invariant.1 (positive _ c.if-steps-i-eq0.false))

pub returns : goal.returns
returns c = λ h j b. c.loop-j.invariant.1 j (omega arith)
