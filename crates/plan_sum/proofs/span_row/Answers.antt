use borrow.Author.Rules.{rules}
use mathlib.Core.Path.{◌≡◌, refl, sym}
use Prim.Native.Nat.{ℕ}
use native.Mathlib.Omega.{arith}
use lib.Ieee.{Float}
use lib.ListN.{length}
use Rattle.plan_sum.proofs.Lanes.{ranged-none, ranged-more, ranged-cond}
use Rattle.plan_sum.proofs.span_row.Goals as goal

pub loop-l-init : goal.loop-l-init
loop-l-init c = (omega arith, omega arith, ranged-none _ _ _)

pub loop-l-preserved : goal.loop-l-preserved
loop-l-preserved c = let i = c.loop-l in
    let long : length c.args.row ≡ 64 = search (rules, c.well_formed.1.1.0) in
    (omega arith, omega arith, ranged-more i.invariant.2 i.invariant.0 (omega arith) refl)

pub returns : goal.returns
returns c = λ l.
    let a = c.args in
    let q : c.loop-l.l ≡ a.span.end = omega arith in
    rw (sym q) (ranged-cond c.loop-l.invariant.2 (λ (i : ℕ) (y : Float). a.x) (λ i y z e. e) l)
