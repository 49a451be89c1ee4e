use mathlib.Core.Path.{◌≡◌, sym}
use mathlib.Core.Bool.{false}
use Prim.Native.Nat.{ℕ, ◌+◌}
use native.Mathlib.Omega.{arith}
use borrow.Author.Count.{below_more}
use borrow.Author.Rules.{rules}
use lib.ListN.{get_or}
use Rattle.number.proofs.Laws.{no as never}
use Rattle.plan_sum.proofs.Simple.{mark-read}
use Rattle.plan_sum.proofs.some_simple.Goals as goal

pub loop-j-init : goal.loop-j-init
loop-j-init c = (search rules, search rules, λ i h. absurd (omega arith))

pub returns-then-simples-i : goal.returns-then-simples-i
returns-then-simples-i c = λ h. absurd (never (sym h))

pub loop-j-preserved : goal.loop-j-preserved
loop-j-preserved c =
    let i = c.loop-j in
    let a = c.args in
    let at = c.route_index-i in (
      omega arith,
      i.invariant.1,
      below_more (λ (k : ℕ). get_or a.simples (a.first + k) false ≡ false) i.j i.invariant.2 (mark-read a.simples (a.first + i.j) at.result _ i.invariant.1 at.ensures.1 (λ h. c.if-simples-i.false)),
    )

pub returns : goal.returns
returns c = λ h j b. c.loop-j.invariant.2 j (omega arith)
