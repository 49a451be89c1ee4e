use mathlib.Core.Path.{◌≡◌, refl, sym, ◌∙◌}
use Prim.Native.Nat.{ℕ, ◌-◌, ◌≤◌, ◌<◌}
use native.Mathlib.Omega.{arith}
use lib.ListN.{length, get_or, length-set, get_or-replicate}
use lib.Seq.{get_or-set_other}
use borrow.Author.Rules.{rules}
use Rattle.config.specs.Sizes.{slots}
use Rattle.trace_print_order.specs.Order.{none, placed}
use Rattle.trace_print_order.proofs.Laws.{placed-more, whole-order}
use Rattle.trace_print_report.proofs.blocks.planned.Goals as goal

pub loop-k-init : goal.loop-k-init
loop-k-init c =
    (search rules, refl, refl, λ j h. absurd (omega arith), λ j h b. get_or-replicate slots j none 0 b)

pub returns-then-d-eq-NONE : goal.returns-then-d-eq-NONE
returns-then-d-eq-NONE c =
    let l = c.loop-k in
    let here = c.requires.2 l.k (omega arith) in (
      l.invariant.2,
      λ j b. whole-order c.args.dests.now l.printed l.k (sym here ∙ c.if-d-eq-NONE.true) l.invariant.3
          (λ i h e. l.invariant.4 i h (omega (arith, l.invariant.2))) j (omega (arith, l.invariant.2)),
    )

pub loop-k-preserved : goal.loop-k-preserved
loop-k-preserved c =
    let l = c.loop-k in
    let e = c.one-lines.ensures ∙ c.requires.2 l.k (omega arith) in (
      search rules,
      search rules,
      simp length-set l.invariant.2,
      rw e (placed-more c.args.dests.now l.printed l.k (omega (arith, l.invariant.2)) l.invariant.3),
      λ j h b. get_or-set_other l.printed l.k j _ 0 (λ z. omega arith) ∙ l.invariant.4 j (omega arith) b,
    )

pub returns : goal.returns
returns c =
    let l = c.loop-k in
    (l.invariant.2, λ j b. l.invariant.3 j (omega arith))
