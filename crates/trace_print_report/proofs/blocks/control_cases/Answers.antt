use mathlib.Core.Path.{◌≡◌, refl, sym, ◌∙◌, ap}
use Prim.Native.Nat.{ℕ, ◌-◌, ◌≤◌, ◌<◌}
use native.Mathlib.Omega.{arith}
use lib.ListN.{length, get_or, set, length-set}
use lib.Seq.{get_or-set_same, get_or-set_other}
use borrow.Author.Count.{below_more}
use borrow.Author.Rules.{rules}
use Rattle.config.specs.Sizes.{most_frames, most_chunks}
use Rattle.trace_print_report.proofs.blocks.control_cases.Goals as goal

pub loop-i-init : goal.loop-i-init
loop-i-init c = (refl, refl, search rules, λ k h b. absurd (omega arith))

pub loop-i-preserved : goal.loop-i-preserved
loop-i-preserved c =
    let l = c.loop-i in
    let e = c.noted-next.ensures ∙ ap (set l.printed l.i) c.case_line-line.ensures in (
      search rules,
      rw e (length-set l.printed l.i l.i ∙ l.invariant.1),
      omega arith,
      rw e (below_more _ _
          (λ k below b. get_or-set_other l.printed l.i k l.i 0 (λ z. omega arith) ∙ l.invariant.3 k below b)
          (λ b. get_or-set_same l.printed l.i l.i 0 (omega (arith, l.invariant.1)))),
    )

pub returns : goal.returns
returns c =
    let l = c.loop-i in
    (l.invariant.1, λ k h b. l.invariant.3 k (omega arith) b)
