-- `trace_grammar::kind_at` meets its contract. Assumes nothing.
use mathlib.Core.Path.{◌≡◌, refl, sym, ap, ◌∙◌}
use Prim.Native.Nat.{ℕ, ◌+◌, ◌*◌, ◌/◌, ◌%◌, ◌≤◌}
use native.Mathlib.Omega.{arith}
use lib.ListN.{get_or, get_or-eq_default}
use Rattle.trace_grammar_kinds.specs.declared.Kind.TheVariants.{End}
use Rattle.trace_grammar.specs.Grammar.{table, kind_at}
use Rattle.trace_grammar.specs.declared.TheConstants.{ROWS}
use Rattle.trace_grammar.proofs.Laws.{at-place}
use Rattle.trace_grammar.proofs.kind_at.Goals as goal

pub returns-then-s-lt50 : goal.returns-then-s-lt50
unfolding kind_at table
returns-then-s-lt50 c =
    let s = c.args.s in
    let e : 7 * (s / 7) + s % 7 ≡ s = omega arith in
    at-place ROWS (s / 7) (s % 7) refl (omega arith) ∙ ap (λ (n : ℕ). get_or table n End) e

pub returns-else-s-lt50 : goal.returns-else-s-lt50
unfolding kind_at table
returns-else-s-lt50 c =
    let past : 350 ≤ c.args.s = omega (arith, c.if-s-lt50.false) in
    sym (get_or-eq_default table End past)
