use mathlib.Core.Path.{◌≡◌, sym, ap, ◌∙◌}
use Prim.Native.Nat.{ℕ}
use native.Mathlib.Numerals.{add-one}
use native.Mathlib.Omega.{arith}
use Rattle.source.specs.Standard.{counted, with_numbered}
use Rattle.source.proofs.Written.{counted_none, counted-more}
use borrow.Author.Rules.{rules}
use Rattle.source.proofs.with_numbered.Goals as goal
use Rattle.source.proofs.with_numbered.Invariants.{step}

pub loop-i-init : goal.loop-i-init
loop-i-init c = (search rules, sym (counted_none _ _))

pub loop-i-preserved : goal.loop-i-preserved
loop-i-preserved c =
    let l = c.loop-i in
    let a = c.args in
    (search rules, c.with_number-next.ensures ∙ rw (l.invariant.1, add-one) (sym (counted-more (step a.word.now a.after.now a.info) l.i _)))

pub returns : goal.returns
unfolding with_numbered
returns c =
    let l = c.loop-i in
    let a = c.args in
    let end : l.i ≡ a.count = omega arith in
    l.invariant.1 ∙ ap (λ (k : ℕ). counted (step a.word.now a.after.now a.info) k a.sources) end
