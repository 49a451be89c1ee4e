use mathlib.Core.Path.{◌≡◌, sym, ap, ◌∙◌}
use Prim.Native.Nat.{ℕ}
use native.Mathlib.Numerals.{add-one}
use native.Mathlib.Omega.{arith}
use Rattle.source.specs.Standard.{counted, lfo_pair, with_lfos}
use Rattle.source.proofs.Written.{counted_none, counted-more}
use borrow.Author.Rules.{rules}
use Rattle.source.proofs.with_lfos.Goals as goal

pub loop-i-init : goal.loop-i-init
loop-i-init c = (search rules, sym (counted_none lfo_pair _))

pub loop-i-preserved : goal.loop-i-preserved
loop-i-preserved c =
    let l = c.loop-i in
    (search rules, c.with_lfo-next.ensures ∙ rw (l.invariant.1, add-one) (sym (counted-more lfo_pair l.i _)))

pub returns : goal.returns
unfolding with_lfos
returns c =
    let l = c.loop-i in
    let end : l.i ≡ c.args.count = omega arith in
    l.invariant.1 ∙ ap (λ (k : ℕ). counted lfo_pair k c.args.sources) end
