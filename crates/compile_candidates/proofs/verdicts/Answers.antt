use mathlib.Core.Path.{◌≡◌, refl}
use native.Mathlib.Omega.{arith}
use borrow.Author.Rules.{rules}
use lib.ListN.{length}
use Rattle.config.specs.Sizes.{slots}
use Rattle.compile_candidates.proofs.Turns.{judged-none, judged-more, judged-all}
use Rattle.compile_candidates.proofs.verdicts.Goals as goal

pub loop-n-init : goal.loop-n-init
loop-n-init c = (search rules, judged-none _ _ _ _ refl)

pub loop-n-preserved : goal.loop-n-preserved
loop-n-preserved c =
    let l = c.loop-n in
    let a = c.args in
    let e : length a.slot ≡ slots = search rules in (
      search rules,
      judged-more a.sources a.dests a.slot l.n _ l.out _ e (omega arith) l.invariant.1 c.verdict-v.ensures,
    )

pub returns : goal.returns
returns c =
    let l = c.loop-n in
    let a = c.args in
    let e : length a.slot ≡ slots = search rules in
    judged-all a.sources a.dests a.slot l.n l.out e (omega arith) l.invariant.1
