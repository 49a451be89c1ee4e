use mathlib.Core.Path.{refl, sym, ap, ◌∙◌}
use Prim.Native.Nat.{◌+◌}
use native.Mathlib.Omega.{arith}
use borrow.Author.Rules.{rules}
use lib.ListN.{drop}
use Rattle.source_key.specs.declared.Text.{Text}
use Rattle.source_key.specs.Text.{put_all}
use Rattle.source_key.proofs.Laws.{put-from, put-past}
use Rattle.source_key.proofs.put_word.Goals as goal

pub loop-i-init : goal.loop-i-init
loop-i-init c = (search rules, refl)

pub loop-i-preserved : goal.loop-i-preserved
loop-i-preserved c =
    let l = c.loop-i in
    let w = c.args.word.now in
    (search rules, l.invariant.1 ∙ put-from _ w l.i (omega arith) ∙ sym (ap (λ (t : Text). put_all t (drop (l.i + 1) w)) c.put-more.ensures))

pub returns : goal.returns
returns c =
    let l = c.loop-i in
    sym (l.invariant.1 ∙ put-past _ _ l.i (omega arith))
