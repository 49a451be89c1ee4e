-- One destination more: named by a candidate, or not.
use mathlib.Core.Path.{◌≡◌, sym, ap, ◌∙◌}
use mathlib.Core.Bool.{true, false}
use mathlib.Core.List.{List}
use Prim.Native.Nat.{◌≤◌}
use native.Mathlib.Omega.{arith}
use lib.ListN.{length}
use Rattle.config.specs.Sizes.{slots}
use Rattle.state.specs.declared.Candidate.{Candidate}
use Rattle.model.specs.Feeds.{named}
use Rattle.compile_feeds.proofs.Using.{using-more, using-same}
use Rattle.compile_feeds.proofs.used_dests.Goals as goal
use Rattle.compile_feeds.proofs.used_dests.Goals.{then-is_named, else-is_named}

pub loop-d-preserved : goal.loop-d-preserved
loop-d-preserved c =
    let a = c.args in
    let cs = a.candidates.now.items in
    let d = c.loop-d.d in
    let same = c.deref.ensures.0 in
    let most : length cs ≤ slots = omega (arith, ap length same, c.deref.ensures.1) in
    let test = ap (λ (l : List Candidate). named l d) (sym same) ∙ sym c.is_named.ensures in
    elim c.if-is_named.branch [
      | then-is_named w ↦ rw (w.out-is, w.add.ensures, w.used_as.ensures, w.deref-then-is_named.ensures.0, c.loop-d.invariant) (using-more a.sources a.dests cs d most (test ∙ w.if-is_named.true))
      | else-is_named w ↦ rw (w.out-is, c.loop-d.invariant) (using-same a.sources a.dests cs d (test ∙ w.if-is_named.false))
    ]
