use mathlib.Core.Path.{sym, ap, ◌∙◌}
use mathlib.Core.List.{List}
use Prim.Native.Nat.{ℕ, ◌<◌}
use native.Mathlib.Omega.{arith}
use native.Mathlib.Nat.{sub-zero}
use Rattle.feed.specs.Order.{fed_by}
use Rattle.feed.specs.Marks.{marked}
use Rattle.feed.proofs.Unplaced.{unplaced-end, fed-taken, fed-not, fed-self, fed-here}
use Rattle.feed.proofs.is_fed.Goals as goal

pub loop-a-init : goal.loop-a-init
loop-a-init c = (omega arith, rw sub-zero)

pub returns-then-a-b : goal.returns-then-a-b
returns-then-a-b c =
    let s = c.args in
    fed-here (marked s.feeds.now) s.placed.now s.n s.b c.loop-a.a (omega arith)
    c.if-not-placed-a.true c.if-feeds-a.true c.if-a-b.true
    ∙ sym c.loop-a.invariant.1

pub loop-a-preserved : goal.loop-a-preserved
loop-a-preserved c =
    let s = c.args in
    let a = c.loop-a.a in
    let f = marked s.feeds.now in
    let lt : a < s.n = omega arith in (
      omega arith,
      c.loop-a.invariant.1 ∙ elim c.else-not-placed-a.branch [
        | goal.else-not-placed-a-via-then-not-placed-a+then-feeds-a+else-a-b w ↦ fed-self f s.placed.now s.n s.b a lt w.if-not-placed-a.true w.if-feeds-a.true w.if-a-b.false
        | goal.else-not-placed-a-via-then-not-placed-a+else-feeds-a w ↦ fed-not f s.placed.now s.n s.b a lt w.if-not-placed-a.true w.if-feeds-a.false
        | goal.else-not-placed-a-via-else-not-placed-a w ↦ fed-taken f s.placed.now s.n s.b a lt w.if-not-placed-a.false
      ],
    )

pub returns : goal.returns
returns c =
    let s = c.args in
    sym (c.loop-a.invariant.1 ∙ ap (λ (l : List ℕ). fed_by (marked s.feeds.now) l s.b) (unplaced-end s.placed.now s.n c.loop-a.a (omega arith)))
