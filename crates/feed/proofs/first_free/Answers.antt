use mathlib.Core.Path.{sym, ap, ◌∙◌}
use mathlib.Core.Bool.{not}
use mathlib.Core.List.{List}
use Prim.Native.Nat.{ℕ, ◌<◌}
use native.Mathlib.Omega.{arith}
use native.Mathlib.Nat.{sub-zero}
use Rattle.feed.specs.Numbers.{keep, first_or}
use Rattle.feed.proofs.Unplaced.{unplaced-end, first_taken, first-not, first-here}
use Rattle.feed.proofs.first_free.Goals as goal
use Rattle.feed.proofs.first_free.Invariants.{is_free}

pub loop-b-init : goal.loop-b-init
loop-b-init c = (omega arith, rw sub-zero)

pub returns-then-not-is_fed : goal.returns-then-not-is_fed
returns-then-not-is_fed c =
    let s = c.args in
    first-here (is_free s.feeds.now s.placed.now s.n) s.placed.now s.n s.n c.loop-b.b (omega arith)
    (c.if-not-placed-b.true) (ap not (sym c.is_fed.ensures ∙ c.if-not-is_fed.true))
    ∙ sym c.loop-b.invariant.1

pub loop-b-preserved : goal.loop-b-preserved
loop-b-preserved c =
    let s = c.args in
    let b = c.loop-b.b in
    let test = is_free s.feeds.now s.placed.now s.n in
    let lt : b < s.n = omega arith in (
      omega arith,
      c.loop-b.invariant.1 ∙ elim c.else-not-placed-b.branch [
        | goal.else-not-placed-b-via-then-not-placed-b+else-not-is_fed w ↦ first-not test s.placed.now s.n s.n b lt w.if-not-placed-b.true (ap not (sym w.is_fed.ensures ∙ w.if-not-is_fed.false))
        | goal.else-not-placed-b-via-else-not-placed-b w ↦ first_taken test s.placed.now s.n s.n b lt w.if-not-placed-b.false
      ],
    )

pub returns : goal.returns
returns c =
    let s = c.args in
    let test = is_free s.feeds.now s.placed.now s.n in
    sym (c.loop-b.invariant.1 ∙ ap (λ (l : List ℕ). first_or s.n (keep test l)) (unplaced-end s.placed.now s.n c.loop-b.b (omega arith)))
