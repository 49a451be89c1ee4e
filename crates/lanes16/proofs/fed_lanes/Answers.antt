-- `lanes16::fed_lanes` meets its contract.
use mathlib.Core.Path.{sym, ◌∙◌}
use Prim.Native.Nat.{◌+◌}
use native.Mathlib.Omega.{arith}
use borrow.Author.Tests.{leb-true}
use Rattle.lanes16.proofs.Laws.{fed-told}
use lib.ListN.{length}
use Rattle.lanes16.proofs.fed_lanes.Goals as goal

pub overflow_add-start : goal.overflow_add-start
overflow_add-start c = omega (arith, leb-true (c.plan_to-start.result + (c.args.lane + 16)) (length c.args.values.now) (sym c.fits.ensures ∙ c.if-fits.true))

pub copied-requires : goal.copied-requires
copied-requires c = omega (arith, leb-true (c.plan_to-start.result + (c.args.lane + 16)) (length c.args.values.now) (sym c.fits.ensures ∙ c.if-fits.true))

pub returns-then-fits : goal.returns-then-fits
returns-then-fits c = λ t f w k l h. let a = c.args in fed-told t f a.point a.values.now a.plan a.lane l c.plan_to-start.result w k (c.if-not-voice.false) (omega (arith, c.requires.1)) c.plan_to-start.ensures (c.copied.ensures l h)
