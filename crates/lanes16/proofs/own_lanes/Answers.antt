-- `lanes16::own_lanes` meets its contract.
use mathlib.Core.Path.{sym, ◌∙◌}
use Prim.Native.Nat.{◌+◌, ◌*◌}
use native.Mathlib.Omega.{arith}
use borrow.Author.Tests.{leb-true}
use Rattle.lanes16.proofs.Laws.{told_at}
use lib.ListN.{length}
use Rattle.lanes16.proofs.own_lanes.Goals as goal

pub overflow_add-start : goal.overflow_add-start
overflow_add-start c = omega (arith, leb-true (c.own_row-start.result + (c.args.lane + 16)) (length c.args.values.now) (sym c.fits.ensures ∙ c.if-fits.true))

pub copied-requires : goal.copied-requires
copied-requires c = omega (arith, leb-true (c.own_row-start.result + (c.args.lane + 16)) (length c.args.values.now) (sym c.fits.ensures ∙ c.if-fits.true))

pub returns-then-fits : goal.returns-then-fits
returns-then-fits c = λ s j e l h. let a = c.args in told_at a.values.now c.own_row-start.result (a.own + a.q * a.stride) a.lane l c.own_row-start.ensures (c.copied.ensures l h) (e a.q (a.lane + l))
