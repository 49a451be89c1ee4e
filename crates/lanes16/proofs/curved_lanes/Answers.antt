-- `lanes16::curved_lanes` meets its contract.
use mathlib.Core.Path.{refl, sym, ◌∙◌}
use borrow.Author.Tests.{leb-true}
use Rattle.lanes16.proofs.Laws.{look_is}
use Prim.Native.Nat.{◌+◌, ◌*◌}
use Rattle.lanes16.proofs.curved_lanes.Goals as goal

pub returns-then-not-table : goal.returns-then-not-table
returns-then-not-table c = λ t e l h. rw (c.if-not-table.true)

pub look_lanes-requires : goal.look_lanes-requires
look_lanes-requires c = leb-true _ _ (sym c.fits.ensures ∙ c.if-fits.true)

pub returns-then-fits : goal.returns-then-fits
returns-then-fits c = λ t e l h. let a = c.args in rw (c.if-not-table.false, e) (look_is a.tables.now (2 * a.slot + a.position) ((2 * a.slot + a.position) * 513) _ _ _ refl (c.positions.ensures l h) (c.look_lanes.ensures l h))

pub returns : goal.returns
returns c = λ t e l h. rw (c.if-not-table.false, e) (c.table_lanes.ensures l h)
