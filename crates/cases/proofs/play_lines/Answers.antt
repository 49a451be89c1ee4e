use borrow.Author.Rules.{rules}
use mathlib.Core.Path.{◌≡◌}
use Prim.Native.Nat.{◌-◌}
use lib.ListN.{length}
use Rattle.cases.proofs.play_lines.Goals as goal

pub loop-at-preserved : goal.loop-at-preserved
loop-at-preserved c = (
  search (rules, c.out-1.given, c.loop-at.invariant.0),
  search (rules, c.book-1.given, c.loop-at.invariant.1),
  search (rules, c.desk-1.given, c.loop-at.invariant.2),
  search (rules, c.values-1.given, c.loop-at.invariant.3),
  search (rules, c.audio-1.given, c.loop-at.invariant.4),
  search (rules, c.pool-1.given, c.loop-at.invariant.5),
)
