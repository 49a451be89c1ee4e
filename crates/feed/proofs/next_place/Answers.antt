-- `feed::next_place` meets its contract. Assumes nothing.
use mathlib.Core.Path.{◌∙◌}
use native.Mathlib.Omega.{arith}
use Rattle.feed.specs.Marks.{marked}
use Rattle.feed.proofs.Turn.{next-free-one, next-lowest}
use Rattle.feed.proofs.next_place.Goals as goal

pub returns-then-b-n : goal.returns-then-b-n
returns-then-b-n c =
    let s = c.args in
    next-free-one (marked s.feeds.now) s.placed.now s.n c.first_free-b.result c.first_free-b.ensures (omega arith)

pub returns : goal.returns
returns c =
    let s = c.args in
    let b = c.first_free-b in
    c.first_unplaced.ensures ∙ next-lowest (marked s.feeds.now) s.placed.now s.n b.result b.ensures (omega arith)
