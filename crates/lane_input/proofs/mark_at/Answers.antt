-- `lane_input::mark_at` meets its contract.
use borrow.Author.Rules.{rules}
use mathlib.Core.Path.{◌≡◌, sym}
use mathlib.Core.Bool.{false}
use native.Mathlib.Omega.{arith}
use lib.ListN.{length}
use Rattle.list.proofs.Elements.{get_or_past}
use Rattle.lane_input.proofs.mark_at.Goals as goal

pub returns : goal.returns
returns c = let a = c.args in
    let long : length a.marks ≡ 64 = search rules in
    sym (get_or_past a.marks a.i false (omega arith))
