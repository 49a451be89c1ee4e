-- `lane_input::mark_from` meets its contract.
use borrow.Author.Rules.{rules}
use mathlib.Core.Path.{◌≡◌, sym}
use mathlib.Core.Bool.{false}
use Prim.Native.Nat.{◌+◌}
use native.Mathlib.Omega.{arith}
use lib.ListN.{length}
use Rattle.list.proofs.Elements.{get_or_past}
use Rattle.lane_input.proofs.mark_from.Goals as goal

pub returns-then-k-ge-VOICES : goal.returns-then-k-ge-VOICES
returns-then-k-ge-VOICES c = let a = c.args in
    let long : length a.marks ≡ 64 = search rules in
    sym (get_or_past a.marks (a.k + a.i) false (omega arith))

pub returns-then-i-ge-VOICES : goal.returns-then-i-ge-VOICES
returns-then-i-ge-VOICES c = let a = c.args in
    let long : length a.marks ≡ 64 = search rules in
    sym (get_or_past a.marks (a.k + a.i) false (omega arith))
