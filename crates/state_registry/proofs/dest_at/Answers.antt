-- `state_registry::dest_at` meets its contract: past the last entry, what no entry reads as.
use mathlib.Core.Path.{◌≡◌, sym, ◌∙◌}
use native.Mathlib.Omega.{arith}
use borrow.Author.Rules.{rules}
use lib.ListN.{length}
use Rattle.list.proofs.Elements.{get_or_past, length-mapped}
use Rattle.state_registry.proofs.dest_at.Goals as goal

pub returns : goal.returns
returns c =
    let a = c.args in
    let e : length a.dests.entry ≡ 1024 = search (rules, length-mapped) in
    c.no_dest.ensures ∙ sym (get_or_past a.dests.entry a.d _ (omega arith))
