-- `compile_routes::slot_at` meets its contract: past the last slot, what no slot reads as.
use mathlib.Core.Path.{◌≡◌, sym, ◌∙◌}
use native.Mathlib.Omega.{arith}
use borrow.Author.Rules.{rules}
use lib.ListN.{length}
use Rattle.list.proofs.Elements.{get_or_past, length-mapped}
use Rattle.config.specs.Sizes.{slots}
use Rattle.compile_routes.proofs.slot_at.Goals as goal

pub returns : goal.returns
returns c =
    let a = c.args in
    let e : length a.slot ≡ slots = search (rules, length-mapped) in
    c.no_slot.ensures ∙ sym (get_or_past a.slot a.n _ (omega arith))
