-- `slots::count_aims` meets its contract.
use mathlib.Core.Path.{◌≡◌, ◌∙◌}
use Rattle.std.specs.List.{count_by}
use Rattle.std.proofs.iter.runs.Made.{chains}
use borrow.Author.Rules.{rules}
use Rattle.state.specs.declared.Slot.{Slot}
use Rattle.slots.specs.Slots.{aims_at}
use Rattle.slots.proofs.Laws.{count_aims_by}
use Rattle.slots.proofs.count_aims.Goals as goal

pub returns : goal.returns
returns c =
    let a = c.args in
    let e : c.count.result ≡ count_by (λ (s : Slot). aims_at a.target s.destination) a.slot = search (rules, chains) in
    e ∙ count_aims_by a.target a.slot
