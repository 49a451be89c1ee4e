-- `voice::count_on` meets its contract.
use mathlib.Core.Path.{◌≡◌, ◌∙◌}
use mathlib.Core.Bool.{Bool}
use lib.ListN.{take}
use Rattle.std.specs.List.{count_by}
use Rattle.voice.proofs.Counted.{count_on_by}
use Rattle.std.proofs.iter.runs.Made.{chains}
use borrow.Author.Rules.{rules}
use Rattle.voice.proofs.count_on.Goals as goal

pub returns : goal.returns
returns c =
    let e : c.count.result ≡ count_by (λ (b : Bool). b) (take c.args.n c.args.active) = search (rules, chains) in
    e ∙ count_on_by (take c.args.n c.args.active)
