-- `engine_reads::is_audio` meets its contract.
use mathlib.Core.Path.{◌≡◌, sym, ap}
use native.Mathlib.Omega.{arith}
use lib.ListN.{length}
use Rattle.config.specs.Sizes.{slots}
use Rattle.state.specs.declared.Plan.{Plan}
use Rattle.state_filled.specs.Filled.{no_plan}
use Rattle.list.proofs.Elements.{get_or-inside, get_or_past, length-mapped}
use borrow.Author.Rules.{rules}
use Rattle.engine_reads.proofs.is_audio.Goals as goal

pub returns-then-i-lt-SLOTS : goal.returns-then-i-lt-SLOTS
returns-then-i-lt-SLOTS c =
    let a = c.args in
    let long : length a.plan ≡ slots = search (rules, length-mapped) in
    ap (λ (p : Plan). p.audio) (get_or-inside a.plan a.i _ no_plan (omega arith))

pub returns : goal.returns
returns c =
    let a = c.args in
    let long : length a.plan ≡ slots = search (rules, length-mapped) in
    sym (ap (λ (p : Plan). p.audio) (get_or_past a.plan a.i no_plan (omega arith)))
