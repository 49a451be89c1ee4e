-- `state_registry::source_at` meets its contract: past the last entry, what no entry reads as.
use mathlib.Core.Path.{◌≡◌, sym, ◌∙◌}
use native.Mathlib.Omega.{arith}
use borrow.Author.Rules.{rules}
use lib.ListN.{length}
use Rattle.list.proofs.Elements.{get_or-inside, get_or_past, length-mapped}
use Rattle.config.specs.Sizes.{most_sources}
use Rattle.state_registry.proofs.source_at.Goals as goal

pub returns-then-i-lt-SOURCES : goal.returns-then-i-lt-SOURCES
returns-then-i-lt-SOURCES c =
    let a = c.args in
    let e : length a.sources.entry ≡ most_sources = search (rules, length-mapped) in
    get_or-inside a.sources.entry a.i _ _ (omega arith)

pub returns : goal.returns
returns c =
    let a = c.args in
    let e : length a.sources.entry ≡ most_sources = search (rules, length-mapped) in
    c.no_source.ensures ∙ sym (get_or_past a.sources.entry a.i _ (omega arith))
