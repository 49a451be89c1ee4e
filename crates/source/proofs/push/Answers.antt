-- `source::push` meets its contract. Assumes nothing.
use mathlib.Core.Path.{◌≡◌}
use lib.ListN.{length}
use Rattle.list.proofs.Elements.{length-mapped}
use Rattle.config.specs.Sizes.{most_sources}
use Rattle.source.proofs.Written.{push-full}
use borrow.Author.Rules.{rules}
use Rattle.source.proofs.push.Goals as goal

pub returns : goal.returns
returns c =
    let a = c.args in
    let long : length a.sources.entry ≡ most_sources = search (rules, length-mapped) in
    push-full a.sources a.source c.len-n.result long c.len-n.ensures c.if-n-lt-SOURCES.false
