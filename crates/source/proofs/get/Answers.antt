-- `source::get` meets its contract. Assumes nothing.
use mathlib.Core.Path.{◌≡◌}
use Prim.Native.Nat.{◌≤◌, ◌<◌}
use native.Mathlib.Omega.{arith}
use lib.ListN.{length}
use borrow.Author.Tests.{lt-ltb, le-ltb}
use Rattle.config.specs.Sizes.{most_sources}
use Rattle.source.proofs.Registry.{past_end, registered-at}
use Rattle.state.specs.Registry.{no_source as blankEntry, source_count}
use Rattle.source.specs.Registry.{get_source}
use borrow.Author.Rules.{rules}
use Rattle.source.proofs.get.Goals as goal

pub returns-then-id-len : goal.returns-then-id-len
unfolding get_source
returns-then-id-len c =
    let s = c.args.sources in
    let long : length s.entry ≡ most_sources = search rules in
    let inside : c.args.id < source_count s = omega arith in
    rw (lt-ltb _ _ inside, registered-at s c.args.id blankEntry past_end long inside)

pub returns : goal.returns
unfolding get_source
returns c =
    let outside : source_count c.args.sources ≤ c.args.id = omega arith in
    rw (le-ltb _ _ outside)
