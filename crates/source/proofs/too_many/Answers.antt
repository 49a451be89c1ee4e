-- `source::too_many` meets its contract. Assumes nothing.
use mathlib.Core.Path.{sym, ap}
use Prim.Native.Nat.{◌<◌}
use native.Mathlib.Omega.{arith}
use lib.Dec.{ltb}
use borrow.Author.Tests.{lt-ltb}
use Rattle.config.specs.Sizes.{most_sources}
use Rattle.source.specs.Standard.{standard_count}
use Rattle.source.proofs.too_many.Goals as goal

pub returns-then-counts-gt-SOURCES : goal.returns-then-counts-gt-SOURCES
unfolding standard_count
returns-then-counts-gt-SOURCES c =
    let a = c.args in
    let over : most_sources < standard_count a.counts a.audio = omega arith in
    sym (lt-ltb _ _ over)

pub returns-then-counts-gt-SOURCES-2 : goal.returns-then-counts-gt-SOURCES-2
unfolding standard_count
returns-then-counts-gt-SOURCES-2 c =
    let a = c.args in
    let over : most_sources < standard_count a.counts a.audio = omega arith in
    sym (lt-ltb _ _ over)

pub returns-then-counts-gt-SOURCES-3 : goal.returns-then-counts-gt-SOURCES-3
unfolding standard_count
returns-then-counts-gt-SOURCES-3 c =
    let a = c.args in
    let over : most_sources < standard_count a.counts a.audio = omega arith in
    sym (lt-ltb _ _ over)

pub returns-then-counts-gt-SOURCES-4 : goal.returns-then-counts-gt-SOURCES-4
unfolding standard_count
returns-then-counts-gt-SOURCES-4 c =
    let a = c.args in
    let over : most_sources < standard_count a.counts a.audio = omega arith in
    sym (lt-ltb _ _ over)

pub returns-then-audio-gt-SOURCES : goal.returns-then-audio-gt-SOURCES
unfolding standard_count
returns-then-audio-gt-SOURCES c =
    let a = c.args in
    let over : most_sources < standard_count a.counts a.audio = omega arith in
    sym (lt-ltb _ _ over)

pub returns : goal.returns
returns c = ap (ltb most_sources) c.standard_count.ensures
