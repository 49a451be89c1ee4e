-- `compile_feeds::counted_source` meets its contract: a known source has a number below 128, which fits a byte.
use mathlib.Core.Path.{sym, ap, ◌∙◌}
use Prim.Native.Nat.{◌<◌}
use native.Mathlib.Omega.{arith}
use borrow.Author.Tests.{ltb-true}
use Rattle.state.specs.Registry.{source_count}
use Rattle.model.specs.Feeds.{held_global}
use Rattle.compile_feeds.proofs.counted_source.Goals as goal

pub returns-then-not-known_source : goal.returns-then-not-known_source
returns-then-not-known_source c = rw (sym c.known_source.ensures ∙ c.if-not-known_source.true)

pub returns-then-not-held_global : goal.returns-then-not-held_global
returns-then-not-held_global c =
    let known = sym c.known_source.ensures ∙ c.if-not-known_source.false in
    let not-held = ap held_global (sym c.source_at.ensures) ∙ sym c.held_global.ensures ∙ c.if-not-held_global.true in
    rw (known, not-held)

pub overflow_cast-result : goal.overflow_cast-result
overflow_cast-result c =
    let a = c.args in
    let known = sym c.known_source.ensures ∙ c.if-not-known_source.false in
    let h : a.i < source_count a.sources = ltb-true _ _ known in
    omega arith

pub returns : goal.returns
returns c =
    let known = sym c.known_source.ensures ∙ c.if-not-known_source.false in
    let held = ap held_global (sym c.source_at.ensures) ∙ sym c.held_global.ensures ∙ c.if-not-held_global.false in
    rw (known, held)
