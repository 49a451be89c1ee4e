-- `engine::bind` meets its contract.
use mathlib.Core.Path.{◌≡◌}
use native.Mathlib.Omega.{arith}
use borrow.Author.Tests.{lt-ltb, le-ltb}
use lib.ListN.{length}
use lib.Seq.{set_out}
use Rattle.list.proofs.Elements.{length-mapped}
use Rattle.model.specs.Settings.{bind_signal}
use borrow.Author.Rules.{rules}
use Rattle.engine.proofs.bind.Goals as goal

pub returns-then-stride-gt-SIGNAL_STRIDE : goal.returns-then-stride-gt-SIGNAL_STRIDE
unfolding bind_signal
returns-then-stride-gt-SIGNAL_STRIDE c = simp (lt-ltb _ _ c.if-stride-gt-SIGNAL_STRIDE.true)

pub returns-then-source-ge-SOURCES : goal.returns-then-source-ge-SOURCES
unfolding bind_signal
returns-then-source-ge-SOURCES c =
    let a = c.args in
    let long : length a.signals.part ≡ 128 = search (rules, length-mapped) in
    simp (le-ltb _ _ c.if-stride-gt-SIGNAL_STRIDE.false, set_out a.signals.part a.source (record { at = a.at; len = a.len; stride = a.stride }) (omega arith))

pub returns : goal.returns
unfolding bind_signal
returns c = simp (le-ltb _ _ c.if-stride-gt-SIGNAL_STRIDE.false)
