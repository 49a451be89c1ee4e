-- `engine_settings::voice_at` meets its contract.
use mathlib.Core.Path.{◌≡◌, sym, ap}
use native.Mathlib.Omega.{arith}
use lib.ListN.{length}
use Rattle.list.proofs.Elements.{get_or_past, length-mapped}
use Rattle.state.specs.declared.SourceMark.{SourceMark}
use Rattle.model.specs.Feeds.{is_voice}
use Rattle.model.specs.World.{no_mark}
use borrow.Author.Rules.{rules}
use Rattle.engine_settings.proofs.voice_at.Goals as goal

pub returns-then-i-ge-SOURCES : goal.returns-then-i-ge-SOURCES
returns-then-i-ge-SOURCES c =
    let a = c.args in
    let long : length a.mark ≡ 128 = search (rules, length-mapped) in
    sym (ap (λ (m : SourceMark). is_voice m.scope) (get_or_past a.mark a.i no_mark (omega arith)))
