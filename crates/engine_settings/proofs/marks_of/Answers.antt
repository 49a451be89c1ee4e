use Rattle.state.specs.declared.Source.{Source}
use Rattle.state.specs.declared.Kind.TheVariants as K
use Rattle.state.specs.declared.Scope.TheVariants as S
use Rattle.state.specs.declared.Range.TheVariants as R
use mathlib.Core.List.{[]}
use mathlib.Core.Path.{◌≡◌, ◌∙◌}
use Prim.Native.Nat.{◌-◌, ◌≤◌}
use native.Mathlib.Omega.{arith}
use borrow.Author.Rules.{rules}
use lib.ListN.{length, get_or}
use Rattle.list.proofs.Filled.{Filled, filled_none, filled_more, filled-all}
use Rattle.state.specs.declared.SourceMark.{SourceMark}
use Rattle.model.specs.Settings.{mark_of}
use Rattle.compile.proofs.Mapped.{fill-map}
use Rattle.engine_settings.proofs.marks_of.Goals as goal
use Rattle.engine_settings.proofs.marks_of.Invariants.{past}

pub loop-i-init : goal.loop-i-init
loop-i-init c = (search rules, search rules, search rules, filled_none _ _)

pub loop-i-preserved : goal.loop-i-preserved
loop-i-preserved c =
    let l = c.loop-i in
    (search rules, l.invariant.1, l.invariant.2, filled_more l.invariant.3 c.mark_of-mark.ensures)

pub returns : goal.returns
returns c =
    let a = c.args in
    let l = c.loop-i in
    filled-all l.invariant.3 (omega arith) ∙ fill-map mark_of a.entry past _ (omega arith)
