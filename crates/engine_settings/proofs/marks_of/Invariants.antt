-- `engine_settings::marks_of` meets its contract. The loop's invariant: the sources passed are marked.
use Rattle.state.specs.declared.Source.{Source}
use Rattle.state.specs.declared.Kind.TheVariants as K
use Rattle.state.specs.declared.Scope.TheVariants as S
use Rattle.state.specs.declared.Range.TheVariants as R
use mathlib.Core.List.{[]}
use mathlib.Core.Path.{◌≡◌, ◌∙◌}
use Prim.Native.Nat.{◌-◌, ◌≤◌}
use native.Mathlib.Omega.{arith}
use borrow.Author.Rules.{rules}
use lib.ListN.{length, get_or}
use Rattle.list.proofs.Filled.{Filled, filled_none, filled_more, filled-all}
use Rattle.state.specs.declared.SourceMark.{SourceMark}
use Rattle.model.specs.Settings.{mark_of}
use Rattle.compile.proofs.Mapped.{fill-map}
use Rattle.engine_settings.proofs.marks_of.Given as goal

-- what the language reads past an array's end
abbrev pub past : Source
past = record { key = []; len = 0; kind = K.Signal; scope = S.Voice; range = R.Unipolar }

abbrev pub invariant-loop-i : goal.invariant-loop-i
invariant-loop-i l = (l.i ≤ 128) × (length l.entry ≡ 128) × (length l.initial.out ≡ 128) × Filled {A = SourceMark} l.initial.out (λ k. mark_of (get_or l.entry k past)) l.i l.out

abbrev pub decreases-loop-i : goal.decreases-loop-i
decreases-loop-i l = 128 - l.i
