-- `source::with_numbered` meets its contract. The loop's invariant: word 1 to word i are there. Assumes nothing.
use mathlib.Core.Path.{◌≡◌}
use Prim.Native.Nat.{ℕ, ◌-◌, ◌≤◌}
use mathlib.Core.List.{List}
use Rattle.state.specs.declared.Sources.{Sources}
use Rattle.source.specs.declared.SourceInfo.{SourceInfo}
use Rattle.source_key.specs.Numbered.{numbered_key}
use Rattle.source.specs.Standard.{with_source, counted}
use Rattle.source.proofs.with_numbered.Given as goal

-- one entry more
abbrev pub step : List ℕ → List ℕ → SourceInfo → ℕ → Sources → Sources
step word after info k = with_source (numbered_key word after k) info

abbrev pub invariant-loop-i : goal.invariant-loop-i
invariant-loop-i l = (l.i ≤ l.count) × (l.next ≡ counted (step l.word l.after l.info) l.i l.initial.next)

abbrev pub decreases-loop-i : goal.decreases-loop-i
decreases-loop-i l = l.count - l.i
