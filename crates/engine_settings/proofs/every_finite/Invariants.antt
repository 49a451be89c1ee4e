-- `engine_settings::every_finite` meets its contract. The loop's invariant: the numbers passed are finite.
use mathlib.Core.Path.{◌≡◌, refl, sym, ◌∙◌}
use Prim.Native.Nat.{◌-◌, ◌≤◌}
use native.Mathlib.Omega.{arith}
use borrow.Author.Rules.{rules}
use borrow.Author.Tests.{not-true, not-false}
use lib.ListN.{length, drop}
use Rattle.model.specs.Settings.{every_finite}
use Rattle.engine_settings.proofs.Finite.{from-here, past_all, and-false, and-true}
use Rattle.engine_settings.proofs.every_finite.Given as goal

abbrev pub invariant-loop-i : goal.invariant-loop-i
invariant-loop-i l = (l.i ≤ 64) × (length l.x ≡ 64) × (every_finite l.x ≡ every_finite (drop l.i l.x))

abbrev pub decreases-loop-i : goal.decreases-loop-i
decreases-loop-i l = 64 - l.i
