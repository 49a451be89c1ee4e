-- A known source's number is a byte. Assumes nothing.
use mathlib.Core.Path.{◌≡◌}
use mathlib.Core.Bool.{true}
use Prim.Native.Nat.{ℕ, ◌<◌}
use native.Mathlib.Omega.{arith}
use borrow.Author.Tests.{ltb-true}
use Rattle.state.specs.declared.Sources.{Sources}
use Rattle.state.specs.Registry.{source_count, known_source}

pub known-byte : (ss : Sources) (i : ℕ) → known_source ss i ≡ true → i < 256
known-byte ss i h = omega (arith, ltb-true i (source_count ss) h)
