-- Who a route reads. Definitions only.
use Rattle.std.specs.Prelude.{Option, Some, None}
use mathlib.Core.Path.{◌≡◌}
use mathlib.Core.Logic.{◌⊎◌}
use mathlib.Core.Bool.{Bool}
use Prim.Native.Nat.{ℕ}
use Rattle.state.specs.declared.Read.TheVariants as D
use Rattle.state.specs.declared.Gain.TheVariants as G
use Rattle.state.specs.declared.Input.{Input}
use Rattle.state.specs.declared.Route.{Route}

-- its aux reads e, with the scope v
abbrev pub AuxReads : ℕ → Bool → Option Input → Type 0
AuxReads e v None = ⊥
AuxReads e v (Some i) = i.read ≡ D.Fed e v

-- source, aux, amount or output reads e, with the scope v
abbrev pub Reads : ℕ → Bool → Route → Type 0
Reads e v r = (r.source.read ≡ D.Fed e v) ⊎ (AuxReads e v r.aux ⊎ ((r.amount ≡ G.Fed e v) ⊎ (r.output ≡ G.Fed e v)))
