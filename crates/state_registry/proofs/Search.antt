-- The place of a target, as a search gives it. Assumes nothing.
use mathlib.Core.Path.{◌≡◌, refl, ap}
use mathlib.Core.Bool.{cond}
use mathlib.Core.List.{List, [], ◌∷◌}
use Prim.Native.Nat.{◌+◌}
use native.Mathlib.Omega.{arith}
use Rattle.state.specs.declared.Target.{Target}
use Rattle.state.specs.declared.Dest.{Dest}
use Rattle.state.specs.Registry.{same_target, target_place}

pub place-none : (t : Target) → target_place t [] ≡ 0
unfolding target_place
place-none t = refl

pub place-more : (t : Target) (d : Dest) (l : List Dest) → target_place t (d ∷ l) ≡ cond (same_target d.target t) 0 (1 + target_place t l)
unfolding target_place
place-more t d l = ap (λ n. cond (same_target d.target t) 0 n) (omega arith)
