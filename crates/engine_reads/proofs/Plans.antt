-- The plan of a destination, as a search gives it. Assumes nothing.
use mathlib.Core.Path.{◌≡◌, ap}
use mathlib.Core.List.{List, [], ◌∷◌}
use mathlib.Core.Bool.{Bool, true, false, cond}
use Prim.Native.Nat.{ℕ, suc, ◌+◌, ◌≤◌}
use native.Mathlib.Omega.{arith}
use lib.Dec.{eqb}
use lib.ListN.{length}
use Rattle.state.specs.declared.Plan.{Plan}
use Rattle.model.specs.Outputs.{plan_of}

at_most : (b : Bool) (n m : ℕ) → n ≤ m → cond b 0 (suc n) ≤ suc m
at_most true n m h = omega arith
at_most false n m h = omega arith

module _ (d : ℕ) where
  pub plan-none : plan_of d [] ≡ 0
  plan-none = omega arith

  pub plan-more : (p : Plan) (ps : List Plan) → plan_of d (p ∷ ps) ≡ cond (eqb p.dest d) 0 (1 + plan_of d ps)
  plan-more p ps = ap (λ n. cond (eqb p.dest d) 0 n) (omega arith)

  pub plan-most : (ps : List Plan) → plan_of d ps ≤ length ps
  plan-most [] = omega arith
  plan-most (p ∷ ps) = at_most (eqb p.dest d) (plan_of d ps) (length ps) (plan-most ps)
