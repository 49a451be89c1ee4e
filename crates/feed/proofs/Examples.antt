-- Chains in the cases that document 01 checks by hand. Assumes nothing.
use mathlib.Core.Path.{◌≡◌, refl}
use mathlib.Core.Bool.{Bool, true, false, ◌&&◌, ◌||◌}
use mathlib.Core.List.{[], ◌∷◌}
use Prim.Native.Nat.{ℕ}
use native.Mathlib.Omega.{arith}
use lib.Dec.{eqb}
use Rattle.feed.specs.Order.{order}
use Rattle.feed.specs.Chain.{Acyclic}
use Rattle.feed.proofs.Acyclic.{acyclic-ordered, ordered-means-acyclic}

abbrev arrow : ℕ → ℕ → ℕ → ℕ → Bool
arrow x y a b = eqb a x && eqb b y

-- case 1: feeds 2→0, 1→2
case-1-acyclic : Acyclic (λ a b. arrow 2 0 a b || arrow 1 2 a b) (0 ∷ 1 ∷ 2 ∷ [])
unfolding order
case-1-acyclic = ordered-means-acyclic (λ a b. arrow 2 0 a b || arrow 1 2 a b) (0 ∷ 1 ∷ 2 ∷ []) refl

-- case 2: feeds 0→1, 1→0
case-2-chain : Acyclic (λ a b. arrow 0 1 a b || arrow 1 0 a b) (0 ∷ 1 ∷ 2 ∷ []) → ⊥
unfolding order
case-2-chain none =
    let e : false ≡ true = acyclic-ordered (λ a b. arrow 0 1 a b || arrow 1 0 a b) (0 ∷ 1 ∷ 2 ∷ []) none in
    let z : ◌≡◌ {A = ℕ} 0 1 = cc in omega arith

-- one that feeds itself makes no chain
itself-acyclic : Acyclic (λ a b. arrow 0 0 a b) (0 ∷ 1 ∷ [])
unfolding order
itself-acyclic = ordered-means-acyclic (λ a b. arrow 0 0 a b) (0 ∷ 1 ∷ []) refl
