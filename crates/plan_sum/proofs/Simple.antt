-- Which routes are simple. Assumes nothing.
use mathlib.Core.Path.{◌≡◌, sym, ap, ◌∙◌}
use mathlib.Core.Bool.{Bool, false}
use mathlib.Core.List.{List}
use Prim.Native.Nat.{ℕ, ◌+◌, ◌<◌}
use native.Mathlib.Decide.{dec_lt}
use native.Mathlib.Omega.{arith}
use lib.ListN.{length, get_or, replicate, length-replicate}
use Rattle.state_filled.specs.Filled.{no_route}
use Rattle.list.proofs.Elements.{get_or-inside, get_or_past}
use Rattle.list.proofs.Filled.{Filled, fill-below}
use Rattle.state.specs.declared.Route.{Route}
use Rattle.plan_sum.specs.Job.{AreSimple}

-- beyond the routes none is simple
pub all_told : (r : List Route) (b : List Bool) (i : ℕ) → length r ≡ 64 → i ≡ 64 → Filled (replicate 64 false) (λ (k : ℕ). (get_or r k no_route).simple) i b → AreSimple r b
all_told r b i long e h k =
    let size : length b ≡ 64 = h.as_long ∙ length-replicate 64 false in
    elim (dec_lt k 64) [
      | yes p ↦ ap (λ (l : List Bool). get_or l k false) h.is ∙ fill-below (replicate 64 false) (λ (m : ℕ). (get_or r m no_route).simple) i k false (omega arith) (omega (arith, length-replicate 64 false))
      | no n ↦ get_or_past b k false (omega arith) ∙ ap (λ (z : Route). z.simple) (sym (get_or_past r k no_route (omega arith)))
    ]

-- the mark at a place, by the mark that was read where there is a route
pub mark-read : (b : List Bool) (k i : ℕ) (d : Bool) → length b ≡ 64 → (k < 64 → i ≡ k) → (k < 64 → get_or b i d ≡ false) → get_or b k false ≡ false
mark-read b k i d long at h =
    elim (dec_lt k 64) [
      | yes p ↦ inside p
      | no n ↦ get_or_past b k false (omega arith)
    ]
  where
    inside : k < 64 → get_or b k false ≡ false
    inside p = get_or-inside b k false d (omega arith) ∙ ap (λ (m : ℕ). get_or b m d) (sym (at p)) ∙ h p

-- no route is simple where none is marked
pub none_of : (r : List Route) (b : List Bool) (first count : ℕ) → AreSimple r b → ((j : ℕ) → j < count → get_or b (first + j) false ≡ false)
    → (j : ℕ) → j < count → (get_or r (first + j) no_route).simple ≡ false
none_of r b first count told h j k = sym (told (first + j)) ∙ h j k
