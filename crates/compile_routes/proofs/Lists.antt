-- Routes put behind those in a list, where there is room for all. Assumes nothing.
use mathlib.Core.Path.{◌≡◌, refl, ap, ◌∙◌}
use mathlib.Core.Bool.{Bool}
use mathlib.Core.List.{List, [], ◌∷◌, ◌++◌, append-nil}
use Prim.Native.Nat.{ℕ, ◌+◌, ◌≤◌}
use native.Mathlib.Omega.{arith}
use lib.Ieee.{Float}
use lib.ListN.{length, get_or, length-append, length-map}
use lib.Seq.{append_snoc}
use Rattle.config.specs.Sizes.{slots}
use Rattle.state.specs.declared.Sources.{Sources}
use Rattle.state.specs.declared.Slot.{Slot}
use Rattle.state.specs.declared.Reader.{Reader}
use Rattle.state.specs.declared.Route.{Route}
use Rattle.state_filled.specs.Filled.{added}
use Rattle.state_filled.proofs.Laws.{added-more}
use Rattle.model.specs.Routes.{no_slot, route_in, routes_in}
use Rattle.compile_routes.specs.Added.{routes_added}

pub routes-added : (l xs : List Route) → length l + length xs ≤ slots → routes_added l xs ≡ l ++ xs
routes-added l [] h = rw append-nil
routes-added l (x ∷ xs) h =
    ap (λ (a : List Route). routes_added a xs) (added-more l x (omega arith))
    ∙ routes-added (l ++ x ∷ []) xs (simp length-append (omega arith))
    ∙ append_snoc l x xs

-- one list after the other
pub added-append : (a xs ys : List Route) → routes_added a (xs ++ ys) ≡ routes_added (routes_added a xs) ys
added-append a [] ys = refl
added-append a (x ∷ xs) ys = added-append (added a x) xs ys

-- as many routes as readers
pub routes-length : (rate : Float) (ss : Sources) (os : List ℕ) (sl : List Slot) (dv : Bool) (rs : List Reader)
    → length (routes_in rate ss os sl dv rs) ≡ length rs
routes-length rate ss os sl dv rs = length-map rs (λ r. route_in rate ss os (get_or sl r.candidate.slot no_slot) dv r)
