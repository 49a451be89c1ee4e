-- Routes put behind those in a list, where there is room. Definitions only.
use Rattle.std.specs.Prelude.{◌≡◌, true, List, [], ◌∷◌, ℕ, get_or, Float, None}
use Rattle.std.proofs.Math.Path.{refl}
use Rattle.state.specs.declared.Sources.{Sources}
use Rattle.state.specs.declared.Slot.{Slot}
use Rattle.state.specs.declared.Reader.{Reader}
use Rattle.state.specs.declared.Route.{Route}
use Rattle.state_filled.specs.Filled.{added}
use Rattle.model.specs.Routes.{no_slot, route_in, routes_in}
use Rattle.model.specs.Plans.{readers_into}

-- one after the other
abbrev pub routes_added : List Route → List Route → List Route
routes_added a [] = a
routes_added a (x ∷ xs) = routes_added (added a x) xs

-- ---- computed

two-behind-none : (x y : Route) → routes_added [] (x ∷ y ∷ []) ≡ x ∷ y ∷ []
two-behind-none x y = refl

-- a reader into 3
into3 : Reader
into3 = record {
  candidate = record { slot = 7; source = 0; aux = None; dest = 3 };
  source = None;
  aux = None;
  amount = None;
  output = None;
}

module _ (a : List Route) (rate : Float) (ss : Sources) (os : List ℕ) (sl : List Slot) where
  not-into-5 : routes_added a (routes_in rate ss os sl true (readers_into 5 (into3 ∷ []))) ≡ a
  unfolding into3
  not-into-5 = refl

  with-its-slot : routes_added a (routes_in rate ss os sl true (readers_into 3 (into3 ∷ [])))
      ≡ added a (route_in rate ss os (get_or sl 7 no_slot) true into3)
  unfolding into3
  with-its-slot = refl
