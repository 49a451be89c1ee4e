-- How many routes a program has: not more than candidates where no destination stands twice in the order, and as many where each candidate's destination
-- stands there. Assumes nothing.
use mathlib.Core.Path.{◌≡◌, refl}
use mathlib.Core.List.{List, [], ◌∷◌}
use Prim.Native.Nat.{ℕ, ◌+◌, ◌≤◌}
use native.Mathlib.Omega.{arith}
use native.Mathlib.Decide.{ℕ_discrete}
use borrow.Author.Tests.{eq-eqb, ne_eqb}
use lib.ListN.{length, length-append, length-map}
use lib.Ieee.{Float}
use Rattle.feed.specs.Numbers.{hit, count, In, Distinct}
use Rattle.state.specs.declared.Slot.{Slot}
use Rattle.state.specs.declared.Sources.{Sources}
use Rattle.state.specs.declared.Destinations.{Destinations}
use Rattle.state.specs.declared.Reader.{Reader}
use Rattle.model.specs.Plans.{readers_into, routes_over}

-- how many of the readers are into the destinations of the list
abbrev pub into : List ℕ → List Reader → ℕ
into [] rs = 0
into (d ∷ l) rs = length (readers_into d rs) + into l rs

none-into : (l : List ℕ) → into l [] ≡ 0
none-into [] = refl
none-into (d ∷ l) = omega (arith, none-into l)

one-into : (d : ℕ) (r : Reader) (rs : List Reader) → length (readers_into d (r ∷ rs)) ≡ hit r.candidate.dest d + length (readers_into d rs)
one-into d r rs = elim (ℕ_discrete r.candidate.dest d) [
  | yes e ↦ rw (eq-eqb _ _ e) (omega arith)
  | no ne ↦ rw (ne_eqb _ _ ne) (omega arith)
]

into_more : (l : List ℕ) (r : Reader) (rs : List Reader) → into l (r ∷ rs) ≡ count r.candidate.dest l + into l rs
into_more [] r rs = omega arith
into_more (d ∷ l) r rs = omega (arith, one-into d r rs, into_more l r rs)

pub into-bound : (l : List ℕ) (rs : List Reader) → Distinct l → into l rs ≤ length rs
into-bound l [] once = omega (arith, none-into l)
into-bound l (r ∷ rs) once = omega (arith, into_more l r rs, once r.candidate.dest, into-bound l rs once)

-- each reader's destination stands in the list
abbrev pub AllIn : List ℕ → List Reader → Type 0
AllIn l [] = Unit {0}
AllIn l (r ∷ rs) = In r.candidate.dest l × AllIn l rs

pub into-all : (l : List ℕ) (rs : List Reader) → Distinct l → AllIn l rs → into l rs ≡ length rs
into-all l [] once all = none-into l
into-all l (r ∷ rs) once all = omega (arith, into_more l r rs, once r.candidate.dest, all.0, into-all l rs once all.1)

module _ (rate : Float) (ss : Sources) (ds : Destinations) (slots : List Slot) (rs : List Reader) (os : List ℕ) where
  pub routes-length : (l : List ℕ) → length (routes_over rate ss ds slots rs os l) ≡ into l rs
  routes-length [] = refl
  routes-length (d ∷ l) = simp (length-append, length-map, routes-length l)
