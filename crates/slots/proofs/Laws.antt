-- Laws that proofs cite in place of the definitions' text. Assumes nothing.
use mathlib.Core.Path.{◌≡◌, refl, sym, ap, ◌∙◌}
use mathlib.Core.Bool.{Bool, true, false, cond, not, ◌&&◌}
use mathlib.Core.List.{List, [], ◌∷◌, map}
use Prim.Native.Nat.{ℕ, ◌+◌, ◌<◌}
use native.Mathlib.Omega.{arith}
use lib.ListN.{length, get_or, length-map, get_or-map}
use Rattle.std.specs.List.{list_all, count_by}
use Rattle.std.proofs.lemmas.List.Sums.{sum_by-cons}
use Rattle.std.specs.Prelude.{Option, None, Some, is_some}
use Rattle.list.specs.Fill.{fill}
use Rattle.list.proofs.Elements.{get_or-inside}
use Rattle.list.proofs.Filled.{fill_is}
use Rattle.state.specs.declared.Slot.{Slot}
use Rattle.state.specs.declared.Target.{Target}
use Rattle.slots.specs.Slots.{empty_slot, no_source, no_destination, is_empty_slot, numbers_finite, all_finite, first_empty, aims_at, one_if, cleared, count_aims}

-- ---- tests

pub one-if-true : {b : Bool} → b ≡ true → 1 ≡ one_if b
one-if-true h = rw h

pub one-if-false : {b : Bool} → b ≡ false → 0 ≡ one_if b
one-if-false h = rw h

-- ---- the library's test for none

no-source-is : (p : Option ℕ) → no_source p ≡ not (is_some p)
no-source-is None = refl
no-source-is (Some n) = refl

no-destination-is : (p : Option Target) → no_destination p ≡ not (is_some p)
no-destination-is None = refl
no-destination-is (Some t) = refl

pub empty_is : (s : Slot) → is_empty_slot s ≡ not (is_some s.source) && not (is_some s.destination)
unfolding is_empty_slot
empty_is s = rw (no-source-is s.source, no-destination-is s.destination)

-- ---- what a walk over the slots finds

pub empty-more : (s : Slot) (l : List Slot) → first_empty (s ∷ l) ≡ cond (is_empty_slot s) 0 (1 + first_empty l)
unfolding first_empty
empty-more s l = ap (λ n. cond (is_empty_slot s) 0 n) (omega arith)

pub empty-none : first_empty [] ≡ 0
unfolding first_empty
empty-none = refl

pub count_aims_by : (t : Target) (l : List Slot) → count_by (λ s. aims_at t s.destination) l ≡ count_aims t l
unfolding count_aims
count_aims_by t [] = refl
count_aims_by t (s ∷ l) =
    sum_by-cons (λ (x : Slot). one_if (aims_at t x.destination)) s l ∙ ap (λ n. one_if (aims_at t s.destination) + n) (count_aims_by t l)

pub all_finite_all : (l : List Slot) → list_all numbers_finite l ≡ all_finite l
unfolding all_finite
all_finite_all [] = refl
all_finite_all (s ∷ l) = ap (λ b. numbers_finite s && b) (all_finite_all l)

-- ---- clearing

pub cleared-aimed : (t : Target) (s : Slot) → aims_at t s.destination ≡ true → cleared t s ≡ empty_slot
unfolding cleared
cleared-aimed t s h = rw h

pub cleared-other : (t : Target) (s : Slot) → aims_at t s.destination ≡ false → cleared t s ≡ s
unfolding cleared
cleared-other t s h = rw h

-- a list filled by g of each element
pub map-fill : {A : Type 0} (g : A → A) (l : List A) (d : A) → fill l (λ k. g (get_or l k d)) (length l) ≡ map g l
map-fill g l d =
    fill_is l (map g l) (λ k. g (get_or l k d)) (length-map l g)
    (λ k e h.
    let inside : k < length (map g l) = rw length-map h in
    sym (get_or-inside (map g l) k e (g d) inside ∙ get_or-map g l k d))
