-- The marks say of places what the readers say of what stands there; so what stands at the places of the order is the order of the numbers.
-- Assumes nothing.
use mathlib.Core.Path.{◌≡◌, refl, sym, ap, ◌∙◌}
use mathlib.Core.Bool.{Bool, true, false}
use mathlib.Core.List.{List, [], ◌∷◌, ◌++◌, map}
use Prim.Native.Nat.{ℕ, zero, suc, ◌+◌, ◌-◌, ◌/◌, ◌%◌, ◌≤◌, ◌<◌, min}
use native.Mathlib.Omega.{arith}
use native.Mathlib.Nat.{mul-add-div_right, mul-add-mod_self_right, div-eq_of_lt, mod-eq_of_lt}
use borrow.Author.Tests.{lt-ltb}
use lib.ListN.{length, get_or, take, replicate, length-replicate}
use Rattle.config.specs.Sizes.{slots}
use Rattle.list.specs.Fill.{fill}
use Rattle.list.specs.Rows.{in_row}
use Rattle.list.proofs.Filled.{fill-below}
use Rattle.feed.specs.Numbers.{up_from}
use Rattle.feed.specs.Order.{order}
use Rattle.feed.specs.Marks.{marked, plan_order, pairs}
use Rattle.feed.specs.declared.Order.{Order}
use Rattle.feed.proofs.Planned.{plan-places}
use Rattle.feed.proofs.Placed.{order-length}
use Rattle.state.specs.declared.Used.{Used}
use Rattle.state.specs.declared.Reader.{Reader}
use Rattle.model.specs.Feeds.{any_reads}
use Rattle.compile_order.specs.Marks.{feeds_other, mark_at, rated_as}
use Rattle.compile_order.proofs.Places.{order-by-places}
use Rattle.compile_order.proofs.Lists.{rated-all}

-- the marks of all pairs
abbrev pub all_marks : List Reader → List ℕ → List Bool
all_marks rs l = fill (replicate pairs false) (mark_at rs l) pairs

module _ (rs : List Reader) (l : List ℕ) (few : length l ≤ slots) where
  module _ (i j : ℕ) (h : i < length l) (k : j < length l) where
    row : in_row slots i j / slots ≡ i
    row = mul-add-div_right {m = slots} (omega arith) i j ∙ omega (arith, div-eq_of_lt {n = j} {m = slots} (omega arith))

    lane : in_row slots i j % slots ≡ j
    lane = mul-add-mod_self_right i slots j ∙ mod-eq_of_lt {n = j} {m = slots} (omega arith)

    mark-is : mark_at rs l (in_row slots i j) ≡ feeds_other rs (get_or l i 0) (get_or l j 0)
    unfolding mark_at
    mark-is = rw (row, lane, lt-ltb i (length l) h, lt-ltb j (length l) k)

    pub marked-is : marked (all_marks rs l) i j ≡ feeds_other rs (get_or l i 0) (get_or l j 0)
    marked-is =
        fill-below (replicate pairs false) (mark_at rs l) pairs (in_row slots i j) false (omega arith) (omega (arith, length-replicate pairs false))
        ∙ mark-is

  pub order-marked : order (λ a b. any_reads a b rs) l ≡ map (λ i. get_or l i 0) (order (marked (all_marks rs l)) (up_from 0 (length l)))
  order-marked = order-by-places (λ a b. any_reads a b rs) l (marked (all_marks rs l)) marked-is

-- ---- THE ORDER OF THE PLANS, as `plan_order` finds it

module _ (us : List Used) (rs : List Reader) (few : length us ≤ slots) where
  abbrev control : List ℕ
  control = rated_as false us

  abbrev reads : ℕ → ℕ → Bool
  reads a b = any_reads a b rs

  pub some : length control ≤ slots
  some = omega (arith, rated-all us)

  -- what stands at the places of the order of places
  pub placed : (o : Order) → o ≡ plan_order (all_marks rs control) (length control)
      → map (λ i. get_or control i 0) (take o.count o.place) ≡ order reads control
  placed o eo =
      let held : min (length control) slots ≡ length control = omega (arith, some) in
      let same : order (marked (all_marks rs control)) (up_from 0 (min (length control) slots)) ≡ order (marked (all_marks rs control)) (up_from 0 (length control)) = rw held in
      ap (map (λ i. get_or control i 0)) (ap (λ (x : Order). take x.count x.place) eo ∙ plan-places (all_marks rs control) (length control) ∙ same)
      ∙ sym (order-marked rs control some)

  -- the steps of `plan_order` up to what stands at the places
  pub placed-is : (places list : List ℕ) (marks : List Bool) (n : ℕ) (o : Order) → list ≡ control → marks ≡ all_marks rs list → n ≡ length list
      → o ≡ plan_order marks n → places ≡ map (λ i. get_or list i 0) (take o.count o.place) → places ≡ order reads control
  placed-is places list marks n o el em en eo ep =
      let marks-are : marks ≡ all_marks rs control = em ∙ ap (all_marks rs) el in
      let many : n ≡ length control = en ∙ ap length el in
      ep ∙ ap (λ (l : List ℕ). map (λ i. get_or l i 0) (take o.count o.place)) el ∙ placed o (rw (sym marks-are, sym many) eo)

  -- with those at audio rate behind them
  pub fits : length (order reads control) + length (rated_as true us) ≤ slots
  fits = omega (arith, rated-all us, order-length reads control)
