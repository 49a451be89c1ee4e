-- The order: each of those left once and nothing else, taken step by step as document 01 asks. Assumes nothing.
use mathlib.Core.Path.{◌≡◌, refl, sym, ap, ◌∙◌}
use mathlib.Core.Logic.{◌↔◌}
use mathlib.Core.Bool.{Bool}
use mathlib.Core.List.{List, [], ◌∷◌}
use Prim.Native.Nat.{ℕ, zero, suc, ◌≤◌, ◌<◌}
use native.Mathlib.Omega.{arith}
use lib.ListN.{length, get_or}
use Rattle.feed.specs.Numbers.{count, In, Distinct, Ascending, remove, up_from}
use Rattle.feed.specs.Order.{next, greedy, order}
use Rattle.feed.specs.Taken.{Taken, Placing, done, take}
use Rattle.feed.proofs.Count.{count-remove, length-remove, remove-ascending, in-length, in-at, length-up_from, up_from-bound}
use Rattle.feed.proofs.Next.{next-in, next-taken, taken_next}

module _ (feeds : ℕ → ℕ → Bool) where
  greedy-length : (k : ℕ) (left : List ℕ) → length (greedy feeds k left) ≡ k
  greedy-length zero left = refl
  greedy-length (suc k) left = ap suc (greedy-length k (remove (next feeds left) left))

  -- `greedy` places each of those left, as often as it stands there
  pub greedy-count : (k : ℕ) (left : List ℕ) → length left ≡ k → (d : ℕ) → count d (greedy feeds k left) ≡ count d left
  greedy-count zero [] h d = refl
  greedy-count zero (u ∷ us) h d = omega arith
  greedy-count (suc k) left h d =
      let m : In (next feeds left) left = next-in feeds left (omega arith) in
      rw (count-remove d (next feeds left) left m, greedy-count k (remove (next feeds left) left) (omega (arith, length-remove (next feeds left) left m)) d)

  greedy-placing : (k : ℕ) (left : List ℕ) → length left ≡ k → Ascending left → Placing feeds left (greedy feeds k left)
  greedy-placing zero [] h up = done
  greedy-placing zero (u ∷ us) h up = absurd (omega arith)
  greedy-placing (suc k) left h up =
      let d = next feeds left in
      let t : Taken feeds left d = next-taken feeds left up (omega arith) in
      take t (greedy-placing k (remove d left) (omega (arith, length-remove d left t.unplaced)) (remove-ascending d left up))

module _ (feeds : ℕ → ℕ → Bool) (left : List ℕ) where
  -- THE SAME LENGTH
  pub order-length : length (order feeds left) ≡ length left
  unfolding order
  order-length = greedy-length feeds (length left) left

  -- THE SAME THINGS, each as often
  pub order-count : (d : ℕ) → count d (order feeds left) ≡ count d left
  unfolding order
  order-count d = greedy-count feeds (length left) left refl d

  -- what is left stands in the order, and nothing else does
  pub order-in : (d : ℕ) → In d (order feeds left) ↔ In d left
  order-in d = (λ h. omega (arith, order-count d), λ h. omega (arith, order-count d))

  -- NOTHING TWICE
  pub order-distinct : Distinct left → Distinct (order feeds left)
  order-distinct once d = omega (arith, order-count d, once d)

  -- EACH EXACTLY ONCE
  pub order-once : Distinct left → (d : ℕ) → In d left → count d (order feeds left) ≡ 1
  order-once once d h = omega (arith, order-count d, once d)

  -- the first of the order is the one to take next, and the others are the order without it
  pub order-step : 1 ≤ length left → order feeds left ≡ next feeds left ∷ order feeds (remove (next feeds left) left)
  unfolding order
  order-step h = rw (length-remove (next feeds left) left (next-in feeds left h))

  -- STEP BY STEP AS DOCUMENT 01 ASKS
  pub order-placing : Ascending left → Placing feeds left (order feeds left)
  unfolding order
  order-placing up = greedy-placing feeds (length left) left refl up

module _ (feeds : ℕ → ℕ → Bool) where
  -- AND NO OTHER ORDER IS
  pub placing-order : {left os : List ℕ} → Ascending left → Placing feeds left os → os ≡ order feeds left
  unfolding order
  placing-order up done = refl
  placing-order {left} up (take {d = d} {os = os} t p) =
      let e : d ≡ next feeds left = taken_next feeds left d up t in
      let rest : os ≡ order feeds (remove d left) = placing-order (remove-ascending d left up) p in
      sym (order-step feeds left (in-length d left t.unplaced) ∙ rw (← e, rest))

-- the order of the places below n: what stands in it is below n
pub order_below : (feeds : ℕ → ℕ → Bool) (n k : ℕ) → k < n → get_or (order feeds (up_from 0 n)) k 0 < n
order_below feeds n k h =
    let os = order feeds (up_from 0 n) in
    let d = get_or os k 0 in
    let m : In d os = in-at os k (omega (arith, order-length feeds (up_from 0 n), length-up_from 0 n)) in
    omega (arith, up_from-bound d 0 n ((order-in feeds (up_from 0 n) d).0 m))
