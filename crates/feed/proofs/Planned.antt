-- What `planOrder` holds: as many places as asked for, in the greedy order. Assumes nothing.
use mathlib.Core.Path.{◌≡◌, refl, sym, ap, ◌∙◌}
use mathlib.Core.Bool.{Bool}
use mathlib.Core.List.{List}
use Prim.Native.Nat.{ℕ, ◌-◌, ◌≤◌, ◌<◌, min}
use native.Mathlib.Omega.{arith}
use native.Mathlib.Nat.{min-le_right}
use lib.ListN.{length, get_or, take, replicate, length-append, length-replicate}
use lib.Seq.{take_at, get_or-take}
use Rattle.config.specs.Sizes.{slots}
use Rattle.feed.specs.Numbers.{up_from}
use Rattle.feed.specs.Order.{order}
use Rattle.feed.specs.Marks.{marked, places_of, plan_order}
use Rattle.feed.proofs.Count.{length-up_from}
use Rattle.feed.proofs.Placed.{order-length}

module _ (feeds : List Bool) (n : ℕ) where
  many : length (order (marked feeds) (up_from 0 n)) ≡ n
  many = order-length (marked feeds) (up_from 0 n) ∙ length-up_from 0 n

  pub places-length : n ≤ slots → length (places_of feeds n) ≡ slots
  unfolding places_of
  places-length h = simp (length-append, length-replicate) (omega (arith, many))

  pub places-order : take n (places_of feeds n) ≡ order (marked feeds) (up_from 0 n)
  unfolding places_of
  places-order = take_at (order (marked feeds) (up_from 0 n)) (replicate (slots - n) 0) n many

module _ (feeds : List Bool) (n : ℕ) where
  pub plan-count : (plan_order feeds n).count ≡ min n slots
  unfolding plan_order
  plan-count = refl

  pub plan-length : length (plan_order feeds n).place ≡ slots
  unfolding plan_order
  plan-length = places-length feeds (min n slots) (min-le_right n slots)

  -- the first `count` places are the order
  pub plan-places : take (plan_order feeds n).count (plan_order feeds n).place ≡ order (marked feeds) (up_from 0 (min n slots))
  unfolding plan_order
  plan-places = places-order feeds (min n slots)

  pub plan-at : (k : ℕ) → k < min n slots → get_or (plan_order feeds n).place k 0 ≡ get_or (order (marked feeds) (up_from 0 (min n slots))) k 0
  unfolding plan_order
  plan-at k h =
      sym (get_or-take (min n slots) (places_of feeds (min n slots)) k 0 h) ∙ ap (λ (l : List ℕ). get_or l k 0) (places-order feeds (min n slots))
