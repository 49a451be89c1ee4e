-- `feed::first_free` meets its contract. The invariant: the first free one of the unplaced from b on is the first of all. Assumes nothing.
use mathlib.Core.Path.{◌≡◌}
use mathlib.Core.Bool.{Bool, not}
use mathlib.Core.List.{List}
use Prim.Native.Nat.{ℕ, ◌≤◌, ◌-◌}
use Rattle.feed.specs.Numbers.{keep, first_or}
use Rattle.feed.specs.Order.{fed_by, free}
use Rattle.feed.specs.Marks.{marked, unplaced}
use Rattle.feed.proofs.first_free.Given as goal

-- no other unplaced one feeds b
abbrev pub is_free : List Bool → List Bool → ℕ → ℕ → Bool
is_free feeds placed n b = not (fed_by (marked feeds) (unplaced placed 0 n) b)

abbrev pub invariant-loop-b : goal.invariant-loop-b
invariant-loop-b l =
    (l.b ≤ l.n) × (first_or l.n (free (marked l.feeds) (unplaced l.placed 0 l.n)) ≡ first_or l.n (keep (is_free l.feeds l.placed l.n) (unplaced l.placed l.b (l.n - l.b))))

abbrev pub decreases-loop-b : goal.decreases-loop-b
decreases-loop-b l = l.n - l.b
