-- `feed::places` meets its contract. The invariant: what is placed, then the greedy order of the unplaced, is the whole order. Assumes nothing.
use mathlib.Core.Path.{◌≡◌}
use mathlib.Core.List.{◌++◌}
use Prim.Native.Nat.{◌≤◌, ◌-◌}
use lib.ListN.{length, take, drop, replicate}
use Rattle.config.specs.Sizes.{slots}
use Rattle.feed.specs.Numbers.{up_from}
use Rattle.feed.specs.Order.{greedy, order}
use Rattle.feed.specs.Marks.{marked, unplaced}
use Rattle.feed.proofs.places.Given as goal

abbrev pub invariant-loop-k : goal.invariant-loop-k
invariant-loop-k l = record {
  k-le : l.k ≤ l.n;
  out-length : length l.out ≡ slots;
  placed-length : length l.placed ≡ slots;
  many : length (unplaced l.placed 0 l.n) ≡ l.n - l.k;
  zeros : drop l.k l.out ≡ replicate (slots - l.k) 0;
  so_far : take l.k l.out ++ greedy (marked l.feeds) (l.n - l.k) (unplaced l.placed 0 l.n) ≡ order (marked l.feeds) (up_from 0 l.n);
}

abbrev pub decreases-loop-k : goal.decreases-loop-k
decreases-loop-k l = l.n - l.k
