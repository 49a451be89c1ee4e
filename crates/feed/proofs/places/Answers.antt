use mathlib.Core.Path.{◌≡◌, refl, sym, ap, ◌∙◌}
use mathlib.Core.Bool.{true}
use Prim.Native.Nat.{◌-◌}
use native.Mathlib.Omega.{arith}
use native.Mathlib.Nat.{sub-zero}
use lib.ListN.{length, take, drop, replicate, length-set, take-append-drop}
use Rattle.config.specs.Sizes.{slots}
use Rattle.feed.specs.Numbers.{up_from}
use Rattle.feed.specs.Order.{order}
use Rattle.feed.specs.Marks.{marked, unplaced, places_of}
use Rattle.feed.proofs.Count.{length-up_from}
use Rattle.feed.proofs.Turn.{unplaced-start, place-below, turn-length, turn, start, finish, zeros-turn}
use Rattle.feed.proofs.places.Goals as goal

pub loop-k-init : goal.loop-k-init
loop-k-init c =
    let n = c.args.n in
    record {
      k-le = omega arith;
      out-length = refl;
      placed-length = refl;
      many = ap length (unplaced-start slots n) ∙ length-up_from 0 n ∙ sym (sub-zero n);
      zeros = refl;
      so_far = rw sub-zero (start (marked c.args.feeds.now) slots n);
    }

pub bounds-placed-d : goal.bounds-placed-d
bounds-placed-d c =
    let s = c.args in
    let l = c.loop-k in
    omega (arith, place-below (marked s.feeds.now) l.placed l.out l.out s.n l.k c.next_place-d.result (omega arith) (omega arith) (omega arith) c.next_place-d.ensures l.invariant.many)

pub loop-k-preserved : goal.loop-k-preserved
loop-k-preserved c =
    let s = c.args in
    let l = c.loop-k in
    let f = marked s.feeds.now in
    let d = c.next_place-d.result in
    let whole = order f (up_from 0 s.n) in
    record {
      k-le = omega arith;
      out-length = length-set l.out l.k d ∙ l.invariant.out-length;
      placed-length = length-set l.placed d true ∙ l.invariant.placed-length;
      many = turn-length f l.placed l.out whole s.n l.k d (omega arith) (omega arith) (omega arith) c.next_place-d.ensures l.invariant.many;
      zeros = zeros-turn l.out slots l.k d (omega arith) l.invariant.out-length l.invariant.zeros;
      so_far = turn f l.placed l.out whole s.n l.k d (omega arith) (omega arith) (omega arith) c.next_place-d.ensures l.invariant.many l.invariant.so_far;
    }

pub returns : goal.returns
unfolding places_of
returns c =
    let s = c.args in
    let l = c.loop-k in
    let f = marked s.feeds.now in
    let whole = order f (up_from 0 s.n) in
    let last : l.k ≡ s.n = omega arith in
    let placed : take s.n l.out ≡ whole =
    finish f l.out (unplaced l.placed 0 s.n) whole s.n l.k (omega arith) (omega arith) l.invariant.so_far in
    let zeros : drop s.n l.out ≡ replicate (slots - s.n) 0 = rw last at l.invariant.zeros in
    sym (take-append-drop s.n l.out) ∙ rw (placed, zeros)
