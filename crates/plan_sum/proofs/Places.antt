-- Where a plain route's numbers stand. Assumes nothing.
use mathlib.Core.Path.{◌≡◌, sym, ◌∙◌}
use mathlib.Core.Bool.{Bool, true, false}
use mathlib.Core.Logic.{⊎_elim}
use mathlib.Core.List.{List}
use Prim.Native.Nat.{ℕ, ◌+◌, ◌-◌, ◌*◌, ◌/◌, ◌≤◌, ◌<◌}
use native.Mathlib.Nat.{le-div_iff_mul-le}
use native.Mathlib.Omega.{arith}
use borrow.Author.Tests.{leb-true, leb-false, le-leb, lt-leb, lt-ltb}
use lib.Dec.{leb}
use lib.Ieee.{Float}
use Rattle.state.specs.declared.Read.TheVariants as D
use Rattle.state.specs.declared.Route.{Route}
use Rattle.state.specs.declared.SignalPart.{SignalPart}
use Rattle.model.specs.Counts.{at}
use Rattle.model.specs.Env.{Env, Rows, Own, part_stride, sample_in}
use Rattle.model.specs.Layout.{plan_to}
use Rattle.model.specs.RouteValue.{raw_in}
use Rattle.lane_input.proofs.Numbers.{which}
use Rattle.lane.specs.declared.View.{View}
use Rattle.plan_sum.specs.Job.{Shown}

pub fits-is : (len start n : ℕ) → start ≤ len → leb n (len - start) ≡ leb (start + n) len
fits-is len start n h =
    ⊎_elim
    (λ (p : leb n (len - start) ≡ true). let k = leb-true n (len - start) p in p ∙ sym (le-leb (start + n) len (omega arith)))
    (λ (p : leb n (len - start) ≡ false). let k = leb-false n (len - start) p in p ∙ sym (lt-leb (start + n) len (omega arith)))
    (which (leb n (len - start)))

-- a row whose number is below the rows that a length has
pub row_below : (frame w len : ℕ) → 0 < w → frame < len / w → frame * w + w ≤ len
row_below frame w len pos h =
    let more : (frame + 1) * w ≤ len = (le-div_iff_mul-le {k = w} {x = frame + 1} {y = len} pos).0 (omega arith) in
    omega arith

-- a lane of it is in the part
pub sample-at : (i : List Float) (p : SignalPart) (frame l w : ℕ) → w ≡ part_stride p → l < w → frame * w + w ≤ p.len
    → sample_in i p frame true l ≡ at i (p.at + (frame * w + l))
unfolding sample_in
sample-at i p frame l w e h b = rw (← e, lt-ltb l w h, lt-ltb (frame * w + l) p.len (omega arith))

module _ {t : Env} {f : Rows} {s : Own} {j : ℕ} {v : View} {r : Route} {h g i m : List Float} (see : Shown t f s j v r h g i m) (l : ℕ) where
  pub raw-held : (src : ℕ) {voice : Bool} → r.source.read ≡ D.Held src voice → voice ≡ true → raw_in t f s j l r ≡ at h (src * v.point.stride + l)
  raw-held src q e = rw (q, e, see.reads.held, see.reads.stride)

  pub raw-fed : (e : ℕ) {voice : Bool} → r.source.read ≡ D.Fed e voice → voice ≡ true → l < v.point.stride
      → raw_in t f s j l r ≡ at m (plan_to v.point.stride v.point.chunks e + l)
  raw-fed e q k b = rw (q, k, see.reads.stride, lt-ltb l v.point.stride b) (see.reads.rows e l)

  pub raw-own : r.source.read ≡ D.RouteRandom → l < v.point.stride → raw_in t f s j l r ≡ at m (v.own + 2 * v.point.stride + l)
  raw-own q b = rw (q, see.reads.stride, lt-ltb l v.point.stride b) (see.own 2 l)

  pub raw-signal : (src : ℕ) {voice : Bool} → r.source.read ≡ D.Signal src voice → voice ≡ true → raw_in t f s j l r ≡ sample_in i v.source v.point.frame true l
  raw-signal src q e = rw (q, e, see.reads.samples, see.reads.frame, rw q at see.source)
