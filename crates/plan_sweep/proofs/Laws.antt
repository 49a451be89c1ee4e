-- Sixteen lanes at a time make a row, and rows the rows of a chunk. Assumes nothing.
use mathlib.Core.Path.{◌≡◌, refl, ap, ap₂, ◌∙◌}
use mathlib.Core.Bool.{Bool, true, false, cond, ◌||◌}
use mathlib.Core.Logic.{inr}
use mathlib.Core.List.{List}
use Prim.Native.Nat.{ℕ, zero, suc, ◌+◌, ◌*◌, ◌≤◌, ◌<◌}
use native.Mathlib.Nat.{add-mul, mul-le-mul_right}
use native.Mathlib.Numerals.{add-one}
use native.Mathlib.Omega.{arith}
use lib.ListN.{length, get_or, set}
use lib.Ieee.{Float, is_nan, lt}
use Rattle.config.specs.Sizes.{lanes}
use Rattle.number.specs.Number.{plus, times, max32, min32, hold}
use Rattle.model.specs.Counts.{at}
use Rattle.model.specs.RouteValue.{is_zero}
use Rattle.model.specs.Tick.{fill_from}
use Rattle.model.proofs.FillFrom.{fill-same, fill-outside}
use Rattle.plan_sweep.specs.declared.Pass.{Pass}
use Rattle.plan_sweep.specs.Sweep.{swept_step, place_of, swept, start_at, held_by, swept_row, swept_rows, some_row, some_rows, Within}

-- ---- numbers

pick-number : (a b : Bool) (x y : Float) → is_nan x ≡ a → is_nan y ≡ false → is_nan (cond (a || b) y x) ≡ false
pick-number true b x y e f = f
pick-number false true x y e f = f
pick-number false false x y e f = e

-- the greater of x and a number is a number
pub max-number : (x y : Float) → is_nan y ≡ false → is_nan (max32 x y) ≡ false
unfolding max32
max-number x y f = pick-number (is_nan x) (lt x y) x y refl f

pub below-taken : (y hi : Float) → is_nan y ≡ false → lt hi y ≡ true → hi ≡ min32 y hi
unfolding min32
below-taken y hi e h = rw (e, h)

pub below_left : (y hi : Float) → is_nan y ≡ false → lt hi y ≡ false → y ≡ min32 y hi
unfolding min32
below_left y hi e h = rw (e, h)

pub held-is : (lo hi x y r : Float) → y ≡ max32 x lo → r ≡ min32 y hi → r ≡ hold lo hi x
unfolding hold
held-is lo hi x y r e f = f ∙ ap (λ (z : Float). min32 z hi) e

-- ---- what is read

module _ (s p : List ℕ) (g xs : List Float) (q : Pass) where
  -- up to an earlier frame
  pub sooner : {k n : ℕ} → k ≤ n → Within s p g xs q n → Within s p g xs q k
  sooner {k} {n} h w =
      record {
        starts = w.starts;
        steps = w.steps;
        gains = w.gains;
        routes = w.routes;
        span = w.span;
        width = w.width;
        frames = omega (arith, w.frames);
        number = w.number;
        wide = w.wide;
        inside = λ i a b. omega (arith, w.inside i a b, mul-le-mul_right (get_or p i 0) h);
      }

  -- sixteen lanes of a route's row
  pub reach : (k l i : ℕ) → Within s p g xs q (k + 1) → q.first ≤ i → i < q.first + q.count → l + lanes ≤ q.width → place_of s p i k l + lanes ≤ length xs
  reach k l i w a b h =
      omega (arith, w.inside i a b, w.wide i a b, add-mul k 1 (get_or p i 0))

  pub swept_none : (k l : ℕ) (b : Float) → b ≡ swept s p g xs q.first k l b 0
  unfolding swept
  swept_none k l b = refl

  pub swept-more : (k l j pl : ℕ) (b gain a r : Float) → pl ≡ place_of s p (q.first + j) k l → gain ≡ at g (q.first + j) → a ≡ swept s p g xs q.first k l b j
      → r ≡ swept_step gain (at xs pl) a → r ≡ swept s p g xs q.first k l b (j + 1)
  unfolding swept
  swept-more k l j pl b gain a r e f h z = rw (add-one, ← e, ← f, ← h) z

-- ---- groups

pub fill-append : (m : List Float) (a : ℕ) (f : ℕ → Float) (n k : ℕ) → fill_from (fill_from m a f n) (a + n) (λ l. f (n + l)) k ≡ fill_from m a f (n + k)
unfolding fill_from
fill-append m a f n zero = let e : n ≡ n + 0 = omega arith in ap (fill_from m a f) e
fill-append m a f n (suc k) =
    let e : a + n + k ≡ a + (n + k) = omega arith in
    let more : suc (n + k) ≡ n + suc k = omega arith in
    ap₂ (λ (z : List Float) (i : ℕ). set z i (f (n + k))) (fill-append m a f n k) e ∙ ap (fill_from m a f) more

module _ (over : Bool) (s p : List ℕ) (g xs : List Float) (q : Pass) (k a : ℕ) where
  -- lane l of the row, over the numbers of m
  abbrev pub some_lane : List Float → ℕ → Float
  some_lane m l = held_by q (swept s p g xs q.first k (q.from + l) (start_at over q.begun m (a + q.from + l)) q.count)

  pub group-done : (m r : List Float) (l : ℕ) (old acc row : List Float) → ((i : ℕ) → i < lanes → at old i ≡ start_at over q.begun m (a + l + i))
      → ((i : ℕ) → i < lanes → at acc i ≡ swept s p g xs q.first k (l + i) (at old i) q.count) → ((i : ℕ) → i < lanes → at row i ≡ held_by q (at acc i))
      → r ≡ fill_from m (a + l) (at row) lanes → r ≡ fill_from m (a + l) (λ i. held_by q (swept s p g xs q.first k (l + i) (start_at over q.begun m (a + l + i)) q.count)) lanes
  group-done m r l old acc row o e f h =
      h
      ∙ fill-same m (a + l) (at row) (λ i. held_by q (swept s p g xs q.first k (l + i) (start_at over q.begun m (a + l + i)) q.count)) lanes
      (λ i b. f i b ∙ ap (held_by q) (e i b ∙ ap (λ (y : Float). swept s p g xs q.first k (l + i) y q.count) (o i b)))

  pub groups_none : (m : List Float) → m ≡ fill_from m (a + q.from) (some_lane m) (0 * lanes)
  unfolding fill_from
  groups_none m = refl

  pub groups-more : (m n r : List Float) (i l : ℕ) → n ≡ fill_from m (a + q.from) (some_lane m) (i * lanes) → l ≡ q.from + i * lanes
      → r ≡ fill_from n (a + l) (λ j. held_by q (swept s p g xs q.first k (l + j) (start_at over q.begun n (a + l + j)) q.count)) lanes
      → r ≡ fill_from m (a + q.from) (some_lane m) ((i + 1) * lanes)
  groups-more m n r i l e h z =
      let b : ℕ = a + q.from in
      let place : a + l ≡ b + i * lanes = omega arith in
      let all : i * lanes + lanes ≡ (i + 1) * lanes = omega arith in
      z
      ∙ fill-same n (a + l) (λ j. held_by q (swept s p g xs q.first k (l + j) (start_at over q.begun n (a + l + j)) q.count)) (λ j. some_lane m (i * lanes + j)) lanes
      (λ j c.
      let same : l + j ≡ q.from + (i * lanes + j) = omega arith in
      let there : a + l + j ≡ b + (i * lanes + j) = omega arith in
      let old : at n (a + l + j) ≡ at m (b + (i * lanes + j)) =
      ap (λ (y : List Float). at y (a + l + j)) e ∙ fill-outside m b (some_lane m) (i * lanes) (a + l + j) (inr (omega arith)) ∙ ap (at m) there in
      ap₂ (λ (u : ℕ) (y : Float). held_by q (swept s p g xs q.first k u (cond over y q.begun) q.count)) same old)
      ∙ ap₂ (λ (y : List Float) (c : ℕ). fill_from y c (λ j. some_lane m (i * lanes + j)) lanes) e place
      ∙ fill-append m b (some_lane m) (i * lanes) lanes
      ∙ ap (fill_from m b (some_lane m)) all

  pub groups-end : (m n : List Float) (i : ℕ) → n ≡ fill_from m (a + q.from) (some_lane m) (i * lanes) → i ≡ q.groups → n ≡ some_row over s p g xs q a k m
  unfolding some_row
  groups-end m n i e h = e ∙ ap (λ (z : ℕ). fill_from m (a + q.from) (some_lane m) (z * lanes)) h

  -- ---- rows

  pub rows_none : (m : List Float) → m ≡ some_rows over s p g xs q a k 0 m
  unfolding some_rows
  rows_none m = refl

  pub rows_more : (m n r : List Float) (i b : ℕ) → n ≡ some_rows over s p g xs q a k i m → b ≡ a + i * q.width → r ≡ some_row over s p g xs q b (k + i) n
      → r ≡ some_rows over s p g xs q a k (i + 1) m
  unfolding some_rows
  rows_more m n r i b e h z = rw (add-one, ← h, ← e) z

  pub rows_end : (m n : List Float) (i l : ℕ) → n ≡ some_rows over s p g xs q a k i m → i ≡ l → n ≡ some_rows over s p g xs q a k l m
  rows_end m n i l e h = e ∙ ap (λ (z : ℕ). some_rows over s p g xs q a k z m) h

module _ (s p : List ℕ) (g xs : List Float) (q : Pass) (k a : ℕ) where
  -- over what the routes are added to
  pub row-anew : (m : List Float) → some_row false s p g xs q a k m ≡ swept_row s p g xs q a k m
  unfolding some_row swept_row
  row-anew m = refl

  pub rows-anew : (n : ℕ) (m : List Float) → some_rows false s p g xs q a k n m ≡ swept_rows s p g xs q a k n m
  unfolding some_rows swept_rows some_row swept_row
  rows-anew zero m = refl
  rows-anew (suc n) m = ap (swept_row s p g xs q (a + n * q.width) (k + n)) (rows-anew n m)

-- ---- a gain

pub step-none : (g raw a : Float) → is_zero g ≡ true → a ≡ swept_step g raw a
step-none g raw a h = rw h

pub step-some : (g raw a r : Float) → is_zero g ≡ false → r ≡ plus a (times raw g) → r ≡ swept_step g raw a
step-some g raw a r h e = rw h e
