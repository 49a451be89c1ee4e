-- Routes four at a time over the rows of a chunk: what the rows are after each pass. Assumes nothing.
use mathlib.Core.Path.{◌≡◌, refl, sym, ap, ap₂, ◌∙◌}
use mathlib.Core.Bool.{Bool, true, false, cond}
use mathlib.Core.Logic.{◌⊎◌, inl, inr, ⊎_elim}
use mathlib.Core.List.{List}
use Prim.Native.Nat.{ℕ, zero, suc, ◌+◌, ◌-◌, ◌*◌, ◌≤◌, ◌<◌, zero-le}
use native.Mathlib.Nat.{add_assoc, add-mul, eq-or-lt_of_le, le_of_suc-le-suc}
use native.Mathlib.Omega.{arith}
use borrow.Author.Tests.{lt-ltb, le-ltb, eq-eqb, ne_eqb}
use lib.Dec.{eqb, ltb}
use lib.ListN.{length, get_or, set}
use lib.Seq.{set_comm, set-set}
use lib.Ieee.{Float}
use Rattle.config.specs.Sizes.{lanes}
use Rattle.list.proofs.Rows.{row_inside}
use Rattle.model.specs.Counts.{at}
use Rattle.model.specs.Tick.{fill_from}
use Rattle.model.proofs.FillFrom.{fill-length, fill-outside, fill-inside, fill-same}
use Rattle.plan_sweep.specs.declared.Levels.{Levels}
use Rattle.plan_sweep.specs.declared.Pass.{Pass}
use Rattle.plan_sweep.specs.declared.Places.{Places}
use Rattle.plan_sweep.specs.Sweep.{swept_step, place_of, swept, start_at, held_by, swept_at, swept_row, swept_rows, some_row, some_rows, Within, part_of, head_of, after_of, four_of, levels_of, further_of, places_at, UpTo, four_at}
use Rattle.plan_sweep.proofs.Laws.{fill-append, rows-anew}

-- ---- filled twice

-- a store beside what is filled
pub set-fill : (m : List Float) (a : ℕ) (g : ℕ → Float) (n i : ℕ) (v : Float) → (i < a) ⊎ (a + n ≤ i) → set (fill_from m a g n) i v ≡ fill_from (set m i v) a g n
unfolding fill_from
set-fill m a g zero i v h = refl
set-fill m a g (suc n) i v h =
    set_comm (fill_from m a g n) (a + n) i (g n) v (λ e. ⊎_elim (λ l. omega arith) (λ r. omega arith) h)
    ∙ ap (λ (z : List Float). set z (a + n) (g n)) (set-fill m a g n i v (⊎_elim (λ l. inl l) (λ r. inr (omega arith)) h))

-- the stretch that ends where the other begins, or before, may be filled first
pub fill-comm : (m : List Float) (a : ℕ) (f : ℕ → Float) (n b : ℕ) (g : ℕ → Float) (k : ℕ) → b + k ≤ a
    → fill_from (fill_from m a f n) b g k ≡ fill_from (fill_from m b g k) a f n
unfolding fill_from
fill-comm m a f n b g zero h = refl
fill-comm m a f n b g (suc k) h =
    ap (λ (z : List Float). set z (b + k) (g k)) (fill-comm m a f n b g k (omega arith))
    ∙ set-fill (fill_from m b g k) a f n (b + k) (g k) (inl (omega arith))

-- what is filled last counts
pub fill-twice : (m : List Float) (a : ℕ) (f g : ℕ → Float) (n : ℕ) → fill_from (fill_from m a f n) a g n ≡ fill_from m a g n
unfolding fill_from
fill-twice m a f g zero = refl
fill-twice m a f g (suc n) =
    ap (λ (z : List Float). set z (a + n) (g n)) (sym (set-fill (fill_from m a f n) a g n (a + n) (f n) (inr (omega arith))))
    ∙ set-set (fill_from (fill_from m a f n) a g n) (a + n) (f n) (g n)
    ∙ ap (λ (z : List Float). set z (a + n) (g n)) (fill-twice m a f g n)

-- ---- rows

module _ (s p : List ℕ) (g xs : List Float) (q : Pass) (a k : ℕ) (fits : q.from + q.groups * lanes ≤ q.width) where
  -- where the span of row n starts, and its lanes
  abbrev span_at : ℕ → ℕ
  span_at n = a + n * q.width + q.from

  abbrev lanes_of : ℕ → ℕ → Float
  lanes_of n l = swept_at s p g xs q (k + n) (q.from + l)

  pub rows-length : (m : List Float) (n : ℕ) → length (swept_rows s p g xs q a k n m) ≡ length m
  unfolding swept_rows swept_row
  rows-length m zero = refl
  rows-length m (suc n) = fill-length (swept_rows s p g xs q a k n m) (span_at n) (lanes_of n) (q.groups * lanes) ∙ rows-length m n

  -- beyond the rows: as it was
  pub rows-later : (m : List Float) (n i : ℕ) → a + n * q.width ≤ i → at (swept_rows s p g xs q a k n m) i ≡ at m i
  unfolding swept_rows swept_row
  rows-later m zero i h = refl
  rows-later m (suc n) i h =
      let less : n < suc n = omega arith in
      let r : n * q.width + q.width ≤ suc n * q.width = row_inside q.width less in
      fill-outside (swept_rows s p g xs q a k n m) (span_at n) (lanes_of n) (q.groups * lanes) i (inr (omega arith)) ∙ rows-later m n i (omega arith)

  -- in the span of a row: what the routes give there
  pub row-at : (m : List Float) (n r l : ℕ) → r < n → l < q.groups * lanes → a + n * q.width ≤ length m
      → at (swept_rows s p g xs q a k n m) (a + r * q.width + q.from + l) ≡ swept_at s p g xs q (k + r) (q.from + l)
  unfolding swept_rows swept_row
  row-at m zero r l h b e = absurd (omega arith)
  row-at m (suc n) r l h b e =
      let less : n < suc n = omega arith in
      let o : n * q.width + q.width ≤ suc n * q.width = row_inside q.width less in
      ⊎_elim
      (λ (same : r ≡ n). rw same (fill-inside (swept_rows s p g xs q a k n m) (span_at n) (lanes_of n) (q.groups * lanes) l b (rw (rows-length m n) (omega arith))))
      (λ (before : r < n).
      let i : r * q.width + q.width ≤ n * q.width = row_inside q.width before in
      fill-outside (swept_rows s p g xs q a k n m) (span_at n) (lanes_of n) (q.groups * lanes) (span_at r + l) (inl (omega arith)) ∙ row-at m n r l before b (omega arith))
      (eq-or-lt_of_le (le_of_suc-le-suc h))

  -- what is filled beyond the rows may be filled after them
  pub rows-comm : (m : List Float) (n b : ℕ) (f : ℕ → Float) (c : ℕ) → a + n * q.width ≤ b
      → swept_rows s p g xs q a k n (fill_from m b f c) ≡ fill_from (swept_rows s p g xs q a k n m) b f c
  unfolding swept_rows swept_row
  rows-comm m zero b f c h = refl
  rows-comm m (suc n) b f c h =
      let less : n < suc n = omega arith in
      let o : n * q.width + q.width ≤ suc n * q.width = row_inside q.width less in
      ap (swept_row s p g xs q (a + n * q.width) (k + n)) (rows-comm m n b f c (omega arith))
      ∙ fill-comm (swept_rows s p g xs q a k n m) b f c (span_at n) (lanes_of n) (q.groups * lanes) (omega arith)

-- ---- routes

-- c routes after the first j
pub swept-join : (s p : List ℕ) (g xs : List Float) (first k l : ℕ) (b : Float) (j c : ℕ)
    → swept s p g xs (first + j) k l (swept s p g xs first k l b j) c ≡ swept s p g xs first k l b (j + c)
unfolding swept
swept-join s p g xs first k l b j zero = let e : j ≡ j + 0 = omega arith in ap (swept s p g xs first k l b) e
swept-join s p g xs first k l b j (suc c) =
    let e : first + j + c ≡ first + (j + c) = omega arith in
    let more : suc (j + c) ≡ j + suc c = omega arith in
    ap₂ (λ (i : ℕ) (y : Float). swept_step (at g i) (at xs (place_of s p i k l)) y) e (swept-join s p g xs first k l b j c)
    ∙ ap (swept s p g xs first k l b) more

-- before the last route nothing is held
head-free : (q : Pass) (j : ℕ) (y : Float) → j < q.count → held_by (head_of q j) y ≡ y
head-free q j y h = let e : eqb j q.count ≡ false = ne_eqb j q.count (λ z. omega arith) in rw e

-- all routes
pub head-all : (q : Pass) (n : ℕ) → n ≡ q.count → head_of q n ≡ q
head-all q n h = let e : eqb n q.count ≡ true = eq-eqb n q.count h in rw (e, h)

module _ (s p : List ℕ) (g xs : List Float) (q : Pass) (a k : ℕ) (fits : q.from + q.groups * lanes ≤ q.width) where
  -- the rows of the first i routes cover those of the first j
  pub rows-twice : (i j : ℕ) (m : List Float) (n : ℕ) → swept_rows s p g xs (head_of q i) a k n (swept_rows s p g xs (head_of q j) a k n m) ≡ swept_rows s p g xs (head_of q i) a k n m
  unfolding swept_rows swept_row
  rows-twice i j m zero = refl
  rows-twice i j m (suc n) =
      let old : List Float = swept_rows s p g xs (head_of q j) a k n m in
      let b : ℕ = a + n * q.width in
      let under : ℕ → Float = λ l. swept_at s p g xs (head_of q j) (k + n) (q.from + l) in
      let over : ℕ → Float = λ l. swept_at s p g xs (head_of q i) (k + n) (q.from + l) in
      ap (swept_row s p g xs (head_of q i) b (k + n)) (rows-comm s p g xs (head_of q i) a k fits old n (b + q.from) under (q.groups * lanes) (omega arith))
      ∙ fill-twice (swept_rows s p g xs (head_of q i) a k n old) (b + q.from) under over (q.groups * lanes)
      ∙ ap (swept_row s p g xs (head_of q i) b (k + n)) (rows-twice i j m n)

module _ (s p : List ℕ) (g xs : List Float) (q : Pass) (a k j : ℕ) (fits : q.from + q.groups * lanes ≤ q.width) where
  -- c routes more, where the first j are in the rows
  pub more-is : (c : ℕ) (m : List Float) (len n : ℕ) → j < q.count → n ≤ len → a + len * q.width ≤ length m
      → some_rows true s p g xs (after_of q j c) a k n (swept_rows s p g xs (head_of q j) a k len m) ≡ swept_rows s p g xs (head_of q (j + c)) a k n (swept_rows s p g xs (head_of q j) a k len m)
  unfolding some_rows some_row swept_rows swept_row
  more-is c m len zero b h e = refl
  more-is c m len (suc n) b h e =
      let old : List Float = swept_rows s p g xs (head_of q j) a k len m in
      let now : List Float = swept_rows s p g xs (head_of q (j + c)) a k n old in
      let start : ℕ = a + n * q.width + q.from in
      ap (some_row true s p g xs (after_of q j c) (a + n * q.width) (k + n)) (more-is c m len n b (omega arith) e)
      ∙ fill-same now start
      (λ l. held_by (after_of q j c) (swept s p g xs (q.first + j) (k + n) (q.from + l) (at now (start + l)) c))
      (λ l. swept_at s p g xs (head_of q (j + c)) (k + n) (q.from + l))
      (q.groups * lanes)
      (λ l i.
      ap (λ (y : Float). held_by (after_of q j c) (swept s p g xs (q.first + j) (k + n) (q.from + l) y c))
      (rows-later s p g xs (head_of q (j + c)) a k fits old n (start + l) (omega arith) ∙ row-at s p g xs (head_of q j) a k fits m len n l (omega arith) i e ∙ head-free q j _ b)
      ∙ ap (held_by (after_of q j c)) (swept-join s p g xs q.first (k + n) (q.from + l) q.begun j c))

  -- the first j routes, and c more
  pub some_more : (c : ℕ) (m n r : List Float) (len : ℕ) (t : Pass) → j < q.count → a + len * q.width ≤ length m → n ≡ swept_rows s p g xs (head_of q j) a k len m
      → t ≡ after_of q j c → r ≡ some_rows true s p g xs t a k len n → r ≡ swept_rows s p g xs (head_of q (j + c)) a k len m
  some_more c m n r len t b h e f z =
      let o : len ≤ len = omega arith in
      z
      ∙ ap₂ (λ (y : Pass) (w : List Float). some_rows true s p g xs y a k len w) f e
      ∙ more-is c m len len b o h
      ∙ rows-twice s p g xs q a k fits (j + c) j m len

  -- the same, where no route is in the rows as long as j is 0
  pub next_more : (c : ℕ) (m n r : List Float) (len : ℕ) (t : Pass) → j < q.count → a + len * q.width ≤ length m → (j ≡ 0 → n ≡ m)
      → (0 < j → n ≡ swept_rows s p g xs (head_of q j) a k len m) → t ≡ after_of q j c → r ≡ some_rows (ltb 0 j) s p g xs t a k len n → r ≡ swept_rows s p g xs (head_of q (j + c)) a k len m
  next_more c m n r len t b h e o f z =
      ⊎_elim
      (λ (none : 0 ≡ j).
      let no : ltb 0 j ≡ false = le-ltb 0 j (omega arith) in
      let one : q.first + j ≡ q.first = omega arith in
      let all : j + c ≡ c = omega arith in
      z
      ∙ ap₂ (λ (y : Bool) (w : List Float). some_rows y s p g xs t a k len w) no (e (sym none))
      ∙ rows-anew s p g xs t k a len m
      ∙ ap (λ (y : Pass). swept_rows s p g xs y a k len m) f
      ∙ ap₂ (λ (i : ℕ) (y : ℕ). swept_rows s p g xs (part_of q i y (j + c)) a k len m) one (sym all))
      (λ (some : 0 < j).
      let yes : ltb 0 j ≡ true = lt-ltb 0 j some in
      some_more c m n r len t b h (o some) f (z ∙ ap (λ (y : Bool). some_rows y s p g xs t a k len n) yes))
      (eq-or-lt_of_le zero-le)

  -- the first j routes, and all that are left
  pub all_more : (m n r : List Float) (len : ℕ) (t : Pass) → j < q.count → a + len * q.width ≤ length m → n ≡ swept_rows s p g xs (head_of q j) a k len m
      → t ≡ after_of q j (q.count - j) → r ≡ some_rows true s p g xs t a k len n → r ≡ swept_rows s p g xs q a k len m
  all_more m n r len t b h e f z =
      let whole : j + (q.count - j) ≡ q.count = omega arith in
      some_more (q.count - j) m n r len t b h e f z ∙ ap (λ (y : Pass). swept_rows s p g xs y a k len m) (head-all q (j + (q.count - j)) whole)

-- ---- what is read

-- some of the routes
pub part-within : (s p : List ℕ) (g xs : List Float) (q : Pass) (end first n all : ℕ) → Within s p g xs q end → q.first ≤ first → first + n ≤ q.first + q.count
    → Within s p g xs (part_of q first n all) end
part-within s p g xs q end first n all w h e =
    record {
      starts = w.starts;
      steps = w.steps;
      gains = w.gains;
      routes = omega (arith, w.routes);
      span = w.span;
      width = w.width;
      frames = w.frames;
      number = w.number;
      wide = λ i a b. w.wide i (omega arith) (omega arith);
      inside = λ i a b. w.inside i (omega arith) (omega arith);
    }

-- what the rows of some of the routes require
pub part-needs : (s p : List ℕ) (g xs : List Float) (q : Pass) (end first n all len size : ℕ) (t : Pass) → t ≡ part_of q first n all → Within s p g xs q end → q.first ≤ first
    → first + n ≤ q.first + q.count → len * q.width ≤ size → Within s p g xs t end × (t.count ≡ n) × (len * t.width ≤ size)
part-needs s p g xs q end first n all len size t f w h e b = rw f (part-within s p g xs q end first n all w h e, refl, b)

pub part-asks : (s p : List ℕ) (g xs : List Float) (q : Pass) (end first n all len size : ℕ) (t : Pass) → t ≡ part_of q first n all → Within s p g xs q end → q.first ≤ first
    → first + n ≤ q.first + q.count → len * q.width ≤ size → Within s p g xs t end × (len * t.width ≤ size)
part-asks s p g xs q end first n all len size t f w h e b =
    let r = part-needs s p g xs q end first n all len size t f w h e b in (r.0, r.2)

-- ---- four routes in the lanes of a row

pub four-steps : (xs acc a b c r : List Float) (p : Places) (g : Levels) (l : ℕ) → at a l ≡ swept_step g.a (at xs (p.a + l)) (at acc l) → at b l ≡ swept_step g.b (at xs (p.b + l)) (at a l)
    → at c l ≡ swept_step g.c (at xs (p.c + l)) (at b l) → at r l ≡ swept_step g.d (at xs (p.d + l)) (at c l) → at r l ≡ four_at xs p g l (at acc l)
four-steps xs acc a b c r p g l e f h z =
    z
    ∙ ap (swept_step g.d (at xs (p.d + l)))
    (h ∙ ap (swept_step g.c (at xs (p.c + l))) (f ∙ ap (swept_step g.b (at xs (p.b + l))) e))

module _ (xs : List Float) (p : Places) (g : Levels) where
  further-at : (o l : ℕ) (b : Float) → four_at xs (further_of p o) g l b ≡ four_at xs p g (o + l) b
  further-at o l b =
      let ea : p.a + o + l ≡ p.a + (o + l) = add_assoc p.a o l in
      let eb : p.b + o + l ≡ p.b + (o + l) = add_assoc p.b o l in
      let ec : p.c + o + l ≡ p.c + (o + l) = add_assoc p.c o l in
      let ed : p.d + o + l ≡ p.d + (o + l) = add_assoc p.d o l in
      rw (ea, eb, ec, ed)

  -- the places sixteen lanes further are still inside
  pub further-inside : (i n : ℕ) (t : Places) → t ≡ further_of p (i * lanes) → i < n → UpTo (further_of p (n * lanes)) (length xs) → UpTo (further_of t lanes) (length xs)
  further-inside i n t e h w =
      rw e record { a = omega (arith, w.a); b = omega (arith, w.b); c = omega (arith, w.c); d = omega (arith, w.d) }

module _ (over : Bool) (x : Float) (xs : List Float) (p : Places) (g : Levels) (a : ℕ) where
  -- lane l of the row, over the numbers of m
  abbrev pub four_lane : List Float → ℕ → Float
  four_lane m l = four_at xs p g l (start_at over x m (a + l))

  -- sixteen lanes
  pub four-group-done : (m r old acc : List Float) → ((l : ℕ) → l < lanes → at old l ≡ start_at over x m (a + l))
      → ((l : ℕ) → l < lanes → at acc l ≡ four_at xs p g l (at old l)) → r ≡ fill_from m a (at acc) lanes → r ≡ fill_from m a (four_lane m) lanes
  four-group-done m r old acc e f z =
      z ∙ fill-same m a (at acc) (four_lane m) lanes (λ l b. f l b ∙ ap (four_at xs p g l) (e l b))

  pub fours-none : (m : List Float) → m ≡ fill_from m a (four_lane m) (0 * lanes)
  unfolding fill_from
  fours-none m = refl

  -- sixteen lanes more
  pub fours-more : (m n r : List Float) (i : ℕ) (t : Places) → n ≡ fill_from m a (four_lane m) (i * lanes) → t ≡ further_of p (i * lanes)
      → r ≡ fill_from n (a + i * lanes) (λ l. four_at xs t g l (start_at over x n (a + i * lanes + l))) lanes → r ≡ fill_from m a (four_lane m) ((i + 1) * lanes)
  fours-more m n r i t e h z =
      let o : ℕ = i * lanes in
      let all : o + lanes ≡ (i + 1) * lanes = omega arith in
      z
      ∙ ap (λ (y : Places). fill_from n (a + o) (λ l. four_at xs y g l (start_at over x n (a + o + l))) lanes) h
      ∙ fill-same n (a + o) (λ l. four_at xs (further_of p o) g l (start_at over x n (a + o + l))) (λ l. four_lane m (o + l)) lanes
      (λ l c.
      let old : at n (a + o + l) ≡ at m (a + (o + l)) =
      ap (λ (y : List Float). at y (a + o + l)) e ∙ fill-outside m a (four_lane m) o (a + o + l) (inr (omega arith)) ∙ ap (at m) (add_assoc a o l) in
      further-at xs p g o l (start_at over x n (a + o + l)) ∙ ap (λ (y : Float). four_at xs p g (o + l) (cond over y x)) old)
      ∙ ap (λ (y : List Float). fill_from y (a + o) (λ l. four_lane m (o + l)) lanes) e
      ∙ fill-append m a (four_lane m) o lanes
      ∙ ap (fill_from m a (four_lane m)) all

  pub fours-end : (m n : List Float) (i c : ℕ) → n ≡ fill_from m a (four_lane m) (i * lanes) → i ≡ c → n ≡ fill_from m a (four_lane m) (c * lanes)
  fours-end m n i c e h = e ∙ ap (λ (z : ℕ). fill_from m a (four_lane m) (z * lanes)) h

-- ---- four routes in rows

-- what lies before a place that is inside
pub up_to : (p : Places) (n k m : ℕ) → UpTo (further_of p n) k → k ≤ m → UpTo p m
up_to p n k m w h = record { a = omega (arith, w.a); b = omega (arith, w.b); c = omega (arith, w.c); d = omega (arith, w.d) }

pub places_same : (s t u v : Places) (k l : ℕ) (r : Places) → r ≡ places_at s t k l → s ≡ u → t ≡ v → r ≡ places_at u v k l
places_same s t u v k l r e f h = e ∙ ap₂ (λ (y z : Places). places_at y z k l) f h

module _ (s p : List ℕ) (g xs : List Float) (q : Pass) (k : ℕ) where
  -- route i added in lane l of the span
  abbrev on_route : ℕ → ℕ → Float → Float
  on_route l i b = swept_step (at g i) (at xs (place_of s p i k (q.from + l))) b

  step-at : (i l : ℕ) (b : Float) → swept_step (at g i) (at xs (place_of s p i k q.from + l)) b ≡ on_route l i b
  step-at i l b =
      let e : place_of s p i k q.from + l ≡ place_of s p i k (q.from + l) = omega arith in
      ap (λ (z : ℕ). swept_step (at g i) (at xs z) b) e

  four_is : (l : ℕ) (b : Float) → four_at xs (places_at (four_of s q.first) (four_of p q.first) k q.from) (levels_of g q.first) l b ≡ swept s p g xs q.first k (q.from + l) b 4
  unfolding swept
  four_is l b =
      let i : ℕ = q.first in
      let none : i ≡ i + 0 = omega arith in
      step-at (i + 3) l _
      ∙ ap (on_route l (i + 3)) (step-at (i + 2) l _ ∙ ap (on_route l (i + 2)) (step-at (i + 1) l _ ∙ ap (on_route l (i + 1)) (step-at i l b ∙ ap (λ (z : ℕ). on_route l z b) none)))

  -- the lanes of the span of four routes' rows lie in the samples
  route-inside : (i : ℕ) → Within s p g xs q (k + 1) → q.first ≤ i → i < q.first + q.count → place_of s p i k q.from + q.groups * lanes ≤ length xs
  route-inside i w a b = omega (arith, w.inside i a b, w.wide i a b, w.span, add-mul k 1 (get_or p i 0))

  pub places-inside : (t : Places) → Within s p g xs q (k + 1) → q.count ≡ 4 → t ≡ places_at (four_of s q.first) (four_of p q.first) k q.from → UpTo (further_of t (q.groups * lanes)) (length xs)
  places-inside t w four e =
      let i : ℕ = q.first in
      rw e record {
        a = route-inside i w (omega arith) (omega arith);
        b = route-inside (i + 1) w (omega arith) (omega arith);
        c = route-inside (i + 2) w (omega arith) (omega arith);
        d = route-inside (i + 3) w (omega arith) (omega arith);
      }

  free : (y : Float) → q.bound ≡ false → y ≡ held_by q y
  free y e = rw e

  pub four-row-is : (over : Bool) (m r : List Float) (a c : ℕ) (t : Places) (v : Levels) → q.count ≡ 4 → q.bound ≡ false → c ≡ a + q.from
      → t ≡ places_at (four_of s q.first) (four_of p q.first) k q.from → v ≡ levels_of g q.first
      → r ≡ fill_from m c (four_lane over q.begun xs t v c m) (q.groups * lanes) → r ≡ some_row over s p g xs q a k m
  unfolding some_row
  four-row-is over m r a c t v four unheld e h f z =
      z
      ∙ ap (λ (y : ℕ). fill_from m y (four_lane over q.begun xs t v y m) (q.groups * lanes)) e
      ∙ ap₂ (λ (y : Places) (w : Levels). fill_from m (a + q.from) (four_lane over q.begun xs y w (a + q.from) m) (q.groups * lanes)) h f
      ∙ fill-same m (a + q.from) _ (λ l. held_by q (swept s p g xs q.first k (q.from + l) (start_at over q.begun m (a + q.from + l)) q.count)) (q.groups * lanes)
      (λ l b.
      let old : Float = start_at over q.begun m (a + q.from + l) in
      four_is l old ∙ ap (swept s p g xs q.first k (q.from + l) old) (sym four) ∙ free _ unheld)

-- ---- whether it is the last

pub last-is : (n c : ℕ) (b r : Bool) → n ≡ c → r ≡ b → r ≡ cond (eqb n c) b false
last-is n c b r h e = let t : eqb n c ≡ true = eq-eqb n c h in rw t e

pub last-not : (n c : ℕ) (b r : Bool) → (n ≡ c → ⊥) → r ≡ false → r ≡ cond (eqb n c) b false
last-not n c b r h e = let t : eqb n c ≡ false = ne_eqb n c h in rw t e

-- before the last, nothing is held
pub after_open : (q : Pass) (j n : ℕ) (t : Pass) → t ≡ after_of q j n → j + n < q.count → t.bound ≡ false
after_open q j n t e h = let no : eqb (j + n) q.count ≡ false = ne_eqb (j + n) q.count (λ z. omega arith) in rw (e, no)
