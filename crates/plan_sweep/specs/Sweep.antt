-- Plain routes added over the rows of a chunk: each route's numbers stand in the samples, a row a frame. Definitions only.
use Rattle.std.specs.Prelude.{◌≡◌, Bool, false, cond, List, ℕ, zero, suc, ◌+◌, ◌*◌, ◌≤◌, ◌<◌, eqb, length, get_or, Float}
use Rattle.std.specs.Float.Ieee.{is_nan}
use Rattle.config.specs.Sizes.{slots, most_voices, most_frames, lanes}
use Rattle.number.specs.Number.{plus, times, hold}
use Rattle.model.specs.Counts.{at}
use Rattle.model.specs.RouteValue.{is_zero}
use Rattle.model.specs.Tick.{fill_from}
use Rattle.plan_sweep.specs.declared.Levels.{Levels}
use Rattle.plan_sweep.specs.declared.Pass.{Pass}
use Rattle.plan_sweep.specs.declared.Places.{Places}

-- a with the product, where the gain is not 0
abbrev pub swept_step : Float → Float → Float → Float
swept_step g raw a = cond (is_zero g) a (plus a (times raw g))

-- where the number of route i stands at frame k in lane l: it starts at s, and moves by p a frame
abbrev pub place_of : List ℕ → List ℕ → ℕ → ℕ → ℕ → ℕ
place_of s p i k l = get_or s i 0 + (k * get_or p i 0 + l)

-- b with the first n routes from `first` on, of gains g, at frame k in lane l; xs: the samples
unfoldable pub swept : List ℕ → List ℕ → List Float → List Float → ℕ → ℕ → ℕ → Float → ℕ → Float
swept s p g xs first k l b zero = b
swept s p g xs first k l b (suc n) =
    swept_step (at g (first + n)) (at xs (place_of s p (first + n) k l)) (swept s p g xs first k l b n)

-- held to the bounds, where they hold anything
abbrev pub held_by : Pass → Float → Float
held_by q y = cond q.bound (hold q.min q.max y) y

-- the number at frame k in lane l
abbrev pub swept_at : List ℕ → List ℕ → List Float → List Float → Pass → ℕ → ℕ → Float
swept_at s p g xs q k l = held_by q (swept s p g xs q.first k l q.begun q.count)

-- what the routes are added to at place i: what stands there, or x
abbrev pub start_at : Bool → Float → List Float → ℕ → Float
start_at over x m i = cond over (at m i) x

-- the lanes of the span in the row of frame k, which starts at a
unfoldable pub swept_row : List ℕ → List ℕ → List Float → List Float → Pass → ℕ → ℕ → List Float → List Float
unfolding swept fill_from
swept_row s p g xs q a k m = fill_from m (a + q.from) (λ l. swept_at s p g xs q k (q.from + l)) (q.groups * lanes)

-- the first n rows, of which the first is frame k's and starts at a
unfoldable pub swept_rows : List ℕ → List ℕ → List Float → List Float → Pass → ℕ → ℕ → ℕ → List Float → List Float
unfolding swept_row
swept_rows s p g xs q a k zero m = m
swept_rows s p g xs q a k (suc n) m = swept_row s p g xs q (a + n * q.width) (k + n) (swept_rows s p g xs q a k n m)

-- each row up to frame `end` that is read lies in the samples, the lanes of the span lie in a row, and the lower bound is no NaN
pub record Within (s p : List ℕ) (g xs : List Float) (q : Pass) (end : ℕ) : Type 0 where
  pub starts : length s ≡ slots
  pub steps : length p ≡ slots
  pub gains : length g ≡ slots
  pub routes : q.first + q.count ≤ slots
  pub span : q.from + q.groups * lanes ≤ q.width
  pub width : q.width ≤ most_voices
  pub frames : end ≤ most_frames
  pub number : is_nan q.min ≡ false
  pub wide : (i : ℕ) → q.first ≤ i → i < q.first + q.count → q.width ≤ get_or p i 0
  pub inside : (i : ℕ) → q.first ≤ i → i < q.first + q.count → get_or s i 0 + end * get_or p i 0 ≤ length xs

-- ---- four routes

-- n of the routes of q from `first` on; held where they are the last ones, of which there are `end` in all
abbrev pub part_of : Pass → ℕ → ℕ → ℕ → Pass
part_of q first n end =
    record {
      begun = q.begun;
      bound = cond (eqb end q.count) q.bound false;
      min = q.min;
      max = q.max;
      first = first;
      count = n;
      from = q.from;
      groups = q.groups;
      width = q.width;
    }

-- the first n routes
abbrev pub head_of : Pass → ℕ → Pass
head_of q n = part_of q q.first n n

-- n routes after the first j
abbrev pub after_of : Pass → ℕ → ℕ → Pass
after_of q j n = part_of q (q.first + j) n (j + n)

-- four numbers from i on
abbrev pub four_of : List ℕ → ℕ → Places
four_of s i = record { a = get_or s i 0; b = get_or s (i + 1) 0; c = get_or s (i + 2) 0; d = get_or s (i + 3) 0 }

abbrev pub levels_of : List Float → ℕ → Levels
levels_of g i = record { a = at g i; b = at g (i + 1); c = at g (i + 2); d = at g (i + 3) }

-- n further
abbrev pub further_of : Places → ℕ → Places
further_of p n = record { a = p.a + n; b = p.b + n; c = p.c + n; d = p.d + n }

-- where the numbers stand at frame k in lane l that start at s and move by t a frame
abbrev pub places_at : Places → Places → ℕ → ℕ → Places
places_at s t k l = record { a = s.a + (k * t.a + l); b = s.b + (k * t.b + l); c = s.c + (k * t.c + l); d = s.d + (k * t.d + l) }

-- each place is at most n
pub record UpTo (p : Places) (n : ℕ) : Type 0 where
  pub a : p.a ≤ n
  pub b : p.b ≤ n
  pub c : p.c ≤ n
  pub d : p.d ≤ n

-- b with the four routes, of which the numbers stand l after p, and the gains are g
abbrev pub four_at : List Float → Places → Levels → ℕ → Float → Float
four_at xs p g l b =
    swept_step g.d (at xs (p.d + l))
    (swept_step g.c (at xs (p.c + l)) (swept_step g.b (at xs (p.b + l)) (swept_step g.a (at xs (p.a + l)) b)))

-- the lanes of the span in the row of frame k, which starts at a; where `over`, the routes are added to what stands there
unfoldable pub some_row : Bool → List ℕ → List ℕ → List Float → List Float → Pass → ℕ → ℕ → List Float → List Float
unfolding swept fill_from
some_row over s p g xs q a k m =
    fill_from m (a + q.from) (λ l. held_by q (swept s p g xs q.first k (q.from + l) (start_at over q.begun m (a + q.from + l)) q.count)) (q.groups * lanes)

-- the first n rows, of which the first is frame k's and starts at a
unfoldable pub some_rows : Bool → List ℕ → List ℕ → List Float → List Float → Pass → ℕ → ℕ → ℕ → List Float → List Float
unfolding some_row
some_rows over s p g xs q a k zero m = m
some_rows over s p g xs q a k (suc n) m = some_row over s p g xs q (a + n * q.width) (k + n) (some_rows over s p g xs q a k n m)
