-- Laws of tables that proofs cite in place of the definitions' text.
use mathlib.Core.Path.{◌≡◌, refl, ap, ◌∙◌}
use mathlib.Core.Bool.{Bool, true, false, ◌&&◌}
use mathlib.Core.List.Memᴰ
use mathlib.Core.List.{List, [], ◌∷◌}
use Prim.Native.Nat.{ℕ, zero, suc, ◌+◌, ◌≤◌, ◌<◌}
use native.Mathlib.Omega.{arith}
use lib.ListN.{length, get_or}
use lib.Ieee.{Float, nan, lt, add, sub, mul, of_int, to_unsigned}
use borrow.Author.Tests.{not-false, eqb-true}
use Rattle.std.specs.List.{list_all}
use Rattle.list.proofs.Bools.{and-true-l, and_true_r}
use Rattle.refusal.proofs.Laws.{judged-accepted}
use Rattle.number.specs.Number.{zero32, one32, clamp_to, finite}
use Rattle.number.proofs.Laws.{plus-nan, times-nan}
use Rattle.curve_table.specs.Table.{last_cell, position, cell_at, cell_of, part_of, lookup_of, allowed, all_allowed, table_rows, table_code, from_index, tabulated, points}

-- ---- the lookup

-- the point after a cell's is in the table
pub cell-at-most : (p : Float) → cell_at p ≤ last_cell
cell-at-most p = omega arith

pub cell-most : (x : Float) → cell_of x ≤ last_cell
unfolding cell_of
cell-most x = cell-at-most (position x)

-- below 0: the start of the first cell
pub cell_below : (x : Float) → lt x zero32 ≡ true → cell_of x ≡ 0
unfolding cell_of position clamp_to mul to_unsigned
cell_below x h = simp h

pub part-below : (x : Float) → lt x zero32 ≡ true → part_of x ≡ zero32
unfolding part_of cell_of position clamp_to mul to_unsigned sub add of_int
part-below x h = simp h

-- above 1: the end of the last cell
pub cell-above : (x : Float) → lt x zero32 ≡ false → lt one32 x ≡ true → cell_of x ≡ last_cell
unfolding cell_of position clamp_to mul to_unsigned
cell-above x l h = simp (l, h)

pub part-above : (x : Float) → lt x zero32 ≡ false → lt one32 x ≡ true → part_of x ≡ one32
unfolding part_of cell_of position clamp_to mul to_unsigned sub add of_int
part-above x l h = simp (l, h)

-- a NaN: the first cell, and a NaN as the part
pub cell-nan : cell_of nan ≡ 0
unfolding cell_of position clamp_to lt mul to_unsigned
cell-nan = refl

pub part-nan : part_of nan ≡ nan
unfolding part_of position clamp_to lt mul sub add
part-nan = refl

-- the table at a NaN is a NaN, whatever it holds
pub lookup-nan : (t : List Float) → lookup_of t nan ≡ nan
unfolding lookup_of
lookup-nan t = rw part-nan (rw times-nan (plus-nan _))

-- a lookup reads two neighbouring numbers only
pub lookup-reads-two : (t v : List Float) (x : Float) → get_or t (cell_of x) nan ≡ get_or v (cell_of x) nan → get_or t (cell_of x + 1) nan ≡ get_or v (cell_of x + 1) nan → lookup_of t x ≡ lookup_of v x
unfolding lookup_of
lookup-reads-two t v x a b = rw (a, b)

-- ---- what a table may hold

-- the library's test of each number
pub allowed-all : (t : List Float) → list_all allowed t ≡ all_allowed t
unfolding all_allowed
allowed-all [] = refl
allowed-all (x ∷ t) = ap (λ (r : Bool). allowed x && r) (allowed-all t)

-- each number that is allowed is finite
pub allowed-finite : (x : Float) → allowed x ≡ true → finite x ≡ true
unfolding allowed
allowed-finite x h = and-true-l _ _ h

-- where all are allowed, each is
pub allowed_at : (t : List Float) (i : ℕ) → i < length t → all_allowed t ≡ true → allowed (get_or t i nan) ≡ true
unfolding all_allowed
allowed_at [] i h a = absurd (omega arith)
allowed_at (x ∷ t) zero h a = and-true-l _ _ a
allowed_at (x ∷ t) (suc i) h a = allowed_at t i (omega arith) (and_true_r (allowed x) (all_allowed t) a)

-- a table that is accepted has 513 numbers, each of them allowed
pub accepted-length : (t : List Float) → table_code t ≡ 0 → length t ≡ points
unfolding table_code
accepted-length t h = eqb-true _ _ (not-false _ (judged-accepted (table_rows t) tt h _ (Memᴰ.tail (Memᴰ.head refl))))

pub accepted-allowed : (t : List Float) → table_code t ≡ 0 → all_allowed t ≡ true
unfolding table_code
accepted-allowed t h = not-false _ (judged-accepted (table_rows t) tt h _ (Memᴰ.head refl))

-- ---- tables by the index

pub length-from_index : (f : ℕ → Float) (i n : ℕ) → length (from_index f i n) ≡ n
length-from_index f i zero = refl
length-from_index f i (suc n) = ap suc (length-from_index f (suc i) n)

pub from_index-at : (f : ℕ → Float) (i n k : ℕ) → k < n → get_or (from_index f i n) k nan ≡ f (i + k)
from_index-at f i zero k h = absurd (omega arith)
from_index-at f i (suc n) zero h = ap f (omega arith)
from_index-at f i (suc n) (suc k) h = from_index-at f (suc i) n k (omega arith) ∙ ap f (omega arith)

pub length-tabulated : (f : ℕ → Float) → length (tabulated f) ≡ points
length-tabulated f = length-from_index f 0 points

pub tabulated-at : (f : ℕ → Float) (k : ℕ) → k < points → get_or (tabulated f) k nan ≡ f k
tabulated-at f k h = from_index-at f 0 points k h ∙ ap f (omega arith)
