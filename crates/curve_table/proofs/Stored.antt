-- A loop that fills a table with what a function of the index gives. Assumes nothing.
use mathlib.Core.Path.{◌≡◌, sym, ◌∙◌}
use mathlib.Core.List.{List}
use Prim.Native.Nat.{ℕ, ◌+◌, ◌<◌}
use native.Mathlib.Omega.{arith}
use lib.ListN.{length, get_or, set}
use lib.Seq.{get_or-set_same, get_or-set_other, ext_get_or}
use lib.Ieee.{Float, nan}
use borrow.Author.Count.{below_more}
use Rattle.curve_table.specs.Table.{points, tabulated}
use Rattle.curve_table.proofs.Laws.{length-tabulated, tabulated-at}

-- a store at i of what the function gives there
pub stored : (f : ℕ → Float) (l : List Float) (i : ℕ) → i < length l → ((k : ℕ) → k < i → get_or l k nan ≡ f k)
    → (k : ℕ) → k < i + 1 → get_or (set l i (f i)) k nan ≡ f k
stored f l i b h =
    below_more _ _
    (λ k below. get_or-set_other l i k (f i) nan (λ e. omega arith) ∙ h k below)
    (get_or-set_same l i (f i) nan b)

-- at its end the table is that of the function
pub all-stored : (f : ℕ → Float) (l : List Float) → length l ≡ points → ((k : ℕ) → k < points → get_or l k nan ≡ f k) → l ≡ tabulated f
all-stored f l n h =
    ext_get_or nan l (tabulated f) (n ∙ sym (length-tabulated f)) (λ k b. h k (omega arith) ∙ sym (tabulated-at f k (omega arith)))
