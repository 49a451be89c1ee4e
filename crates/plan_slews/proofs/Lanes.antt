-- Rows that are made lane by lane, and put lane by lane. Assumes nothing.
use mathlib.Core.Path.{◌≡◌, refl, sym, ap, ◌∙◌}
use mathlib.Core.Logic.{⊎_elim}
use mathlib.Core.List.{List}
use Prim.Native.Nat.{ℕ, ◌+◌, ◌-◌, ◌≤◌, ◌<◌}
use native.Mathlib.Nat.{eq-or-lt_of_le, le_of_suc-le-suc, zero-add}
use native.Mathlib.Numerals.{add-one}
use native.Mathlib.Omega.{arith}
use lib.ListN.{length, set}
use lib.Seq.{get_or-set_same, get_or-set_other, set_out}
use lib.Ieee.{Float, nan}
use Rattle.model.specs.Counts.{at}
use Rattle.model.specs.Tick.{fill_from, lanes_from}
use Rattle.model.proofs.FillFrom.{fill-same, fill-inside}
use Rattle.plan_slews.specs.Rows.{IsRow}

-- ---- made

-- one lane more
pub row_more : (g : ℕ → Float) (r : List Float) (n : ℕ) (v : Float) → n < length r → IsRow n g r → v ≡ g n → IsRow (n + 1) g (set r n v)
row_more g r n v b e h l k =
    ⊎_elim
    (λ (p : l ≡ n). rw p (get_or-set_same r n v nan b ∙ h))
    (λ (p : l < n). get_or-set_other r n l v nan (λ q. omega arith) ∙ e l p)
    (eq-or-lt_of_le (le_of_suc-le-suc (omega arith)))

-- fewer lanes
pub row-fewer : (g : ℕ → Float) (r : List Float) {n m : ℕ} → m ≤ n → IsRow n g r → IsRow m g r
row-fewer g r h e l k = e l (omega arith)

-- ---- put

-- past the end nothing is written
pub put-start : (m : List Float) (a l : ℕ) (v : Float) → length m ≤ a → m ≡ set m (a + l) v
put-start m a l v h = sym (set_out m (a + l) v (omega arith))

pub put_rest : (m : List Float) (a l : ℕ) (v : Float) → length m - a ≤ l → m ≡ set m (a + l) v
put_rest m a l v h = sym (set_out m (a + l) v (omega arith))

pub fill_none : (m : List Float) (a : ℕ) (g : ℕ → Float) → m ≡ fill_from m a g 0
unfolding fill_from
fill_none m a g = refl

pub fill_more : (m : List Float) (a : ℕ) (g : ℕ → Float) (l : ℕ) (v : Float) (n r : List Float) → n ≡ fill_from m a g l → v ≡ g l → r ≡ set n (a + l) v → r ≡ fill_from m a g (l + 1)
unfolding fill_from
fill_more m a g l v n r e h q = rw (add-one, ← e, ← h) q

pub fill_end : (m : List Float) (a : ℕ) (g : ℕ → Float) (l k : ℕ) (n : List Float) → n ≡ fill_from m a g l → l ≡ k → n ≡ fill_from m a g k
fill_end m a g l k n e h = e ∙ ap (fill_from m a g) h

-- from the first lane of a row on
pub fill-row : (m : List Float) (a : ℕ) (row : List Float) (n : ℕ) {r : List Float} → r ≡ fill_from m a (lanes_from row 0) n → r ≡ fill_from m a (at row) n
fill-row m a row n e = e ∙ fill-same m a (lanes_from row 0) (at row) n (λ l h. ap (at row) (zero-add l))

-- a row that is put from the first number on
pub row_put : (m o : List Float) (g : ℕ → Float) (n : ℕ) → o ≡ fill_from m 0 g n → n ≤ length m → IsRow n g o
row_put m o g n e b l h = ap (λ (y : List Float). at y l) e ∙ ap (at (fill_from m 0 g n)) (sym (zero-add l)) ∙ fill-inside m 0 g n l h (omega arith)
