-- Writes to places that lie apart commute: a plan's rows, and the slews of routes, which lie behind all plans. Assumes nothing.
use mathlib.Core.Path.{◌≡◌, refl, sym, ap, ◌∙◌}
use mathlib.Core.Bool.{Bool, true, false}
use mathlib.Core.List.{List}
use Prim.Native.Nat.{ℕ, zero, suc, ◌+◌, ◌*◌, ◌≤◌, ◌<◌}
use native.Mathlib.Nat.{mul-add}
use native.Mathlib.Omega.{arith}
use lib.ListN.{set}
use lib.Seq.{set_comm}
use lib.Ieee.{Float}
use Rattle.list.proofs.Rows.{row_inside}
use Rattle.state.specs.declared.State.{State}
use Rattle.model.specs.Counts.{stride_of, chunks_most, plan_total, plan_at}
use Rattle.model.specs.Env.{Own}
use Rattle.model.specs.Layout.{plan_width, plan_size, plan_from, plan_to}
use Rattle.model.specs.Tick.{fill_from, own_start, put_slews}

-- ---- writes

-- one number behind a row
set-behind : (m : List Float) (a : ℕ) (g : ℕ → Float) (n j : ℕ) (v : Float) → a + n ≤ j → set (fill_from m a g n) j v ≡ fill_from (set m j v) a g n
unfolding fill_from
set-behind m a g zero j v h = refl
set-behind m a g (suc n) j v h =
    set_comm (fill_from m a g n) (a + n) j (g n) v (λ e. omega arith)
    ∙ ap (λ (y : List Float). set y (a + n) (g n)) (set-behind m a g n j v (omega arith))

-- a row behind a row
pub rows-swap : (m : List Float) (a : ℕ) (g : ℕ → Float) (n b : ℕ) (h : ℕ → Float) (k : ℕ) → a + n ≤ b
    → fill_from (fill_from m a g n) b h k ≡ fill_from (fill_from m b h k) a g n
unfolding fill_from
rows-swap m a g n b h zero e = refl
rows-swap m a g n b h (suc k) e =
    ap (λ (y : List Float). set y (b + k) (h k)) (rows-swap m a g n b h k e)
    ∙ set-behind (fill_from m b h k) a g n (b + k) (h k) (omega arith)

-- the slews behind a row that ends with the plans
pub slews-swap : (st : State) (d : ℕ) (s : Own) (k : ℕ) (m : List Float) (a : ℕ) (g : ℕ → Float) (n : ℕ) → a + n ≤ plan_total st.program * plan_size (stride_of st) (chunks_most st)
    → fill_from (put_slews st d s k m) a g n ≡ put_slews st d s k (fill_from m a g n)
unfolding put_slews
slews-swap st d s zero m a g n e = refl
slews-swap st d s (suc k) m a g n e = behind ((plan_at st d).first + k) (slews-swap st d s k m a g n e)
  where
    behind : (r : ℕ) → fill_from (put_slews st d s k m) a g n ≡ put_slews st d s k (fill_from m a g n)
        → fill_from (fill_from (fill_from (put_slews st d s k m) (own_start st r 0) (s k 0) (stride_of st)) (own_start st r 1) (s k 1) (stride_of st)) a g n
        ≡ fill_from (fill_from (put_slews st d s k (fill_from m a g n)) (own_start st r 0) (s k 0) (stride_of st)) (own_start st r 1) (s k 1) (stride_of st)
    behind r same =
        let w = stride_of st in
        let p = put_slews st d s k m in
        let before : a + n ≤ own_start st r 0 = omega arith in
        let before₁ : a + n ≤ own_start st r 1 = omega arith in
        sym (rows-swap (fill_from p (own_start st r 0) (s k 0) w) a g n (own_start st r 1) (s k 1) w before₁)
        ∙ ap (λ (y : List Float). fill_from y (own_start st r 1) (s k 1) w)
        (sym (rows-swap p a g n (own_start st r 0) (s k 0) w before) ∙ ap (λ (y : List Float). fill_from y (own_start st r 0) (s k 0) w) same)

-- ---- places

-- a row of a plan is as wide as the stride at most
pub width-most : (s : ℕ) (v : Bool) → 1 ≤ s → plan_width s v ≤ s
width-most s true h = omega arith
width-most s false h = h

plan-block : (s c : ℕ) → 2 * s ≤ plan_size s c
plan-block s c = omega (arith, mul-add s (2 * c) 6)

-- both rows of a plan end with the plans
pub from-ends : (s c : ℕ) {d n w : ℕ} → d < n → w ≤ s → plan_from s c d + w ≤ n * plan_size s c
from-ends s c h b = omega (arith, row_inside (plan_size s c) h, plan-block s c)

pub to-ends : (s c : ℕ) {d n w : ℕ} → d < n → w ≤ s → plan_to s c d + w ≤ n * plan_size s c
to-ends s c h b = omega (arith, row_inside (plan_size s c) h, plan-block s c)
