-- The rows of a chunk, over the parts of a state and plan by plan. Assumes nothing.
use mathlib.Core.Path.{◌≡◌, refl, sym, ◌∙◌}
use mathlib.Core.List.{List}
use Prim.Native.Nat.{ℕ, zero, suc, ◌+◌, ◌*◌, ◌≤◌, ◌<◌}
use native.Mathlib.Nat.{mul-add, add-mul, mul_comm, mul_left_comm, mul-le-mul_left, mul-le-mul_right}
use native.Mathlib.Numerals.{add-one}
use native.Mathlib.Omega.{arith}
use lib.ListN.{length, get_or}
use lib.Ieee.{Float, nan}
use Rattle.state.specs.declared.Plan.{Plan}
use Rattle.state.specs.declared.State.{State}
use Rattle.state_filled.specs.Filled.{no_plan}
use Rattle.list.specs.Part.{part, on_part}
use Rattle.list.proofs.Elements.{get_or-inside}
use Rattle.list.proofs.Parts.{part_length, part_at}
use Rattle.list.proofs.FilledPart.{FilledPart, filled-part-none, filled-part-more, filled-part-is}
use Rattle.list.proofs.Rows.{row_inside}
use Rattle.model.specs.Counts.{stride_of, chunks_most, plan_at}
use Rattle.model.specs.Need.{values_rows}
use Rattle.model.specs.Layout.{plan_width, plan_size, plan_from}
use Rattle.model.specs.Tick.{fill_from, lanes_from}
use Rattle.model.specs.Process.{rows_of_chunk}
use Rattle.block_opening.specs.Rows.{chunk_row, chunk_rows}

pub rows-of-state : (st : State) (i n : ℕ) (m : List Float) → chunk_rows st.program.plan (stride_of st) (chunks_most st) i n m ≡ rows_of_chunk st i n m
unfolding chunk_rows chunk_row rows_of_chunk plan_at
rows-of-state st i zero m = refl
rows-of-state st i (suc n) m = rw (rows-of-state st i n m)

-- ---- numbers copied

-- filled from a place on: a part replaced
filled-from : (m : List Float) (a n : ℕ) (g : ℕ → Float) (i : ℕ) → i ≤ n → a + n ≤ length m → FilledPart m a (a + n) g i (fill_from m a g i)
unfolding fill_from
filled-from m a n g zero h t = filled-part-none m a (a + n) g (omega arith) t
filled-from m a n g (suc i) h t = rw (← add-one i) (filled-part-more (filled-from m a n g i (omega arith) t) (omega arith) refl)

pub copied : (m : List Float) (from to n : ℕ) → from + n ≤ length m → to + n ≤ length m
    → on_part m to (to + n) (part m from (from + n)) ≡ fill_from m to (lanes_from m from) n
copied m from to n h t =
    let l = part_length m from (from + n) h in
    sym (filled-part-is (filled-from m to n (lanes_from m from) n (omega arith) t) (omega arith) (part m from (from + n)) (omega arith) (λ k d b.
    get_or-inside m (from + k) nan d (omega arith) ∙ sym (part_at m from (from + n) k d (omega arith))))

-- ---- places

-- rows of width w, in room for n rows of a width at least as large
narrow : (w s : ℕ) {i n : ℕ} → w ≤ s → i < n → i * w + w ≤ n * s
narrow w s {i} {n} h b = omega (arith, row_inside w b, mul-le-mul_left n h)

plan-rows : (s c : ℕ) → plan_size s c ≡ 2 * s + (c * s + c * s) + 4 * s
plan-rows s c = omega (arith, mul-add s (2 * c) 6, mul_left_comm s 2 c, mul_comm s c)

module _ (s c w i : ℕ) (h : w ≤ s) (b : i < c) (start n : ℕ) (t : start + plan_size s c ≤ n) where
  pub from-inside : start + (2 * s + i * w) + w ≤ n
  from-inside = omega (arith, plan-rows s c, narrow w s h b)

  pub to_inside : start + ((2 + c) * s + i * w) + w ≤ n
  to_inside = omega (arith, plan-rows s c, add-mul 2 c s, narrow w s h b)

  pub rows_inside : start + s + s ≤ n
  rows_inside = omega (arith, plan-rows s c)

  pub to-after : start + s + w ≤ start + ((2 + c) * s + i * w)
  to-after = omega (arith, add-mul 2 c s)

-- ---- the turn of a plan

pub row-steps : (s c w i d : ℕ) (m next last : List Float) (start from to : ℕ) → w ≤ s → i < c → d * plan_size s c + plan_size s c ≤ length m
    → start ≡ plan_from s c d → from ≡ start + (2 * s + i * w) → to ≡ start + ((2 + c) * s + i * w) → length next ≡ length m
    → next ≡ on_part m from (from + w) (part m start (start + w))
    → last ≡ on_part next to (to + w) (part next (start + s) (start + s + w)) → last ≡ chunk_row s c w i d m
unfolding chunk_row
row-steps s c w i d m next last start from to h b t e f g l u v =
    let t' : start + plan_size s c ≤ length m = omega arith in
    let fi = from-inside s c w i h b start (length m) t' in
    let ti = to_inside s c w i h b start (length m) t' in
    let ri = rows_inside s c w i h b start (length m) t' in
    let one : next ≡ fill_from m from (lanes_from m start) w = u ∙ copied m start from w (omega arith) (omega arith) in
    let two : last ≡ fill_from next to (lanes_from next (start + s)) w = v ∙ copied next (start + s) to w (omega arith) (omega arith) in
    two ∙ rw (one, f, g, e)

pub rows_none : (plan : List Plan) (s c i : ℕ) (m : List Float) → chunk_rows plan s c i 0 m ≡ m
unfolding chunk_rows
rows_none plan s c i m = refl

pub rows_more : (plan : List Plan) (s c i : ℕ) (m out next : List Float) (d w : ℕ) (z : Plan) → d < length plan → out ≡ chunk_rows plan s c i d m
    → w ≡ plan_width s (get_or plan d z).voice → next ≡ chunk_row s c w i d out → next ≡ chunk_rows plan s c i (d + 1) m
unfolding chunk_rows
rows_more plan s c i m out next d w z b e f g = g ∙ rw (add-one, f, e, get_or-inside plan d z no_plan)

-- what the first plans take lies in what a program takes
pub plans-fit : (s c p r k n : ℕ) → k ≤ p → s * values_rows c p r ≤ n → k * plan_size s c ≤ n
plans-fit s c p r k n h t =
    let x = 2 * c + 6 in
    omega (arith, mul-add s (p * x) (8 * r), mul_left_comm s p x, mul-le-mul_right (s * x) h)
