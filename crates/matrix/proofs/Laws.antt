-- Laws that proofs cite in place of the definitions' text. Assumes nothing.
use mathlib.Core.Path.{◌≡◌, refl, sym, ap, ◌∙◌}
use mathlib.Core.Bool.{Bool, true, false, not, cond}
use mathlib.Core.List.Memᴰ
use mathlib.Core.List.{List, [], ◌∷◌}
use Prim.Native.Nat.{ℕ, ◌≤◌, ◌<◌}
use lib.Dec.{eqb}
use lib.ListN.{length}
use lib.Seq.{set_out}
use lib.Ieee.{Float}
use borrow.Author.Tests.{not-true, not-false, ltb-false, leb-false, eqb-true, eq-eqb, ne_eqb, lt-ltb, le-ltb}
use Rattle.number.specs.Number.{zero32, finite}
use Rattle.refusal.specs.Judge.{judged}
use Rattle.std.specs.Prelude.{Option, Some, None, Ok, Err}
use native.Mathlib.Omega.{arith}
use Rattle.refusal.specs.Refusal.{number_of}
use Rattle.refusal.specs.declared.Refusal.{Refusal}
use Rattle.refusal.proofs.Laws.{judged-accepted, number-above, applies-here, passes-here}
use Rattle.matrix_editing.specs.Free.{free_source}
use Rattle.matrix_editing.proofs.Laws.{free-found, free-missing}
use Rattle.matrix.specs.Answers.{edited_said, placed_said}
use Rattle.config.specs.Sizes.{slots}
use Rattle.curve_table.specs.Table.{points}
use Rattle.state.specs.declared.Slot.{Slot}
use Rattle.state.specs.declared.Matrix.{Matrix}
use Rattle.slots_tables.specs.Tables.{tables_need, with_tables, names_table}
use Rattle.matrix_sorting.specs.Moved.{slots_at, moved_tables}
use Rattle.slots.specs.Matrix.{with_slots, with_slot}
use Rattle.slots_tables.specs.Rows.{finite_row, table_rows}
use Rattle.matrix.specs.Edits.{slot_row, answered, placed, tabled, sorted_from, matrix_allowed, sort_slots, load_matrix}
use Rattle.slots.specs.Slots.{first_empty, route_slot, kept_amount}
use Rattle.matrix_editing.specs.Drag.{both_finite, polarity_at, depth_at, dragged_amount}
use Rattle.state.specs.declared.Target.{Target}
use Rattle.state.specs.declared.Polarity.{Polarity}
use Rattle.state.specs.declared.Polarity.TheVariants as L
use Rattle.matrix.specs.Routes.{drag_route, add_vibrato, create_vibrato, drag_polarity, limit_depth}
use Rattle.matrix.specs.Place as P
use Rattle.matrix.specs.Answers.{Placed, PolarityMade, Depth, Edited}
use Rattle.matrix.specs.declared.SortBy.{SortBy}

-- ---- slots of a matrix

-- past the last slot there is nothing to replace
pub with-slot-past : (m : Matrix) (n : ℕ) (s : Slot) → length m.slot ≤ n → with_slot m n s ≡ m
unfolding with_slot with_slots
with-slot-past m n s h = ap (with_slots m) (set_out m.slot n s h)

-- ---- rows that are accepted

pub table-rows-accepted : (b : Bool) (tables t : List Float) → judged (table_rows b tables t) ≡ 0 → (tables_need ≤ length tables) × (length t ≡ points)
table-rows-accepted b tables t h =
    let none = judged-accepted (table_rows b tables t) tt h in
    (ltb-false _ _ (none _ (Memᴰ.tail (Memᴰ.head refl))), eqb-true _ _ (not-false _ (none _ (Memᴰ.tail (Memᴰ.tail (Memᴰ.head refl))))))

pub curve-rows-accepted : (n : ℕ) (b : Bool) (tables t : List Float) → judged (slot_row n ∷ table_rows b tables t) ≡ 0 → (n < slots) × (tables_need ≤ length tables) × (length t ≡ points)
curve-rows-accepted n b tables t h =
    let none = judged-accepted (slot_row n ∷ table_rows b tables t) tt h in
    (leb-false _ _ (none _ (Memᴰ.head refl)), ltb-false _ _ (none _ (Memᴰ.tail (Memᴰ.tail (Memᴰ.head refl)))), eqb-true _ _ (not-false _ (none _ (Memᴰ.tail (Memᴰ.tail (Memᴰ.tail (Memᴰ.head refl)))))))

-- ---- what an answer says of its number

pub answered-code : (code k : ℕ) (m next x : Matrix) → ◌≡◌ {A = Edited} (record { code = k; matrix = x }) (answered code m next) → k ≡ code
unfolding answered
answered-code code k m next x e = ap (λ (d : Edited). d.code) e

pub answered-is : (code : ℕ) (m next x : Matrix) → ◌≡◌ {A = Edited} (record { code = 0; matrix = x }) (answered code m next) → x ≡ next
unfolding answered
answered-is code m next x e =
    let z : 0 ≡ code = ap (λ (d : Edited). d.code) e in
    let is : x ≡ cond (eqb code 0) next m = ap (λ (d : Edited). d.matrix) e in
    is ∙ rw (eq-eqb code 0 (sym z)) refl

not-none : (r : Refusal) (code : ℕ) → number_of r ≡ code → eqb code 0 ≡ false
not-none r code e =
    let above : 0 < number_of r = number-above r in
    ne_eqb code 0 (λ z. omega (arith, e))

pub edited-refused : (code : ℕ) (r : Refusal) (m next : Matrix) → number_of r ≡ code → edited_said m (Err r) ≡ answered code m next
unfolding answered
edited-refused code r m next e = simp (not-none r code e, e)

pub edited-accepted : (code : ℕ) (m next : Matrix) → 0 ≡ code → edited_said m (Ok next) ≡ answered code m next
unfolding answered
edited-accepted code m next e = rw (← e)

-- an accepted code is as good as 0
pub answered-same : (code : ℕ) (m next : Matrix) → 0 ≡ code → answered code m next ≡ answered 0 m next
answered-same code m next e = rw (← e)

pub placed-refused : (code : ℕ) (r : Refusal) (m : Matrix) (i : ℕ) (s : Slot) → number_of r ≡ code → placed_said m (Err r) ≡ placed code m i s
unfolding placed
placed-refused code r m i s e = simp (not-none r code e, e)

-- row 6 alone
pub finite-refused : (b : Bool) (r : Refusal) → number_of r ≡ judged (finite_row b ∷ []) → (b ≡ false) × (number_of r ≡ 6)
finite-refused b r e = let applies = applies-here (not b) 6 r e in (not-true b applies.0, applies.1)

pub finite-accepted : (b : Bool) → 0 ≡ judged (finite_row b ∷ []) → b ≡ true
finite-accepted b e = not-false b (passes-here (not b) 6 tt e)

-- ---- answers with tables

pub tabled-refused : (code k : ℕ) (m next : Matrix) (t w : List Float) → k ≡ code → (k ≡ 0 → ⊥) → (◌≡◌ {A = Edited} (record { code = k; matrix = m }) (tabled code m next t w).answer) × (t ≡ (tabled code m next t w).tables)
unfolding tabled answered
tabled-refused code k m next t w e ne =
    let no : eqb code 0 ≡ false = ne_eqb code 0 (λ z. ne (e ∙ z)) in
    (simp (no, e), simp no)

-- as a Result says it
pub tabled-refused-by : (code : ℕ) (r : Refusal) (m next : Matrix) (t w : List Float) → number_of r ≡ code → (edited_said m (Err r) ≡ (tabled code m next t w).answer) × (t ≡ (tabled code m next t w).tables)
unfolding tabled
tabled-refused-by code r m next t w e = (edited-refused code r m next e, simp (not-none r code e))

pub tabled-accepted : (code : ℕ) (m next : Matrix) (t w : List Float) → 0 ≡ code → (edited_said m (Ok next) ≡ (tabled code m next t w).answer) × (w ≡ (tabled code m next t w).tables)
unfolding tabled
tabled-accepted code m next t w e = (edited-accepted code m next e, rw (← e))

-- ---- sorting

module _ (m : Matrix) (t : List Float) (by : SortBy) where
  -- a number that row 6 bars
  pub sort-barred : matrix_allowed m t ≡ false
      → (◌≡◌ {A = Edited} (record { code = 6; matrix = m }) (sort_slots m t by).answer) × (t ≡ (sort_slots m t by).tables)
  unfolding sort_slots tabled answered judged
  sort-barred bad = (simp bad, simp bad)

  module _ (ok : matrix_allowed m t ≡ true) where
    -- no table is named: none is lent
    pub sort-plain : (next : Matrix) (places : List ℕ) → names_table m ≡ false → places ≡ sorted_from m by → next ≡ with_slots m (slots_at places m.slot)
        → (◌≡◌ {A = Edited} (record { code = 0; matrix = next }) (sort_slots m t by).answer) × (t ≡ (sort_slots m t by).tables)
    unfolding sort_slots tabled answered judged
    sort-plain next places un p e = (simp (ok, un, e, p), simp (ok, un))

    pub sort-short : names_table m ≡ true → length t < tables_need
        → (◌≡◌ {A = Edited} (record { code = 14; matrix = m }) (sort_slots m t by).answer) × (t ≡ (sort_slots m t by).tables)
    unfolding sort_slots tabled answered judged
    sort-short named h = (simp (ok, named, lt-ltb _ _ h), simp (ok, named, lt-ltb _ _ h))

    pub sort-named : (next : Matrix) (places : List ℕ) → names_table m ≡ true → tables_need ≤ length t → places ≡ sorted_from m by
        → next ≡ with_slots m (slots_at places m.slot)
        → (◌≡◌ {A = Edited} (record { code = 0; matrix = next }) (sort_slots m t by).answer) × (moved_tables places t ≡ (sort_slots m t by).tables)
    unfolding sort_slots tabled answered judged
    sort-named next places named h p e = (simp (ok, named, le-ltb _ _ h, e, p), simp (ok, named, le-ltb _ _ h, p))

-- ---- loading

module _ (m : Matrix) (t : List Float) (o : Matrix) (u : List Float) where
  pub load-barred : matrix_allowed o u ≡ false
      → (◌≡◌ {A = Edited} (record { code = 6; matrix = m }) (load_matrix m t o u).answer) × (t ≡ (load_matrix m t o u).tables)
  unfolding load_matrix tabled answered judged
  load-barred bad = (simp bad, simp bad)

  module _ (ok : matrix_allowed o u ≡ true) where
    pub load-plain : names_table o ≡ false
        → (◌≡◌ {A = Edited} (record { code = 0; matrix = o }) (load_matrix m t o u).answer) × (t ≡ (load_matrix m t o u).tables)
    unfolding load_matrix tabled answered judged
    load-plain un = (simp (ok, un), simp (ok, un))

    module _ (named : names_table o ≡ true) where
      pub load-short : length t < tables_need
          → (◌≡◌ {A = Edited} (record { code = 14; matrix = m }) (load_matrix m t o u).answer) × (t ≡ (load_matrix m t o u).tables)
      unfolding load_matrix tabled answered judged
      load-short h = (simp (ok, named, lt-ltb _ _ h), simp (ok, named, lt-ltb _ _ h))

      module _ (long : tables_need ≤ length t) where
        pub load-other-short : length u < tables_need
            → (◌≡◌ {A = Edited} (record { code = 14; matrix = m }) (load_matrix m t o u).answer) × (t ≡ (load_matrix m t o u).tables)
        unfolding load_matrix tabled answered judged
        load-other-short h = (simp (ok, named, le-ltb _ _ long, lt-ltb _ _ h), simp (ok, named, le-ltb _ _ long, lt-ltb _ _ h))

        pub load-named : tables_need ≤ length u
            → (◌≡◌ {A = Edited} (record { code = 0; matrix = o }) (load_matrix m t o u).answer) × (with_tables t u ≡ (load_matrix m t o u).tables)
        unfolding load_matrix tabled answered judged
        load-named h = (simp (ok, named, le-ltb _ _ long, le-ltb _ _ h), simp (ok, named, le-ltb _ _ long, le-ltb _ _ h))

-- ---- routes that the editor makes

module _ (m : Matrix) (lfos : List ℕ) (wheel : ℕ) (t : Target) (x : Float) where
  pub vibrato-refused : finite x ≡ false → ◌≡◌ {A = Placed} (record { code = 6; place = P.Refused; matrix = m }) (create_vibrato m lfos wheel t x)
  unfolding create_vibrato
  vibrato-refused f = rw f

  -- no LFO is free
  pub vibrato-none : finite x ≡ true → ◌≡◌ {A = Option ℕ} None (free_source lfos m.slot)
      → ◌≡◌ {A = Placed} (record { code = 0; place = P.NoFreeLfo; matrix = m }) (create_vibrato m lfos wheel t x)
  unfolding create_vibrato
  vibrato-none f e = rw (f, free-missing lfos m.slot e)

  pub vibrato-made : (lfo : ℕ) (r : Placed) → finite x ≡ true → Some lfo ≡ free_source lfos m.slot → r ≡ add_vibrato m lfo wheel t x
      → r ≡ create_vibrato m lfos wheel t x
  unfolding create_vibrato
  vibrato-made lfo r f e q =
      let found = free-found lfos m.slot lfo e in
      rw (f, found.0, ← found.1) q

-- a drag, step by step
pub drag-made : (m : Matrix) (source : ℕ) (t : Target) (at x : Float) (toggle limit : Bool) (b : Bool) (code : ℕ) (p : Polarity) (d k : Float) (s : Slot) (i : ℕ)
    → b ≡ both_finite at x → code ≡ judged (finite_row b ∷ []) → p ≡ polarity_at at toggle → d ≡ dragged_amount at p x limit → k ≡ kept_amount d
    → s ≡ route_slot source t k p → i ≡ first_empty m.slot → placed code m i s ≡ drag_route m source t at x toggle limit
unfolding drag_route
drag-made m source t at x toggle limit b code p d k s i eb ec ep ed ek es ei = rw (ec, eb, ei, es, ek, ed, ep)

pub polarity-refused : (at : Float) (b : Bool) → finite at ≡ false → ◌≡◌ {A = PolarityMade} (record { code = 6; polarity = L.Unipolar }) (drag_polarity at b)
unfolding drag_polarity
polarity-refused at b f = rw f

pub polarity-made : (at : Float) (b : Bool) (p : Polarity) → finite at ≡ true → p ≡ polarity_at at b → ◌≡◌ {A = PolarityMade} (record { code = 0; polarity = p }) (drag_polarity at b)
unfolding drag_polarity
polarity-made at b p f e = rw (f, e)

pub depth-refused : (at : Float) (p : Polarity) (x : Float) → both_finite at x ≡ false → ◌≡◌ {A = Depth} (record { code = 6; amount = zero32 }) (limit_depth at p x)
unfolding limit_depth
depth-refused at p x f = rw f

pub depth-made : (at : Float) (p : Polarity) (x d : Float) → both_finite at x ≡ true → d ≡ depth_at at p x → ◌≡◌ {A = Depth} (record { code = 0; amount = d }) (limit_depth at p x)
unfolding limit_depth
depth-made at p x d f e = rw (f, e)
