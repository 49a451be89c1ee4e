-- Laws that proofs cite in place of the definitions' text. Assumes nothing.
use mathlib.Core.Path.{◌≡◌, refl, sym, ap, ◌∙◌}
use mathlib.Core.Bool.{Bool, true, false, not, ◌&&◌, ◌||◌}
use mathlib.Core.List.{List}
use Prim.Native.Nat.{ℕ, ◌+◌, ◌-◌, ◌*◌, ◌≤◌, ◌<◌}
use native.Mathlib.Numerals.{add-one}
use native.Mathlib.Omega.{arith}
use lib.ListN.{length, get_or, drop, length-drop, drop_of_length-le}
use lib.Seq.{drop-cons, take_all, take-nil}
use lib.Ieee.{Float}
use Rattle.list.specs.Part.{part}
use Rattle.list.specs.Rows.{row_at}
use Rattle.curve_table.specs.Table.{points, all_allowed}
use Rattle.state.specs.declared.Slot.{Slot}
use Rattle.slots_tables.specs.Tables.{slot_names, any_names, place_allowed, allowed_where, slot_allowed, slots_allowed}

-- ---- what a walk over the slots finds from slot i on

pub names-from : (l : List Slot) (i : ℕ) (d : Slot) → i < length l → any_names (drop i l) ≡ (slot_names (get_or l i d) || any_names (drop (i + 1) l))
unfolding any_names
names-from l i d h = rw (add-one, drop-cons l i d)

pub names-past : (l : List Slot) (i : ℕ) → length l ≤ i → any_names (drop i l) ≡ false
unfolding any_names
names-past l i h = rw drop_of_length-le

pub allowed-from : (t : List Float) (l : List Slot) (i : ℕ) (d : Slot) → i < length l → slots_allowed t i (drop i l) ≡ (slot_allowed t i (get_or l i d) && slots_allowed t (i + 1) (drop (i + 1) l))
unfolding slots_allowed
allowed-from t l i d h = rw (add-one, drop-cons l i d)

pub allowed-past : (t : List Float) (l : List Slot) (i : ℕ) → length l ≤ i → slots_allowed t i (drop i l) ≡ true
unfolding slots_allowed
allowed-past t l i h = rw drop_of_length-le

-- ---- a place that a curve names

pub where-named : {b c : Bool} (t : List Float) (p : ℕ) → b ≡ c → allowed_where b t p ≡ allowed_where c t p
where-named t p h = rw h

pub where-curve : {b c : Bool} {p q : ℕ} (t : List Float) → b ≡ c → p ≡ q → allowed_where (not b) t p ≡ allowed_where (not c) t q
where-curve t h e = rw (h, e)

-- ---- a place, as far as the slice reaches

-- a slice that ends at or before the place
pub place-past : (t : List Float) (p : ℕ) → length t ≤ p * points → place_allowed t p ≡ true
unfolding place_allowed row_at part all_allowed
place-past t p h = rw (drop_of_length-le, take-nil)

-- a slice that ends in it
pub place_short : (t : List Float) (p : ℕ) → length t ≤ p * points + points → place_allowed t p ≡ all_allowed (part t (p * points) (length t))
unfolding place_allowed row_at part
place_short t p h =
    let rest : length (drop (p * points) t) ≡ length t - p * points = length-drop (p * points) t in
    ap all_allowed
    (take_all (p * points + points - p * points) (drop (p * points) t) (omega arith)
    ∙ sym (take_all (length t - p * points) (drop (p * points) t) (omega arith)))

pub place-whole : (t : List Float) (p : ℕ) → place_allowed t p ≡ all_allowed (part t (p * points) (p * points + points))
unfolding place_allowed row_at
place-whole t p = refl
