-- Laws that proofs cite in place of the definitions' text. Assumes nothing.
use mathlib.Core.Path.{◌≡◌, refl}
use mathlib.Core.Bool.{Bool, true, false, cond}
use lib.Dec.{ltb}
use mathlib.Core.List.{List}
use Prim.Native.Nat.{ℕ, ◌+◌, ◌≤◌, ◌<◌}
use native.Mathlib.Numerals.{add-one}
use native.Mathlib.Omega.{arith}
use lib.ListN.{length, get_or, drop, drop_of_length-le}
use lib.Seq.{drop-cons}
use Rattle.state.specs.declared.Slot.{Slot}
use Rattle.std.specs.Prelude.{Option, Some, None}
use borrow.Author.Tests.{lt-ltb, le-ltb}
use Rattle.matrix_editing.specs.Free.{picks_source, in_use, first_free, free_source}

-- ---- what a walk over the slots finds from slot i on

pub used-here : (n : ℕ) (l : List Slot) (i : ℕ) (d : Slot) → i < length l → picks_source n (get_or l i d).source ≡ true → in_use n (drop i l) ≡ true
unfolding in_use
used-here n l i d h e = rw (drop-cons l i d) (rw e)

pub used-later : (n : ℕ) (l : List Slot) (i : ℕ) (d : Slot) → i < length l → picks_source n (get_or l i d).source ≡ false → in_use n (drop i l) ≡ in_use n (drop (i + 1) l)
unfolding in_use
used-later n l i d h e = rw (add-one, drop-cons l i d, e)

pub used-past : (n : ℕ) (l : List Slot) (i : ℕ) → length l ≤ i → in_use n (drop i l) ≡ false
unfolding in_use
used-past n l i h = rw drop_of_length-le

-- ---- what a walk over the sources finds from source i on

pub free-here : (ns : List ℕ) (l : List Slot) (i : ℕ) → i < length ns → in_use (get_or ns i 0) l ≡ false → first_free (drop i ns) l ≡ 0
unfolding first_free
free-here ns l i h e = rw (drop-cons ns i 0) (rw e)

pub free-later : (ns : List ℕ) (l : List Slot) (i : ℕ) → i < length ns → in_use (get_or ns i 0) l ≡ true → first_free (drop i ns) l ≡ 1 + first_free (drop (i + 1) ns) l
unfolding first_free
free-later ns l i h e = rw (add-one, drop-cons ns i 0, e) (omega arith)

pub free-past : (ns : List ℕ) (l : List Slot) (i : ℕ) → length ns ≤ i → first_free (drop i ns) l ≡ 0
unfolding first_free
free-past ns l i h = rw drop_of_length-le

-- ---- the source that is found

pub free-is : (ns : List ℕ) (l : List Slot) (i : ℕ) → first_free ns l ≡ i → i < length ns → Some (get_or ns i 0) ≡ free_source ns l
free-is ns l i e h = rw (e, lt-ltb i (length ns) h)

pub free-none : (ns : List ℕ) (l : List Slot) → length ns ≤ first_free ns l → ◌≡◌ {A = Option ℕ} None (free_source ns l)
free-none ns l h = rw (le-ltb (first_free ns l) (length ns) h)

source-if : (b : Bool) (k n : ℕ) → Some n ≡ cond b (Some k) None → (b ≡ true) × (n ≡ k)
source-if true k n e = (refl, cc)
source-if false k n e = absurd cc

none-if : (b : Bool) (k : ℕ) → ◌≡◌ {A = Option ℕ} None (cond b (Some k) None) → b ≡ false
none-if true k e = absurd cc
none-if false k e = refl

-- what an answer says of the place
pub free-found : (ns : List ℕ) (l : List Slot) (n : ℕ) → Some n ≡ free_source ns l → (ltb (first_free ns l) (length ns) ≡ true) × (n ≡ get_or ns (first_free ns l) 0)
free-found ns l n e = source-if (ltb (first_free ns l) (length ns)) (get_or ns (first_free ns l) 0) n e

pub free-missing : (ns : List ℕ) (l : List Slot) → ◌≡◌ {A = Option ℕ} None (free_source ns l) → ltb (first_free ns l) (length ns) ≡ false
free-missing ns l e = none-if (ltb (first_free ns l) (length ns)) (get_or ns (first_free ns l) 0) e
