-- Laws on the bytes of an input. Assumes nothing.
use mathlib.Core.Path.{◌≡◌}
use mathlib.Core.List.{List}
use Prim.Native.Nat.{ℕ, ◌+◌, ◌<◌}
use native.Mathlib.Numerals.{add-one}
use lib.ListN.{length, get_or, drop}
use lib.Seq.{drop-cons, drop-length}
use Rattle.cases.specs.Numbers.{after, after_all}
use Rattle.cases.specs.declared.digits.Seen.{Seen}

-- the bytes from i on, by the one at i and those after it
pub all_from : (s : Seen) (w : List ℕ) (i : ℕ) → i < length w → after_all s (drop i w) ≡ after_all (after s (get_or w i 0)) (drop (i + 1) w)
unfolding after_all
all_from s w i h = rw (add-one, drop-cons w i 0)

pub all_past : (s : Seen) (w : List ℕ) (i : ℕ) → i ≡ length w → after_all s (drop i w) ≡ s
unfolding after_all
all_past s w i h = rw (h, drop-length)
