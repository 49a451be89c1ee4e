-- Numbers that are finite, one by one. Assumes nothing.
use mathlib.Core.Path.{◌≡◌}
use mathlib.Core.Bool.{Bool, true, false, ◌&&◌}
use mathlib.Core.List.{List}
use Prim.Native.Nat.{ℕ, ◌+◌, ◌≤◌, ◌<◌}
use native.Mathlib.Numerals.{add-one}
use lib.ListN.{length, get_or, drop, drop_of_length-le}
use lib.Seq.{drop-cons}
use lib.Ieee.{Float, nan}
use Rattle.number.specs.Number.{finite}
use Rattle.model.specs.Settings.{every_finite}

pub from-here : (l : List Float) (i : ℕ) → i < length l → every_finite (drop i l) ≡ (finite (get_or l i nan) && every_finite (drop (i + 1) l))
from-here l i h = rw (add-one, drop-cons l i nan)

pub past_all : (l : List Float) (i : ℕ) → length l ≤ i → every_finite (drop i l) ≡ true
past_all l i h = rw drop_of_length-le

pub and-false : {a : Bool} (b : Bool) → a ≡ false → false ≡ (a && b)
and-false b h = rw h

pub and-true : {a b : Bool} → a ≡ true → b ≡ (a && b)
and-true h = rw h
