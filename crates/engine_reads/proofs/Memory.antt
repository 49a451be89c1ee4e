-- Rows of a memory, read as far as it goes. Assumes nothing.
use mathlib.Core.Path.{◌≡◌, sym, ap, ◌∙◌}
use mathlib.Core.List.{List, []}
use Prim.Native.Nat.{ℕ, ◌+◌, ◌-◌, ◌*◌, ◌/◌, ◌≤◌, ◌<◌}
use native.Mathlib.Nat.{div-lt_iff_lt-mul}
use native.Mathlib.Decide.{dec_lt}
use native.Mathlib.Omega.{arith}
use lib.ListN.{length, take, drop, length-drop, drop_of_length-le}
use lib.Seq.{take_all, take-nil}
use Rattle.list.specs.Part.{part}

-- k rows of width w are more than n numbers, or as many at most
pub rows-past : (n w k : ℕ) → 1 ≤ w → n / w < k → n < k * w
rows-past n w k h b = (div-lt_iff_lt-mul {k = w} {x = n} {y = k} h).0 b

pub rows-within : (n w k : ℕ) → 1 ≤ w → k ≤ n / w → k * w ≤ n
rows-within n w k h b = elim (dec_lt n (k * w)) [
  | yes s ↦ let t = (div-lt_iff_lt-mul {k = w} {x = n} {y = k} h).1 s in absurd (omega arith)
  | no s ↦ omega arith
]

module _ {A : Type 0} (m : List A) (a n : ℕ) where
  -- a part that starts past the end
  pub part-past : length m ≤ a → part m a (a + n) ≡ []
  unfolding part
  part-past h = ap (take (a + n - a)) (drop_of_length-le m h) ∙ take-nil (a + n - a)

  -- one that ends there or later goes to the end
  pub part_to_end : length m - a ≤ n → part m a (a + n) ≡ take (length m - a) (drop a m)
  unfolding part
  part_to_end h =
      take_all (a + n - a) (drop a m) (omega (arith, length-drop a m))
      ∙ sym (take_all (length m - a) (drop a m) (omega (arith, length-drop a m)))

-- two parts that both go to the end
pub parts-to-end : {A : Type 0} (m : List A) (a n k : ℕ) → length m - a ≤ n → length m - a ≤ k → part m a (a + n) ≡ part m a (a + k)
parts-to-end m a n k h b = part_to_end m a n h ∙ sym (part_to_end m a k b)
