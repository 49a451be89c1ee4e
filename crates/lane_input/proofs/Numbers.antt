-- Rows of a signal within a length, bounds of products, and reads past a list. Assumes nothing.
use mathlib.Core.Path.{◌≡◌, refl, sym, ◌∙◌}
use mathlib.Core.Bool.{Bool, true, false}
use mathlib.Core.Logic.{◌⊎◌, inl, inr, ⊎_elim}
use mathlib.Core.List.{List}
use Prim.Native.Nat.{ℕ, ◌+◌, ◌-◌, ◌*◌, ◌/◌, ◌≤◌, ◌<◌}
use native.Mathlib.Nat.{le_trans, mul-le-mul_left, mul-le-mul_right, le-div_iff_mul-le, eq-zero-or-pos}
use native.Mathlib.Omega.{arith}
use lib.Dec.{leb, ltb}
use lib.ListN.{length, get_or}
use borrow.Author.Tests.{leb-true, leb-false, le-leb, lt-leb, lt-ltb, le-ltb}
use Rattle.list.proofs.Elements.{get_or_past}

-- a test passes or fails, with the equation
pub which : (b : Bool) → (b ≡ true) ⊎ (b ≡ false)
which true = inl refl
which false = inr refl

pub product-bound : (a b m n : ℕ) → a ≤ m → b ≤ n → a * b ≤ m * n
product-bound a b m n h k = le_trans (mul-le-mul_right b h) (mul-le-mul_left m k)

-- so many rows lie within a length where they are at most as many as it has
pub rows-div : (n w l : ℕ) → 0 < w → leb n (l / w) ≡ leb (n * w) l
rows-div n w l pos =
    ⊎_elim
    (λ h. h ∙ sym (le-leb (n * w) l ((le-div_iff_mul-le pos).0 (leb-true n (l / w) h))))
    (λ h.
    let past : l < n * w = ⊎_elim
    (λ (k : leb (n * w) l ≡ true). absurd (omega (arith, leb-false n (l / w) h, (le-div_iff_mul-le {k = w} {x = n} {y = l} pos).1 (leb-true (n * w) l k))))
    (λ (k : leb (n * w) l ≡ false). leb-false (n * w) l k)
    (which (leb (n * w) l)) in
    h ∙ sym (lt-leb (n * w) l past))
    (which (leb n (l / w)))

-- at most one less is below
pub below-pred : (a n : ℕ) → (n ≡ 0 → ⊥) → leb a (n - 1) ≡ ltb a n
below-pred a n ne =
    ⊎_elim
    (λ h. h ∙ sym (lt-ltb a n (let k = leb-true a (n - 1) h in ⊎_elim (λ (z : n ≡ 0). absurd (ne z)) (λ (z : 0 < n). omega arith) (eq-zero-or-pos n))))
    (λ h. h ∙ sym (le-ltb a n (let k = leb-false a (n - 1) h in omega arith)))
    (which (leb a (n - 1)))

module _ {A : Type 0} where
  -- a read whose first number is past the list
  pub past-start : (m : List A) (a l : ℕ) (d : A) → length m ≤ a → get_or m (a + l) d ≡ d
  past-start m a l d h = get_or_past m (a + l) d (omega arith)

  -- and one whose second number is past the rest
  pub past-rest : (m : List A) (a l : ℕ) (d : A) → length m - a ≤ l → get_or m (a + l) d ≡ d
  past-rest m a l d h = get_or_past m (a + l) d (omega arith)
