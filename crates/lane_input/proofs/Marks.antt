-- Whether a mark of some is set. Assumes nothing.
use mathlib.Core.Path.{◌≡◌, refl, sym}
use mathlib.Core.Bool.{Bool, true, false, ◌||◌}
use mathlib.Core.List.{List}
use Prim.Native.Nat.{ℕ, zero, suc, ◌+◌, ◌<◌}
use native.Mathlib.Numerals.{add-one}
use native.Mathlib.Decide.{ℕ_discrete}
use native.Mathlib.Nat.{not-suc-le-zero}
use native.Mathlib.Omega.{arith}
use lib.ListN.{get_or}
use Rattle.model.specs.Lanes.{any_from}

or_true_r : (a : Bool) → a || true ≡ true
or_true_r true = refl
or_true_r false = refl

-- one that is set
pub any_found : (l : List Bool) (k i c : ℕ) → i < c → get_or l (k + i) false ≡ true → any_from l k c ≡ true
any_found l k i zero h e = absurd (not-suc-le-zero h)
any_found l k i (suc c) h e = elim (ℕ_discrete i c) [
  | yes q ↦
      let at : get_or l (k + c) false ≡ true = rw (sym q) e in
      rw at (or_true_r (any_from l k c))
  | no q ↦ rw (any_found l k i c (omega arith) e)
]

-- one more that is not
pub any_next : (l : List Bool) (k i : ℕ) → any_from l k i ≡ false → get_or l (k + i) false ≡ false → any_from l k (i + 1) ≡ false
any_next l k i h e = rw add-one (rw (h, e))
