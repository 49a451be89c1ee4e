-- How a single number is read: refused, missing, or there. Assumes nothing.
use mathlib.Core.Path.{◌≡◌, refl, sym, ◌∙◌}
use mathlib.Core.Bool.{Bool, true, false, cond}
use mathlib.Core.List.{List, [], ◌∷◌}
use Prim.Native.Nat.{ℕ, ◌<◌}
use native.Mathlib.Omega.{arith}
use borrow.Author.Tests.{ne_eqb, leb-false}
use lib.Dec.{leb}
use lib.Ieee.{Float}
use Rattle.refusal.specs.Judge.{Row, ◌when◌, judged}
use Rattle.refusal.specs.Refusal.{number_of}
use Rattle.refusal.specs.declared.Refusal.{Refusal}
use Rattle.refusal.proofs.Laws.{number-above}
use Rattle.state.specs.Reading as R
use Rattle.model.specs.Outputs.{reading_by}

-- a refusal's number is not that of an accepted call
pub number-taken : (r : Refusal) → number_of r ≡ 0 → ⊥
number-taken r z = let a : 0 < number_of r = number-above r in omega arith

module _ (rows : List Row) (b : Bool) (x : Float) {code : ℕ} (e : code ≡ judged rows) where
  pub read-refused : (code ≡ 0 → ⊥) → R.Refused code ≡ reading_by rows b x
  read-refused h =
      let ne : judged rows ≡ 0 → ⊥ = λ q. h (e ∙ q) in
      rw e (simp (ne_eqb (judged rows) 0 ne))

  module _ (z : code ≡ 0) where
    none : judged rows ≡ 0
    none = sym e ∙ z

    pub read-nothing : b ≡ false → R.Nothing ≡ reading_by rows b x
    read-nothing h = simp (none, h)

    pub read-value : b ≡ true → {y : Float} → y ≡ x → R.Value y ≡ reading_by rows b x
    read-value h q = simp (none, h, q)

-- rows 2 and 14 where neither applies
pub accepted : (n v : ℕ) (s : Bool) → judged (2 when leb n v ∷ 14 when s ∷ []) ≡ 0 → v < n
unfolding judged
accepted n v s e = go (leb n v) refl e
  where
    go : (b : Bool) → b ≡ leb n v → ◌≡◌ {A = ℕ} (cond b 2 (cond s 14 0)) 0 → v < n
    go true q h = absurd (omega arith)
    go false q h = leb-false n v (sym q)
