-- Lists given by a function of the index. Assumes nothing.
use mathlib.Core.Path.{◌≡◌, refl, sym, ap, ◌∙◌}
use mathlib.Core.Logic.{◌⊎◌, ⊎_elim}
use mathlib.Core.List.{List, [], ◌∷◌, ◌++◌}
use Prim.Native.Nat.{ℕ, zero, suc, ◌+◌, ◌-◌, ◌≤◌, ◌<◌}
use native.Mathlib.Nat.{le_of_suc-le-suc}
use native.Mathlib.Omega.{arith}
use lib.ListN.{length, get_or}
use Rattle.list.specs.Fill.{fill}
use Rattle.list.specs.Part.{part, on_part}
use Rattle.list.proofs.Filled.{fill_is}
use Rattle.list.proofs.FilledPart.{fill-part}
use Rattle.list.proofs.Parts.{part_length}

module _ {A : Type 0} (f : ℕ → A) where
  -- f a, f (a + 1), .., n of them
  abbrev pub table : ℕ → ℕ → List A
  table a zero = []
  table a (suc n) = f a ∷ table (suc a) n

  pub table-length : (a n : ℕ) → length (table a n) ≡ n
  table-length a zero = refl
  table-length a (suc n) = ap suc (table-length (suc a) n)

  pub table_at : (a n k : ℕ) (d : A) → k < n → get_or (table a n) k d ≡ f (a + k)
  table_at a zero k d h = absurd (omega arith)
  table_at a (suc n) zero d h = ap f (omega arith)
  table_at a (suc n) (suc k) d h = table_at (suc a) n k d (le_of_suc-le-suc h) ∙ ap f (omega arith)

  pub table-append : (a m n : ℕ) → table a m ++ table (a + m) n ≡ table a (m + n)
  table-append a zero n =
      let p : a + 0 ≡ a = omega arith in
      let q : 0 + n ≡ n = omega arith in
      rw (p, q)
  table-append a (suc m) n =
      let p : a + suc m ≡ suc a + m = omega arith in
      let q : suc m + n ≡ suc (m + n) = omega arith in
      rw (p, q) (ap (λ (l : List A). f a ∷ l) (table-append (suc a) m n))

  -- an empty one starts anywhere
  pub table_same : {a b n k : ℕ} → n ≡ k → (n ≡ 0) ⊎ (a ≡ b) → table a n ≡ table b k
  table_same {a} {b} {n} {k} e o = ⊎_elim (λ (z : n ≡ 0). rw (← e, z)) (λ (q : a ≡ b). rw (e, q)) o

-- the first n of a list given by a function, its others as they were
pub fill-front : {A : Type 0} (l ys : List A) (f : ℕ → A) (n : ℕ) → n ≤ length l → length ys ≡ n → ((k : ℕ) (d : A) → k < n → f k ≡ get_or ys k d)
    → fill l f n ≡ on_part l 0 n ys
fill-front {A} l ys f n h e g =
    let p : length (part l 0 n) ≡ n - 0 = part_length l 0 n h in
    let whole : fill (part l 0 n) (λ (i : ℕ). f (0 + i)) (length (part l 0 n)) ≡ ys =
    fill_is (part l 0 n) ys (λ (i : ℕ). f (0 + i)) (omega arith) (λ k d b. ap f (omega arith) ∙ g k d (omega arith)) in
    fill-part l f 0 n (omega arith) h (λ k d b. absurd (omega arith))
    ∙ ap (on_part l 0 n) (ap (fill (part l 0 n) (λ (i : ℕ). f (0 + i))) (sym p) ∙ whole)
