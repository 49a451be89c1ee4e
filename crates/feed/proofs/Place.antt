-- The tick meets the rule by place, for any feeds, and nothing else does. Assumes nothing.
use mathlib.Core.Path.{◌≡◌, refl, sym, ap, subst, ◌∙◌, fun_ext}
use mathlib.Core.Logic.{◌≢◌}
use mathlib.Core.Bool.{Bool, true, false, cond}
use mathlib.Core.List.{List, [], ◌∷◌}
use Prim.Native.Nat.{ℕ, zero, suc, ◌+◌, ◌<◌}
use native.Mathlib.Omega.{arith}
use native.Mathlib.Decide.{ℕ_discrete, dec_lt}
use lib.Dec.{ltb, leb-suc-suc}
use borrow.Author.Tests.{eq-eqb, ne_eqb, lt-ltb, le-ltb}
use Rattle.feed.specs.Numbers.{hit, count, In, Distinct, index_of}
use Rattle.feed.specs.Rule.{upd, eval, seen, ByPlace}
use Rattle.feed.proofs.Count.{hit_same, hit_other}
use Rattle.feed.proofs.Index.{index_same, index-other, index_in}

apart : (a e c : ℕ) → hit a e + c ≡ 0 → a ≢ e
apart a e c z p = omega (arith, hit_same e, rw p at z)

module _ {Val : Type 0} where
  pub upd_same : (f : ℕ → Val) (d : ℕ) (v : Val) → upd f d v d ≡ v
  upd_same f d v = rw (eq-eqb d d refl)

  pub upd_other : (f : ℕ → Val) (d : ℕ) (v : Val) (a : ℕ) → a ≢ d → upd f d v a ≡ f a
  upd_other f d v a ne = rw (ne_eqb a d ne)

  -- what is not in the order keeps its value
  pub eval-keeps : (F : ℕ → (ℕ → Val) → Val) (l : List ℕ) (f : ℕ → Val) (a : ℕ) → count a l ≡ 0 → eval F l f a ≡ f a
  eval-keeps F [] f a z = refl
  eval-keeps F (e ∷ l) f a z = eval-keeps F l (upd f e (F e f)) a (omega arith) ∙ upd_other f e (F e f) a (apart a e (count a l) z)

module _ {Val : Type 0} (F : ℕ → (ℕ → Val) → Val) where
  pub eval-by-place : (l : List ℕ) → Distinct l → (old : ℕ → Val) → ByPlace F l old (eval F l old)
  eval-by-place [] once f d m = absurd (omega arith)
  eval-by-place (e ∷ l) once f d m = go (ℕ_discrete d e) (eval-by-place l (λ a. omega (arith, once a)) f' d)
    where
      f' : ℕ → Val
      f' = upd f e (F e f)

      E : ℕ → Val
      E = eval F l f'

      E-e : E e ≡ f' e
      E-e = eval-keeps F l f' e (omega (arith, once e, hit_same e))

      first : (a : ℕ) → f a ≡ seen (e ∷ l) E f e a
      first a = rw (index_same e l, le-ltb (index_of a (e ∷ l)) 0 (omega arith))

      either : (b : Bool) → E e ≡ cond b (E e) (f' e)
      either true = refl
      either false = E-e

      head : d ≢ e → seen (e ∷ l) E f d e ≡ E e
      head ne = rw (lt-ltb (index_of e (e ∷ l)) (index_of d (e ∷ l)) (omega (arith, index_same e l, index-other d e l ne)))

      later : d ≢ e → (a : ℕ) → seen l E f' d a ≡ seen (e ∷ l) E f d a
      later ne a = elim (ℕ_discrete a e) [
        | yes p ↦ subst (λ (x : ℕ). seen l E f' d x ≡ seen (e ∷ l) E f d x) (sym p)
            (sym (either (ltb (index_of e l) (index_of d l))) ∙ sym (head ne))
        | no q ↦ rw (ne_eqb a e q, ne_eqb d e ne, leb-suc-suc (suc (index_of a l)) (index_of d l))
      ]

      go : Dec (d ≡ e) → (In d l → E d ≡ F d (seen l E f' d)) → E d ≡ F d (seen (e ∷ l) E f d)
      go (yes p) ih = rw p (E-e ∙ upd_same f e (F e f) ∙ ap (λ (g : ℕ → Val). F e g) (fun_ext first))
      go (no ne) ih = ih (omega (arith, hit_other d e ne)) ∙ ap (λ (g : ℕ → Val). F d g) (fun_ext (later ne))

  -- two that meet the rule by place are one on the order
  pub by-place-one : (os : List ℕ) (old g h : ℕ → Val) → ByPlace F os old g → ByPlace F os old h → (d : ℕ) → In d os → g d ≡ h d
  by-place-one os old g h sg sh d md = go (suc (index_of d os)) d md (omega arith)
    where
      go : (k : ℕ) (d : ℕ) → In d os → index_of d os < k → g d ≡ h d
      go zero d md i = absurd (omega arith)
      go (suc k) d md i = sg d md ∙ ap (λ (v : ℕ → Val). F d v) (fun_ext (same (go k))) ∙ sym (sh d md)
        where
          same : ((a : ℕ) → In a os → index_of a os < k → g a ≡ h a) → (a : ℕ) → seen os g old d a ≡ seen os h old d a
          same ih a = elim (dec_lt (index_of a os) (index_of d os)) [
            | yes p ↦ rw (lt-ltb (index_of a os) (index_of d os) p) (ih a (index_in a d os md p) (omega arith))
            | no p ↦ rw (le-ltb (index_of a os) (index_of d os) (omega arith))
          ]
