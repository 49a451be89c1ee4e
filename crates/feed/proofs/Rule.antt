-- Over an order that passes the test, in which each feeder stands before what it feeds, the tick meets the rule in which no order stands, and nothing
-- else does. Assumes nothing.
use mathlib.Core.Path.{◌≡◌, refl, sym, ◌∙◌}
use mathlib.Core.Bool.{Bool, true}
use mathlib.Core.List.{List}
use Prim.Native.Nat.{ℕ, zero, suc, ◌<◌}
use native.Mathlib.Omega.{arith}
use native.Mathlib.Decide.{ℕ_discrete}
use borrow.Author.Tests.{eq-eqb, ne_eqb, lt-ltb, le-ltb}
use Rattle.feed.specs.Numbers.{In, Distinct, index_of}
use Rattle.feed.specs.Order.{order, ordered}
use Rattle.feed.specs.Rule.{upd, eval, seen, Solves, Local}
use Rattle.feed.proofs.Ordered.{ordered-before}
use Rattle.feed.proofs.Placed.{order-count, order-distinct}
use Rattle.feed.proofs.Place.{upd_same, upd_other, eval-by-place}

module _ {Val : Type 0} (feeds : ℕ → ℕ → Bool) (os : List ℕ) (first : ordered feeds os ≡ true) (F : ℕ → (ℕ → Val) → Val) (old : ℕ → Val) where
  -- ONE SOLUTION AT MOST, also where the two sides are only the same as values
  module _ (Same : Val → Val → Type 0) (itself : (x : Val) → Same x x) (turned : (x y : Val) → Same x y → Same y x)
      (joined : (x y z : Val) → Same x y → Same y z → Same x z) (reads : Local Same feeds os F) where
    pub rule-one : (g h : ℕ → Val) → Solves Same F os old g → Solves Same F os old h → (d : ℕ) → In d os → Same (g d) (h d)
    rule-one g h sg sh d md = go (suc (index_of d os)) d md (omega arith)
      where
        go : (k : ℕ) (d : ℕ) → In d os → index_of d os < k → Same (g d) (h d)
        go zero d md i = absurd (omega arith)
        go (suc k) d md i = joined _ _ _ (sg d md) (joined _ _ _ (reads d (upd g d (old d)) (upd h d (old d)) md (same (go k))) (turned _ _ (sh d md)))
          where
            same : ((a : ℕ) → In a os → index_of a os < k → Same (g a) (h a)) → (a : ℕ) → In a os → feeds a d ≡ true
                → Same (upd g d (old d) a) (upd h d (old d) a)
            same ih a ma f = elim (ℕ_discrete a d) [
              | yes e ↦ rw (eq-eqb a d e) (itself (old d))
              | no ne ↦ rw (ne_eqb a d ne) (ih a ma (omega (arith, ordered-before feeds os first a d ma md ne f)))
            ]

  -- THE TICK IS A SOLUTION
  module _ (once : Distinct os) (reads : Local ◌≡◌ feeds os F) where
    pub tick-solves : Solves ◌≡◌ F os old (eval F os old)
    tick-solves d md = eval-by-place F os once old d md ∙ reads d (seen os new old d) (upd new d (old d)) md same
      where
        new : ℕ → Val
        new = eval F os old

        same : (a : ℕ) → In a os → feeds a d ≡ true → seen os new old d a ≡ upd new d (old d) a
        same a ma f = elim (ℕ_discrete a d) [
          | yes e ↦ rw (e, le-ltb (index_of d os) (index_of d os) (omega arith)) (sym (upd_same new d (old d)))
          | no ne ↦ rw (lt-ltb (index_of a os) (index_of d os) (ordered-before feeds os first a d ma md ne f)) (sym (upd_other new d (old d) a ne))
        ]

    -- AND THE ONLY ONE
    pub tick-only : (g : ℕ → Val) → Solves ◌≡◌ F os old g → (d : ℕ) → In d os → g d ≡ eval F os old d
    tick-only g s = rule-one ◌≡◌ (λ x. refl) (λ x y e. sym e) (λ x y z p q. p ∙ q) reads g (eval F os old) s tick-solves

-- over the greedy order, where it passes the test: the rule among those left has the tick as its one solution
module _ {Val : Type 0} (feeds : ℕ → ℕ → Bool) (left : List ℕ) (once : Distinct left) (first : ordered feeds (order feeds left) ≡ true)
    (F : ℕ → (ℕ → Val) → Val) (old : ℕ → Val) (reads : Local ◌≡◌ feeds left F) where
  into : (d : ℕ) → In d left → In d (order feeds left)
  into d m = omega (arith, order-count feeds left d)

  out_of : (d : ℕ) → In d (order feeds left) → In d left
  out_of d m = omega (arith, order-count feeds left d)

  reads-order : Local ◌≡◌ feeds (order feeds left) F
  reads-order d f g m same = reads d f g (out_of d m) (λ a k. same a (into a k))

  pub order-solves : Solves ◌≡◌ F left old (eval F (order feeds left) old)
  order-solves d m = tick-solves feeds (order feeds left) first F old (order-distinct feeds left once) reads-order d (into d m)

  pub order-only : (g : ℕ → Val) → Solves ◌≡◌ F left old g → (d : ℕ) → In d left → g d ≡ eval F (order feeds left) old d
  order-only g s d m =
      tick-only feeds (order feeds left) first F old (order-distinct feeds left once) reads-order g (λ a k. s a (out_of a k)) d (into d m)
