-- What a call answers by its number: the rows' number, and each part of the world by it. Assumes nothing.
use mathlib.Core.Path.{◌≡◌, refl, sym, ap, ◌∙◌}
use mathlib.Core.Bool.{Bool, true, false, cond}
use mathlib.Core.List.{List}
use Prim.Native.Nat.{ℕ}
use lib.Dec.{eqb}
use Rattle.refusal.specs.Judge.{Row, judged}
use Rattle.model.specs.World.{World}
use Rattle.model.specs.Settings.{done_by}

-- a part of one of two worlds
part_by : {A : Type 0} (b : Bool) (x y : World) (f : World → A) → cond b (f x) (f y) ≡ f (cond b x y)
part_by true x y f = refl
part_by false x y f = refl

-- a part that both worlds have
part-kept : {A : Type 0} (b : Bool) (x y : World) (f : World → A) → f x ≡ f y → f y ≡ f (cond b x y)
part-kept true x y f e = sym e
part-kept false x y f e = refl

module _ (rows : List Row) (w next : World) (code : ℕ) (e : code ≡ judged rows) where
  pub done-code : code ≡ (done_by rows w next).code
  unfolding done_by
  done-code = e

  pub done-part : {A : Type 0} (f : World → A) → cond (eqb code 0) (f next) (f w) ≡ f (done_by rows w next).world
  unfolding done_by
  done-part f = part_by (eqb code 0) next w f ∙ ap (λ (k : ℕ). f (cond (eqb k 0) next w)) e

  pub done-kept : {A : Type 0} (f : World → A) → f next ≡ f w → f w ≡ f (done_by rows w next).world
  unfolding done_by
  done-kept f h = part-kept (eqb (judged rows) 0) next w f h
