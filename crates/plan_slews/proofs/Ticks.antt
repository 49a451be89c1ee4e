-- A plan's new number in a lane and where its ramp starts, by what the code finds. Assumes nothing.
use mathlib.Core.Path.{◌≡◌, sym, ap, ◌∙◌}
use mathlib.Core.Bool.{Bool, true, false, not}
use Prim.Native.Nat.{ℕ}
use lib.Ieee.{Float}
use Rattle.model.specs.Env.{Env, Rows, Own}
use Rattle.model.specs.Mix.{Mix}
use Rattle.model.specs.Tick.{starting, kept, held_sum, new_to, new_from}

module _ (t : Env) (phase : ℕ) (x : Mix) (f : Rows) (s : Own) (o a : ℕ → Float) (l : ℕ) where
  pub to-kept : {b : Bool} {v : Float} → b ≡ kept t phase x l → b ≡ true → v ≡ o l → v ≡ new_to t phase x f s o l
  unfolding new_to
  to-kept e on k = rw (sym e ∙ on) k

  pub to-new : {b : Bool} {v : Float} → b ≡ kept t phase x l → b ≡ false → v ≡ held_sum t f s x l → v ≡ new_to t phase x f s o l
  unfolding new_to
  to-new e off k = rw (sym e ∙ off) k

  pub from-kept : {b : Bool} {v : Float} → b ≡ kept t phase x l → b ≡ true → v ≡ a l → v ≡ new_from t phase x f s o a l
  unfolding new_from
  from-kept e on k = rw (sym e ∙ on) k

  -- where a voice starts
  pub from-started : {b z : Bool} {v : Float} → b ≡ kept t phase x l → b ≡ false → z ≡ starting t x l → z ≡ true → v ≡ held_sum t f s x l → v ≡ new_from t phase x f s o a l
  unfolding new_from
  from-started e off q on k = rw (sym e ∙ off, sym q ∙ on) k

  -- where the program is not primed
  pub from-unprimed : {b z p : Bool} {v : Float} → b ≡ kept t phase x l → b ≡ false → z ≡ starting t x l → z ≡ false → t.primed ≡ p → not p ≡ true → v ≡ held_sum t f s x l
      → v ≡ new_from t phase x f s o a l
  unfolding new_from
  from-unprimed e off q z0 d n k = rw (sym e ∙ off, sym q ∙ z0, ap not d ∙ n) k

  pub from_old : {b z p : Bool} {v : Float} → b ≡ kept t phase x l → b ≡ false → z ≡ starting t x l → z ≡ false → t.primed ≡ p → not p ≡ false → v ≡ o l
      → v ≡ new_from t phase x f s o a l
  unfolding new_from
  from_old e off q z0 d n k = rw (sym e ∙ off, sym q ∙ z0, ap not d ∙ n) k

-- no voice starts in a chunk that is not its first
pub no_start : (t : Env) (x : Mix) (l : ℕ) {b : Bool} → t.snap ≡ b → b ≡ false → false ≡ starting t x l
no_start t x l e h = rw (e ∙ h)
