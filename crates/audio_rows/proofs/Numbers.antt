-- The number in a lane at a frame, by what the code finds. Assumes nothing.
use mathlib.Core.Path.{◌≡◌, sym, ap, ap₂, ◌∙◌}
use mathlib.Core.Bool.{Bool, not, cond, true, false, ◌&&◌, ◌||◌}
use Prim.Native.Nat.{ℕ}
use lib.Ieee.{Float, inf, lt}
use Rattle.number.specs.Number.{hold}
use Rattle.model.specs.Audio.{bounded, whole_plain, new_audio}
use Rattle.model.specs.Env.{Env, Rows, Own}
use Rattle.model.specs.Lanes.{in_span}
use Rattle.model.specs.Mix.{Mix}
use Rattle.model.specs.Sums.{has_plain, all_plain, audio_sum}
use Rattle.lane_input.proofs.Tests.{was-true, was-false}

-- ---- tests

pub or-true : {a : Bool} (b : Bool) → a ≡ true → true ≡ (a || b)
or-true b e = rw e

pub or-false : {a : Bool} (b : Bool) → a ≡ false → b ≡ (a || b)
or-false b e = rw e

pub and-true : (a b : Bool) → a ≡ true → b ≡ (a && b)
and-true a b e = rw e

pub and-false : (a b : Bool) → a ≡ false → false ≡ (a && b)
and-false a b e = rw e

off : (b z : Bool) (p q : Float) → b ≡ false → q ≡ cond (b && z) p q
off b z p q e = rw e

on : (b z : Bool) (p q : Float) → b ≡ true → cond z p q ≡ cond (b && z) p q
on b z p q e = rw e

pub taken : (a b : Bool) (p q : Float) {r : Float} → not a ≡ true → r ≡ p → r ≡ cond (not a || b) p q
taken a b p q e k = rw e k

pub in-span : (a : Bool) {b c : Bool} (p q : Float) {r : Float} → not a ≡ false → c ≡ b → c ≡ true → r ≡ p → r ≡ cond (not a || b) p q
in-span a p q e k h z = rw (e, sym k ∙ h) z

pub out-of-span : (a : Bool) {b c : Bool} (p q : Float) → not a ≡ false → c ≡ b → c ≡ false → q ≡ cond (not a || b) p q
out-of-span a p q e k h = rw (e, sym k ∙ h)

-- ---- the number

module _ (t : Env) (f : Rows) (s : Own) (x : Mix) (o : ℕ → Float) (l : ℕ) where
  pub new-free : {min max old y : Float} {b : Bool} → x.min ≡ min → x.max ≡ max → old ≡ o l → y ≡ audio_sum t f s x old l → b ≡ (lt (inf true) min || lt max (inf false)) → not b ≡ true
      → y ≡ new_audio t x f s o l
  unfolding new_audio
  new-free {min = min} {max = max} mn mx q e k h =
      let none : bounded x ≡ false = ap₂ (λ (a b : Float). lt (inf true) a || lt b (inf false)) mn mx ∙ was-false k h in
      e ∙ ap (λ (z : Float). audio_sum t f s x z l) q ∙ off (bounded x) (not (whole_plain t x) || in_span t l) _ _ none

  pub new-held : {min max old y r : Float} {b whole : Bool} → x.min ≡ min → x.max ≡ max → old ≡ o l → y ≡ audio_sum t f s x old l → b ≡ (lt (inf true) min || lt max (inf false)) → not b ≡ false
      → whole ≡ whole_plain t x → r ≡ cond (not whole || in_span t l) (hold min max y) y → r ≡ new_audio t x f s o l
  unfolding new_audio
  new-held {min = min} {max = max} {y = y} {whole = whole} mn mx q e k h w v =
      let some : bounded x ≡ true = ap₂ (λ (a b : Float). lt (inf true) a || lt b (inf false)) mn mx ∙ was-true k h in
      let sum : Float = audio_sum t f s x (o l) l in
      v
      ∙ ap (λ (z : Float). cond (not whole || in_span t l) (hold min max z) z) (e ∙ ap (λ (z : Float). audio_sum t f s x z l) q)
      ∙ ap (λ (z : Bool). cond (not z || in_span t l) (hold min max sum) sum) w
      ∙ ap₂ (λ (a b : Float). cond (not (whole_plain t x) || in_span t l) (hold a b sum) sum) (sym mn) (sym mx)
      ∙ on (bounded x) (not (whole_plain t x) || in_span t l) _ _ some

pub whole-none : (t : Env) (x : Mix) {b : Bool} → b ≡ has_plain t x → not b ≡ true → false ≡ whole_plain t x
whole-none t x e h = and-false (has_plain t x) (all_plain t x x.count) (was-false e h)

pub whole-all : (t : Env) (x : Mix) {b c : Bool} → b ≡ has_plain t x → not b ≡ false → c ≡ all_plain t x x.count → c ≡ whole_plain t x
whole-all t x e h k = k ∙ and-true (has_plain t x) (all_plain t x x.count) (was-true e h)
