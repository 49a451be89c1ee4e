-- An array filled with what a function makes of the elements of another. Assumes nothing.
use mathlib.Core.Path.{◌≡◌, sym, ◌∙◌}
use mathlib.Core.List.{List, map}
use native.Mathlib.Omega.{arith}
use lib.ListN.{length, get_or, length-map, get_or-map}
use Rattle.list.specs.Fill.{fill}
use Rattle.list.proofs.Elements.{get_or-inside}
use Rattle.list.proofs.Filled.{fill_is}

pub fill-map : {A B : Type 0} (g : A → B) (l : List A) (d : A) (b : List B) → length b ≡ length l → fill b (λ k. g (get_or l k d)) (length b) ≡ map g l
fill-map g l d b e =
    fill_is b (map g l) (λ k. g (get_or l k d)) (length-map l g ∙ sym e) (λ k x h.
    sym (get_or-inside (map g l) k x (g d) (omega (arith, length-map l g)) ∙ get_or-map g l k d))
