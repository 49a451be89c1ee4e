-- `engine_settings::fill_row` meets its contract.
use mathlib.Core.Path.{◌≡◌, ap, ◌∙◌}
use Prim.Native.Nat.{ℕ, ◌+◌, ◌*◌, ◌-◌}
use native.Mathlib.Omega.{arith}
use mathlib.Core.List.{List}
use lib.Ieee.{Float}
use lib.ListN.{replicate}
use Rattle.list.specs.Part.{on_part}
use Rattle.list.specs.Rows.{on_row}
use borrow.Author.Rules.{rules}
use Rattle.engine_settings.proofs.fill_row.Goals as goal

-- a row's end less its start is its width
on_row-filled : (m : List Float) (w r : ℕ) (x : Float) (out : List Float) → out ≡ on_part m (r * w) (r * w + w) (replicate (r * w + w - r * w) x) → out ≡ on_row m w r (replicate w x)
unfolding on_row
on_row-filled m w r x out h =
    let wide : r * w + w - r * w ≡ w = omega arith in
    h ∙ ap (λ (n : ℕ). on_part m (r * w) (r * w + w) (replicate n x)) wide

pub returns : goal.returns
returns c = on_row-filled c.args.mem.now c.args.w c.args.r c.args.x _ c.fill_part.ensures
