-- `block_opening::draw_route` meets its contract.
use mathlib.Core.Path.{ap, ◌∙◌}
use Prim.Native.Nat.{◌+◌}
use Rattle.block_opening.specs.Draws.{drawn_aux}
use Rattle.block_opening.proofs.draw_route.Goals as goal

pub returns : goal.returns
returns c =
    let a = c.args in
    c.draw_aux.ensures ∙ ap (drawn_aux a.renoted a.n (a.at + a.stride) a.route.aux) c.draw_read-next.ensures
