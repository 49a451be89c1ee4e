-- `list::copy_part` meets its contract: the part is what `copy` leaves of it. Assumes nothing.
use mathlib.Core.Path.{ap}
use Rattle.list.specs.Part.{on_part}
use Rattle.list.proofs.copy_part.Goals as goal

pub returns : goal.returns
unfolding on_part
returns c =
    let a = c.args in
    ap (on_part a.mem.now a.a a.e) c.copy.ensures
