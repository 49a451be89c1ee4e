-- `list::fill_part` meets its contract: the part is what `fill` leaves of it. Assumes nothing.
use mathlib.Core.Path.{ap, ◌∙◌}
use Prim.Native.Nat.{ℕ}
use lib.ListN.{replicate}
use Rattle.list.specs.Part.{part, on_part}
use Rattle.list.proofs.Parts.{part_length}
use borrow.Author.Rules.{rules}
use Rattle.list.proofs.fill_part.Goals as goal

pub returns : goal.returns
unfolding part on_part
returns c =
    let a = c.args in
    ap (on_part a.mem.now a.a a.e)
    (c.fill.ensures ∙ ap (λ (n : ℕ). replicate n a.x) (part_length a.mem.now a.a a.e (search rules)))
