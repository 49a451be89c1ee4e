-- `control_tick::held_sums` meets its contract.
use mathlib.Core.Path.{sym, subst}
use Prim.Native.Nat.{ℕ, ◌<◌}
use Rattle.control_tick.proofs.Turned.{held_of}
use borrow.Author.Rules.{rules}
use Rattle.control_tick.proofs.held_sums.Goals as goal

pub returns : goal.returns
returns c = λ t f s x k.
    let mix = k.mixes.job.mix in
    let all = c.mix-sums.ensures.1 t f s x k in
    (λ l h. held_of t f s x l mix.min mix.max (all.0 l h) (c.hold_row.ensures l (subst (λ (y : ℕ). l < y) (sym c.lane_count-n.ensures.0) h)), all.1)
