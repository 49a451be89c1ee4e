-- `plan_mix::mix_slow` meets its contract.
use mathlib.Core.Path.{sym}
use Rattle.plan_mix.proofs.mix_slow.Goals as goal

pub returns : goal.returns
returns c = let n = c.new_slow.ensures in
    let k = c.sum_slow.ensures in
    (n.0, k.0, n.1, λ t f s re w. (λ l h. k.1 t f s _ re w l h, λ x xv xr pl id. n.2 t f s x re w xv xr (sym pl) (sym id)))
