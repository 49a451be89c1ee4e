-- `plan_mix::new_slow` meets its contract.
use mathlib.Core.Path.{refl}
use Rattle.plan_slews.proofs.News.{none-new}
use Rattle.plan_mix.proofs.new_slow.Goals as goal

pub returns-then-still : goal.returns-then-still
returns-then-still c = let a = c.args in (c.requires.2, λ p h. refl, λ t f s x re w v q pl id. none-new t x f s a.j a.route a.new.now c.still.ensures c.if-still.true)

pub returns : goal.returns
returns c = let n = c.new_route.ensures in (n.0, n.1, λ t f s x re w v q pl id. n.2 t x f s w q (record { voices = re.voices; fresh = re.fresh; snap = re.snap; voice = v; plain = pl; idle = id }))
