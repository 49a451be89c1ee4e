-- `plan_mix::mix_route` meets its contract.
use native.Mathlib.Omega.{arith}
use mathlib.Core.Path.{refl}
use Rattle.plan_mix.proofs.mix_route.Goals as goal

pub returns-then-j-ge-SLOTS : goal.returns-then-j-ge-SLOTS
returns-then-j-ge-SLOTS c = let r = c.rest_route.ensures in let p = c.requires in (p.4, r.0, λ q h. refl, λ t f s x w k o ch re h q e. (λ l u. r.1 t f s x w k o ch re h q e l u, λ m. absurd (omega (arith, c.if-j-ge-SLOTS.true))))

pub mix_there-requires : goal.mix_there-requires
mix_there-requires c = let p = c.requires in (p.0, p.1, p.2, p.3, p.4, p.5, omega (arith, c.if-j-ge-SLOTS.false))

pub returns : goal.returns
returns c = let m = c.mix_there.ensures in (m.0, m.1, m.2, λ t f s x w k o ch re h q e. let y = m.3 t f s x w k o ch re h q e in (y.0, λ n. y.1))
