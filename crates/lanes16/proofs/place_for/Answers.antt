-- `lanes16::place_for` meets its contract.
use Rattle.lanes16.specs.Told.{read_at}
use Rattle.lanes16.proofs.Laws.{read_held, read-fed, read-own, read-signal}
use Rattle.lanes16.proofs.place_for.Goals as goal

pub returns-in-Signal : goal.returns-in-Signal
returns-in-Signal c = let a = c.args in let o = c.signal_place.ensures _ _ in (o.0, λ t f s j g v l k. o.1 (read_at t f s j a.position a.read) (λ l e. read-signal v a.position l _ c.in-Signal.is e) l k)

pub returns-in-Held : goal.returns-in-Held
returns-in-Held c = let a = c.args in let o = c.held_place.ensures _ _ in (o.0, λ t f s j g v l k. o.1 (read_at t f s j a.position a.read) (λ l e. read_held v a.position l _ c.in-Held.is e) l)

pub returns-in-Fed : goal.returns-in-Fed
returns-in-Fed c = let a = c.args in let o = c.values_place.ensures _ _ in (o.0, λ t f s j g v l k. o.1 (read_at t f s j a.position a.read) (λ l k e. rw c.plan_to.ensures (read-fed v a.position l _ c.in-Fed.is e k)) l k)

pub returns-in-RouteRandom : goal.returns-in-RouteRandom
returns-in-RouteRandom c = let a = c.args in let o = c.values_place-in-RouteRandom.ensures _ _ in (o.0, λ t f s j g v l k. o.1 (read_at t f s j a.position a.read) (λ l k e. read-own v a.position l _ c.own_row.ensures c.in-RouteRandom.is k) l k)
