-- `plan_sum::place_of` meets its contract.
use mathlib.Core.Path.{◌∙◌}
use Rattle.model.specs.RouteValue.{raw_in}
use Rattle.plan_sum.proofs.Places.{raw-held, raw-fed, raw-own, raw-signal}
use Rattle.plan_sum.proofs.place_of.Goals as goal

pub returns-in-Signal : goal.returns-in-Signal
returns-in-Signal c = let o = c.signal_place.ensures _ _ in
    (o.0, λ t f s j route g q v l k. o.1 (λ l. raw_in t f s j l route) (λ l e. raw-signal v l _ (q ∙ c.in-Signal.is) e) l k)

pub returns-in-Held : goal.returns-in-Held
returns-in-Held c = let o = c.held_place.ensures _ _ in
    (o.0, λ t f s j route g q v l k. o.1 (λ l. raw_in t f s j l route) (λ l e. raw-held v l _ (q ∙ c.in-Held.is) e) l)

pub returns-in-Fed : goal.returns-in-Fed
returns-in-Fed c = let o = c.values_place.ensures _ _ in
    (o.0, λ t f s j route g q v l k. o.1 (λ l. raw_in t f s j l route) (λ l k e. rw c.plan_to.ensures (raw-fed v l _ (q ∙ c.in-Fed.is) e k)) l k)

pub returns-in-RouteRandom : goal.returns-in-RouteRandom
returns-in-RouteRandom c = let o = c.values_place-in-RouteRandom.ensures _ _ in
    (o.0, λ t f s j route g q v l k. o.1 (λ l. raw_in t f s j l route) (λ l k e. raw-own v l (q ∙ c.in-RouteRandom.is) k) l k)
