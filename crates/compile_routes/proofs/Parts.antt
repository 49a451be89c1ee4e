-- A route by its parts. Assumes nothing.
use mathlib.Core.Path.{◌≡◌, refl}
use mathlib.Core.Bool.{Bool}
use mathlib.Core.List.{List}
use Prim.Native.Nat.{ℕ}
use lib.Ieee.{Float}
use Rattle.state.specs.declared.Sources.{Sources}
use Rattle.state.specs.declared.Slot.{Slot}
use Rattle.state.specs.declared.Reader.{Reader}
use Rattle.state.specs.Registry.{source_at}
use Rattle.model.specs.Routes.{linked, input_by, aux_by, route_by, route_in}

pub route-parts : (rate : Float) (ss : Sources) (os : List ℕ) (s : Slot) (dv : Bool) (r : Reader)
    → route_in rate ss os s dv r
    ≡ route_by r.candidate.slot s dv
    (input_by rate (source_at ss r.candidate.source) r.candidate.source (linked os r.source) s.source_curve)
    (aux_by rate ss r.candidate.aux (linked os r.aux) s.aux_curve)
    (linked os r.amount)
    (linked os r.output)
unfolding route_in input_by route_by
route-parts rate ss os s dv r = refl
