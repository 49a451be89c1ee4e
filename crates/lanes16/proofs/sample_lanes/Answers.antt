-- `lanes16::sample_lanes` meets its contract.
use mathlib.Core.Path.{ap}
use mathlib.Core.Bool.{not}
use mathlib.Core.Path.{◌≡◌, refl, ◌∙◌}
use mathlib.Core.Bool.{true, false}
use Prim.Native.Nat.{◌+◌}
use lib.ListN.{get_or-replicate}
use lib.Ieee.{nan}
use Rattle.model.specs.Env.{sample_in}
use Rattle.lane_input.proofs.Tests.{was-true, was-false}
use Rattle.lanes16.proofs.Samples.{sample-all}
use Rattle.lanes16.proofs.sample_lanes.Goals as goal

pub returns-then-not-voice : goal.returns-then-not-voice
returns-then-not-voice c = let a = c.args in
    let one : a.voice ≡ false = was-false refl (ap not c.if-not-voice.true) in
    λ l h.
    rw one
    (get_or-replicate 16 l c.sample_in-x.result nan h ∙ c.sample_in-x.ensures ∙ sample-all a.samples.now a.part a.frame 0 (a.lane + l))

pub sample_at-requires : goal.sample_at-requires
sample_at-requires c = (λ h m. (c.signal_place-place.ensures h m).0, c.requires)

pub returns : goal.returns
returns c = let a = c.args in
    let each : a.voice ≡ true = was-true refl (ap not c.if-not-voice.false) in
    λ l h.
    rw each
    (c.sample_at.ensures
    (λ u m k b. (c.signal_place-place.ensures u m).1 (sample_in a.samples.now a.part a.frame true) (λ i e. refl) k b)
    c.part_stride-wide.ensures.0 l h)
