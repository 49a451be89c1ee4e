-- `lanes16::sample_at` meets its contract.
use mathlib.Core.List.{[]}
use Prim.Native.Nat.{◌+◌}
use Rattle.lanes16.proofs.Samples.{sample-narrow}
use Rattle.lanes16.proofs.sample_at.Goals as goal

pub narrow_lanes-requires : goal.narrow_lanes-requires
narrow_lanes-requires c = let p = c.requires in (rw c.in-Samples.is at (p.0 [] []), p.1)

pub returns-in-Samples : goal.returns-in-Samples
returns-in-Samples c = let a = c.args in
    λ tells e l h.
    sample-narrow a.samples.now a.part a.frame c.in-Samples.start a.wide (a.lane + l) e
    (λ k b. rw c.in-Samples.is at (tells [] [] k b))
    (c.narrow_lanes.ensures l h)
