-- `lanes16::source_lanes` meets its contract.
use mathlib.Core.Path.{sym, ◌∙◌}
use Prim.Native.Nat.{◌+◌}
use Rattle.lanes16.proofs.Laws.{snap-to}
use Rattle.lanes16.proofs.source_lanes.Goals as goal

pub returns-then-is_bare : goal.returns-then-is_bare
returns-then-is_bare c = λ t f s j v d n l h. rw (sym c.is_bare.ensures ∙ c.if-is_bare.true) (c.raw_lanes.ensures t f s j (record { reads = v.reads; own = v.own; part = v.source }) d l h)

pub returns : goal.returns
returns c = λ t f s j v d n l h. let a = c.args in rw (sym c.is_bare.ensures ∙ c.if-is_bare.false) (snap-to t f a.route.slot 0 _ _ (a.lane + l) a.route.source (c.input_lanes.ensures t f s j (record { reads = v.reads; own = v.own; part = v.source }) v.works d l h) (n l h))
