-- `lanes16::aux_lanes` meets its contract.
use mathlib.Core.Path.{◌∙◌}
use Prim.Native.Nat.{◌+◌}
use Rattle.lanes16.proofs.Laws.{aux-is}
use Rattle.lanes16.proofs.aux_lanes.Goals as goal

pub returns-in-None : goal.returns-in-None
returns-in-None c = λ t f s j r q k v d n. rw c.in-None.is tt

pub returns-in-Some : goal.returns-in-Some
returns-in-Some c = λ t f s j r q k v d n. let a = c.args in rw c.in-Some.is (λ l h. aux-is t f s j r _ (a.lane + l) k (c.input_lanes.ensures t f s j (record { reads = v.reads; own = v.own; part = rw (q ∙ c.in-Some.is) at v.aux }) v.works (rw c.in-Some.is at d) l h) (n l h))
