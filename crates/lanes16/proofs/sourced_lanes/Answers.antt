-- `lanes16::sourced_lanes` meets its contract.
use mathlib.Core.Path.{sym, ◌∙◌}
use Rattle.lanes16.proofs.Laws.{sourced-raw, sourced-spread}
use Prim.Native.Nat.{◌+◌}
use Rattle.model.specs.RouteValue.{raw_in, source_in}
use Rattle.number.specs.Number.{plus, times}
use Rattle.lanes16.proofs.sourced_lanes.Goals as goal

pub returns-then-is_bare : goal.returns-then-is_bare
returns-then-is_bare c = λ t f s j lane e l h. sourced-raw _ _ _ _ _ (sym c.is_bare.ensures ∙ c.if-is_bare.true) (e l h) (c.scaled_lanes.ensures l h)

pub returns : goal.returns
returns c = λ t f s j lane e l h. let r = c.args.route in sourced-spread r.bipolar (raw_in t f s j (lane + l) r) (source_in t f s j (lane + l) r) (plus (times (raw_in t f s j (lane + l) r) r.scale) r.offset) (sym c.is_bare.ensures ∙ c.if-is_bare.false) (e l h) (c.spread_lanes.ensures l h)
