-- `audio_rows::bounded` meets its contract.
use mathlib.Core.Path.{ap, sym, ◌∙◌}
use mathlib.Core.Bool.{false}
use lib.Ieee.{Float, inf, lt}
use Rattle.audio_rows.proofs.Numbers.{or-true, or-false}
use Rattle.audio_rows.proofs.bounded.Goals as goal

pub returns-then-low-min : goal.returns-then-low-min
returns-then-low-min c =
    or-true (lt c.args.max (inf false)) (ap (λ (z : Float). lt z c.args.min) (sym c.minus_infinity-low.ensures) ∙ c.if-low-min.true)

pub returns : goal.returns
returns c =
    let a = c.args in
    ap (lt a.max) c.infinity-high.ensures ∙ or-false (lt a.max (inf false)) (ap (λ (z : Float). lt z a.min) (sym c.minus_infinity-low.ensures) ∙ c.if-low-min.false)
