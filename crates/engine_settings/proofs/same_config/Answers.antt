-- `engine_settings::same_config` meets its contract.
use mathlib.Core.Path.{◌≡◌}
use mathlib.Core.Bool.{Bool, true, ◌&&◌}
use lib.Dec.{eqb}
use lib.Ieee.{eq}
use borrow.Author.Tests.{eq-eqb, ne_eqb}
use Rattle.engine_settings.proofs.same_config.Goals as goal

-- where the first two hold, the last decides
last : (p q r : Bool) → p ≡ true → q ≡ true → r ≡ (p && (q && r))
last p q r h k = rw (h, k)

pub returns-then-not-same : goal.returns-then-not-same
returns-then-not-same c = simp c.if-not-same.true

pub returns-then-a-b : goal.returns-then-a-b
returns-then-a-b c = simp (c.if-not-same.false, ne_eqb _ _ c.if-a-b.true)

pub returns : goal.returns
returns c =
    let a = c.args.a in
    let b = c.args.b in
    last (eq a.sample_rate b.sample_rate) (eqb a.max_frames b.max_frames) (eqb a.voices b.voices) c.if-not-same.false (eq-eqb a.max_frames b.max_frames c.if-a-b.false)
