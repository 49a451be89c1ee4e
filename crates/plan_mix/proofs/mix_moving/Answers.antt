-- `plan_mix::mix_moving` meets its contract.
use mathlib.Core.Path.{refl, ◌∙◌}
use native.Mathlib.Omega.{arith}
use Rattle.plan_sum.proofs.Steps.{voice-own}
use Rattle.plan_mix.proofs.Voices.{slew-is}
use Rattle.plan_mix.proofs.mix_moving.Goals as goal

pub returns-then-wide : goal.returns-then-wide
returns-then-wide c = let k = c.mix_voice.ensures in
    let w3 = c.wide.ensures c.if-wide.true in (
      k.0,
      k.1,
      k.2,
      λ t f s re w. (
        λ l h. rw w3.0 (voice-own t f s _ _ l _ w3.1 refl (k.3 t f s re w3.1 w l (rw w3.2 (omega (arith, c.requires.6 w3.0)))).0),
        λ x xv xr pl id off q l u n.
            (k.3 t f s re w3.1 w l (rw w3.2 (omega (arith, w.reads.stride)))).1 off q u ∙ slew-is t x f s _ _ xr pl id (xv ∙ w3.0) w3.1 l q u,
      ),
    )

pub returns : goal.returns
returns c = c.mix_slow.ensures
