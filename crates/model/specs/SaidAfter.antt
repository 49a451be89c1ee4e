-- SAID of what else a tick leaves of a control destination: where its ramp starts, and the slews of its slots, sentence
-- by sentence as in Said.antt, over the same things. Definitions only.
use Rattle.std.specs.Prelude.{Bool, false, not, cond, ◌&&◌, ◌||◌, ℕ, eqb, ltb, Float, Option, Some, None}
use Rattle.config.specs.Sizes.{lanes}
use Rattle.curve_table.specs.declared.Curve.{Curve}
use Rattle.state.specs.declared.Wiring.{Wiring}
use Rattle.model.specs.Said.{Instant, slews, slot_n, per_voice, slot_voice, group_start, group_active, starts_in}
use Rattle.model.specs.Said.{plain_slot, silent, input_said, stays}

-- where `to` is proposed for the numbers after the tick, of destination d
module _ (w : Wiring) (x : Instant) (to : ℕ → ℕ → Float) (d : ℕ) where
  -- WHERE THE RAMP STARTS: "Otherwise fresh or unprimed lanes start at the new value, others at the old."; start:
  -- where it started before
  abbrev pub ramp_said : Float → ℕ → Float
  ramp_said start l =
      cond (stays w x to d l) start
      (cond ((per_voice w d && starts_in w x l) || not x.primed) (to d l) (x.number d l))

  -- the lanes in which slot n is worked out, whole groups of them (engine.rs 1296-1343)
  abbrev pub newest_group : ℕ → Option ℕ → Bool
  newest_group l None = false
  newest_group l (Some v) = eqb (group_start w x l) (group_start w x v)

  abbrev pub worked_in : ℕ → ℕ → Bool
  worked_in n l =
      cond (slot_voice w n) (cond (per_voice w d) (group_active w x l) (newest_group l x.newest)) (ltb l lanes)

  -- "... adds nothing and its slews stand still"; a plain slot has none
  abbrev pub moves_for : ℕ → ℕ → Bool
  moves_for n l = not (plain_slot w x n d || silent w x n) && worked_in n l

  -- THE SLEW of its source (p 0) or aux (p 1): "slews move as above by the inputs read"
  abbrev pub slew_said : ℕ → ℕ → ℕ → Curve → Option ℕ → Float
  slew_said n p l c None = x.slew n p l
  slew_said n p l c (Some i) = cond (slews c && moves_for n l) (input_said w x to d n p l c i) (x.slew n p l)

  unfoldable pub slew_of_source : ℕ → ℕ → Float
  slew_of_source n l = slew_said n 0 l (slot_n w n).source_curve (slot_n w n).source

  unfoldable pub slew_of_aux : ℕ → ℕ → Float
  slew_of_aux n l = slew_said n 1 l (slot_n w n).aux_curve (slot_n w n).aux
