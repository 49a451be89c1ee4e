-- THE RULE, SAID: the rule of a control tick (Rule.antt) in which no route stands either. Numbers, ramps and slews
-- after the tick are what is said of them (Said.antt, SaidAfter.antt), given the engine, the lent memories and the
-- chunk (Instants.antt). Definitions only; proofs/SaidRule.antt proves that it is the rule.
use Rattle.std.specs.Prelude.{◌≡◌, true, ℕ, ◌<◌}
use Rattle.config.specs.Sizes.{slots}
use Rattle.feed.specs.Numbers.{In}
use Rattle.model.specs.Feeds.{controls}
use Rattle.model.specs.Env.{Rows}
use Rattle.model.specs.Rule.{Values, lanes_of}
use Rattle.model.specs.Claim.{Moment, before}
use Rattle.model.specs.Said.{sends}
use Rattle.model.specs.SaidAfter.{ramp_said, slew_of_source, slew_of_aux}
use Rattle.model.specs.Instants.{laned, instant_of, said_at}

-- the numbers proposed, lane by lane
abbrev pub proposed_at : Moment → Rows → Rows
proposed_at x to e = laned x.env.stride (to e)

-- u after the tick
pub record SaidRule (x : Moment) (u : Values) : Type 0 where
  -- each number is what is said of it
  pub numbers : (d l : ℕ) → In d (controls x.wiring) → l < lanes_of x.wiring x.env d → u.to d l ≡ said_at x u.to d l
  -- ramps start at the new number or at the old
  pub ramps : (d l : ℕ) → In d (controls x.wiring) → l < lanes_of x.wiring x.env d
      → u.from d l ≡ ramp_said x.wiring (instant_of x) (proposed_at x u.to) d ((before x).from d l) l
  -- of each slot that goes into such a destination, the slews of its source move by the input read
  pub sources : (d n l : ℕ) → In d (controls x.wiring) → n < slots → sends x.wiring n d ≡ true → l < x.env.stride
      → u.own n 0 l ≡ slew_of_source x.wiring (instant_of x) (proposed_at x u.to) d n l
  -- and those of its aux
  pub auxes : (d n l : ℕ) → In d (controls x.wiring) → n < slots → sends x.wiring n d ≡ true → l < x.env.stride
      → u.own n 1 l ≡ slew_of_aux x.wiring (instant_of x) (proposed_at x u.to) d n l
