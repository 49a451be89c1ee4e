-- THE RULE of a control tick, in which no plan and no order stands (document 01, The model). It goes by slots,
-- registries and configuration; it asks of numbers proposed for each control destination in use that each be the base
-- and the routes' terms, added and held to the bounds, with each fed input read from the numbers proposed, or, fed by
-- itself, from its own before. Definitions only.
use Rattle.std.specs.Prelude.{◌≡◌, cond, List, [], ◌∷◌, ℕ, ◌<◌, eqb, length, get_or, Float}
use Rattle.feed.specs.Numbers.{In}
use Rattle.feed.specs.Chain.{Chain, Acyclic}
use Rattle.feed.specs.Rule.{upd}
use Rattle.state.specs.declared.Base.TheVariants as B
use Rattle.state.specs.declared.Gain.{Gain}
use Rattle.state.specs.declared.Gain.TheVariants as G
use Rattle.state.specs.declared.Route.{Route}
use Rattle.state.specs.declared.Slot.{Slot}
use Rattle.state.specs.declared.Wiring.{Wiring}
use Rattle.std.specs.Prelude.{Option, None, Some}
use Rattle.state.specs.declared.FedBy.{FedBy}
use Rattle.state.specs.declared.Candidate.{Candidate}
use Rattle.state.specs.Registry.{source_at, dest_at}
use Rattle.model.specs.Wiring.{candidates}
use Rattle.model.specs.Feeds.{counted_feed, dest_voice, feeder_of, aux_thing, counted_into, controls}
use Rattle.model.specs.Routes.{no_slot, input_by, aux_by, route_by}
use Rattle.model.specs.Env.{Env, Rows, Own}
use Rattle.model.specs.Mix.{Mix}
use Rattle.model.specs.Slews.{source_after, aux_after}
use Rattle.model.specs.Tick.{mix_width, new_to, new_from}

-- ---- the numbers of a program, by destination and by slot

pub record Values : Type 0 where
  -- of a destination, in a lane: its number
  pub to : ℕ → ℕ → Float
  -- of a destination, in a lane: where its ramp starts
  pub from : ℕ → ℕ → Float
  -- of a slot, in a lane: row 0 and 1 the slews of source and aux, row 2 and 3 their random inputs
  pub own : ℕ → ℕ → ℕ → Float

-- ---- what goes into a destination, off slots and registries

-- read from the destination that feeds it, or as set
abbrev pub fed_from : Option FedBy → Gain
fed_from None = G.Live
fed_from (Some f) = G.Fed f.dest f.voice

abbrev pub slot_of : Wiring → Candidate → Slot
slot_of w c = get_or w.matrix.slot c.slot no_slot

-- what a slot adds to its destination; a fed input names the destination that feeds it
unfoldable pub slot_route : Wiring → Candidate → Route
unfolding input_by route_by feeder_of
slot_route w c =
    route_by c.slot (slot_of w c) (dest_voice w c.dest)
    (input_by w.config.sample_rate (source_at w.sources c.source) c.source
    (fed_from (feeder_of w (B.Held c.source))) (slot_of w c).source_curve)
    (aux_by w.config.sample_rate w.sources c.aux (fed_from (feeder_of w (aux_thing c.aux)))
    (slot_of w c).aux_curve)
    (fed_from (feeder_of w (B.Amount c.slot)))
    (fed_from (feeder_of w (B.Output c.slot)))

-- the slots of destination d, in slot order
abbrev pub candidates_into : ℕ → List Candidate → List Candidate
candidates_into d [] = []
candidates_into d (c ∷ cs) = let later = candidates_into d cs in cond (eqb c.dest d) (c ∷ later) later

unfoldable pub slots_into : Wiring → ℕ → List Candidate
unfolding candidates
slots_into w d = candidates_into d (candidates w)

abbrev pub no_candidate : Candidate
no_candidate = record { slot = 0; source = 0; aux = None; dest = 0 }

unfoldable pub slot_into : Wiring → ℕ → ℕ → Candidate
unfolding slots_into
slot_into w d j = get_or (slots_into w d) j no_candidate

abbrev pub dest_mix : Wiring → ℕ → Mix
dest_mix w d =
    record {
      dest = d;
      voice = dest_voice w d;
      min = (dest_at w.dests d).min;
      max = (dest_at w.dests d).max;
      base = counted_feed w d;
      count = length (slots_into w d);
      route = λ j. slot_route w (slot_into w d j);
    }

-- the lanes of a destination: the lane stride, or 1
abbrev pub lanes_of : Wiring → Env → ℕ → ℕ
lanes_of w t d = mix_width t (dest_mix w d)

-- the own numbers of its routes
abbrev pub owns_of : Wiring → Values → ℕ → Own
owns_of w v d j = v.own (slot_into w d j).slot

-- ---- the rule; v: before the tick

-- what destination d reads: the numbers after the tick, and of itself those before
abbrev pub seen : Values → Rows → ℕ → Rows
seen v to d = upd to d (v.to d)

-- what the rule gives destination d in lane l, with `to` proposed
abbrev pub ruled : Wiring → Env → ℕ → Values → Rows → ℕ → ℕ → Float
ruled w t phase v to d l = new_to t phase (dest_mix w d) (seen v to d) (owns_of w v d) (v.to d) l

-- the numbers proposed meet the rule in every lane of every control destination in use, as `Same` compares
abbrev pub Meets : (Float → Float → Type 0) → Wiring → Env → ℕ → Values → Rows → Type 0
Meets Same w t phase v to =
    (d l : ℕ) → In d (controls w) → l < lanes_of w t d → Same (to d l) (ruled w t phase v to d l)

-- THE RULE: u after the tick. Ramps and slews follow from the numbers
pub record Rule (w : Wiring) (t : Env) (phase : ℕ) (v u : Values) : Type 0 where
  -- each number is what the rule gives for the numbers
  pub numbers : Meets ◌≡◌ w t phase v u.to
  -- ramps start at the new number or at the old
  pub ramps : (d l : ℕ) → In d (controls w) → l < lanes_of w t d
      → u.from d l ≡ new_from t phase (dest_mix w d) (seen v u.to d) (owns_of w v d) (v.to d) (v.from d) l
  -- slews of sources move by the inputs read
  pub sources : (d j l : ℕ) → In d (controls w) → j < length (slots_into w d) → l < t.stride
      → owns_of w u d j 0 l ≡ source_after t (dest_mix w d) (seen v u.to d) (owns_of w v d) j l
  -- and those of auxes
  pub auxes : (d j l : ℕ) → In d (controls w) → j < length (slots_into w d) → l < t.stride
      → owns_of w u d j 1 l ≡ aux_after t (dest_mix w d) (seen v u.to d) (owns_of w v d) j l

-- ---- chains: counted feeds, read or not, through two or more control destinations in use, back to the start

abbrev pub Barred : Wiring → Type 0
Barred w = Chain (counted_into w) (controls w)

abbrev pub Unbarred : Wiring → Type 0
Unbarred w = Acyclic (counted_into w) (controls w)
