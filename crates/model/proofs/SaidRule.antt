-- THE RULE IS WHAT IS SAID: numbers, ramps and slews meet the rule exactly where they are what is said of them, at every
-- tick of every list of calls; so what a tick leaves is what is said of it. Assumes nothing.
use mathlib.Core.Path.{◌≡◌, refl, sym, ap, subst, ◌∙◌}
use mathlib.Core.Logic.{◌↔◌}
use mathlib.Core.Bool.{true}
use mathlib.Core.List.{List, [], ◌∷◌}
use Prim.Native.Nat.{ℕ, zero, suc, ◌<◌}
use lib.ListN.{length}
use lib.Ieee.{Float}
use Rattle.config.specs.Sizes.{slots}
use Rattle.feed.specs.Numbers.{In}
use Rattle.state.specs.declared.Block.{Block}
use Rattle.state.specs.declared.Signals.{Signals}
use Rattle.state.specs.declared.Wiring.{Wiring}
use Rattle.model.specs.Feeds.{controls}
use Rattle.model.specs.Counts.{voice_count}
use Rattle.model.specs.Env.{Env, Rows, Own}
use Rattle.model.specs.Slews.{source_after, aux_after}
use Rattle.model.specs.Tick.{new_from}
use Rattle.model.specs.Chunks.{chunk_total, chunk_of}
use Rattle.model.specs.World.{World}
use Rattle.model.specs.Process.{env_of, snap_at, block_of, loaded, drawn, chunk_steps}
use Rattle.model.specs.Calls.{Call, block, other, Runner, called}
use Rattle.model.specs.Rule.{Values, slots_into, dest_mix, owns_of, seen, lanes_of, ruled, Meets, Rule, Unbarred}
use Rattle.model.specs.Model.{walks}
use Rattle.model.specs.Claim.{Moment, tick_at, chunk_ticks, block_ticks, call_ticks, ticks_of, before, after, Claimed, Named, Each}
use Rattle.model.specs.Said.{sends}
use Rattle.model.specs.SaidAfter.{ramp_said, slew_of_source, slew_of_aux}
use Rattle.model.specs.Instants.{instant_of, said_at}
use Rattle.model.specs.SaidRule.{proposed_at, SaidRule}
use Rattle.model.proofs.ProgramLayout.{stride-least}
use Rattle.model.proofs.Claim.{both, either, the-claim}
use Rattle.model.proofs.SaidInputs.{AtTick, Opens}
use Rattle.model.proofs.SaidSlots.{sent, sent-back, sent-in, sent-slot}
use Rattle.model.proofs.SaidSums.{said-ruled}
use Rattle.model.proofs.SaidSlews.{ramp-same, source-slew, aux-slew}
use Rattle.model.proofs.SaidTicks.{and_same, each_two}

-- ---- one tick

-- what is known of each: all slots, at least one lane, and how its steps stand
pub record AsTick (x : Moment) : Type 0 where
  pub slotted : length x.wiring.matrix.slot ≡ slots
  pub wide : 0 < x.env.stride
  pub steps : AtTick x.env x.phase

module _ (x : Moment) (h : AsTick x) where
  abbrev w : Wiring
  w = x.wiring

  abbrev t : Env
  t = x.env

  abbrev v : Values
  v = before x

  abbrev opens : Opens t
  opens = record { opening = t.snap; any_fresh = t.snap; both = and_same t.snap }

  says : (to : Rows) (d l : ℕ) → l < lanes_of w t d → said_at x to d l ≡ ruled w t x.phase v to d l
  says to d l k = said-ruled w h.slotted t x.phase v opens to d h.steps h.wide l k

  module _ (u : Values) where
    abbrev f : ℕ → Rows
    f d = seen v u.to d

    abbrev s : ℕ → Own
    s d = owns_of w v d

    ramp-at : Meets ◌≡◌ w t x.phase v u.to → (d l : ℕ) → In d (controls w) → l < lanes_of w t d
        → new_from t x.phase (dest_mix w d) (f d) (s d) (v.to d) (v.from d) l
        ≡ ramp_said w (instant_of x) (proposed_at x u.to) d (v.from d l) l
    ramp-at numbers d l c k = ramp-same w h.slotted t x.phase v opens u.to d h.steps h.wide l k (numbers d l c k)

    source-at : (d n l : ℕ) → n < slots → sends w n d ≡ true → l < t.stride
        → source_after t (dest_mix w d) (f d) (s d) (sent w d n) l
        ≡ slew_of_source w (instant_of x) (proposed_at x u.to) d n l
    source-at d n l i b k = source-slew w h.slotted t x.phase v opens u.to d h.steps n i b l k

    aux-at : (d n l : ℕ) → n < slots → sends w n d ≡ true → l < t.stride
        → aux_after t (dest_mix w d) (f d) (s d) (sent w d n) l
        ≡ slew_of_aux w (instant_of x) (proposed_at x u.to) d n l
    aux-at d n l i b k = aux-slew w h.slotted t x.phase v opens u.to d h.steps n i b l k

    -- an own number of a slot, at the place of its route
    own-at : (d n q l : ℕ) → n < slots → sends w n d ≡ true → owns_of w u d (sent w d n) q l ≡ u.own n q l
    own-at d n q l i b = ap (λ (k : ℕ). u.own k q l) (sent-slot w d h.slotted n i b)

    said-rule : SaidRule x u → Rule w t x.phase v u
    said-rule r = record { numbers = numbers; ramps = ramps; sources = sources; auxes = auxes }
      where
        numbers : Meets ◌≡◌ w t x.phase v u.to
        numbers d l c k = r.numbers d l c k ∙ says u.to d l k

        ramps : (d l : ℕ) → In d (controls w) → l < lanes_of w t d
            → u.from d l ≡ new_from t x.phase (dest_mix w d) (f d) (s d) (v.to d) (v.from d) l
        ramps d l c k = r.ramps d l c k ∙ sym (ramp-at numbers d l c k)

        sources : (d j l : ℕ) → In d (controls w) → j < length (slots_into w d) → l < t.stride
            → owns_of w u d j 0 l ≡ source_after t (dest_mix w d) (f d) (s d) j l
        sources d j l c i k =
            let q = sent-back w d h.slotted j i in
            subst (λ (n : ℕ). owns_of w u d n 0 l ≡ source_after t (dest_mix w d) (f d) (s d) n l) q.place
            (own-at d q.number 0 l q.below q.passes
            ∙ r.sources d q.number l c q.below q.passes k
            ∙ sym (source-at d q.number l q.below q.passes k))

        auxes : (d j l : ℕ) → In d (controls w) → j < length (slots_into w d) → l < t.stride
            → owns_of w u d j 1 l ≡ aux_after t (dest_mix w d) (f d) (s d) j l
        auxes d j l c i k =
            let q = sent-back w d h.slotted j i in
            subst (λ (n : ℕ). owns_of w u d n 1 l ≡ aux_after t (dest_mix w d) (f d) (s d) n l) q.place
            (own-at d q.number 1 l q.below q.passes
            ∙ r.auxes d q.number l c q.below q.passes k
            ∙ sym (aux-at d q.number l q.below q.passes k))

    rule-said : Rule w t x.phase v u → SaidRule x u
    rule-said r =
        record {
          numbers = λ d l c k. r.numbers d l c k ∙ sym (says u.to d l k);
          ramps = λ d l c k. r.ramps d l c k ∙ ramp-at r.numbers d l c k;
          sources =
              λ d n l c i b k.
              sym (own-at d n 0 l i b)
              ∙ r.sources d (sent w d n) l c (sent-in w d h.slotted n i b) k
              ∙ source-at d n l i b k;
          auxes =
              λ d n l c i b k.
              sym (own-at d n 1 l i b)
              ∙ r.auxes d (sent w d n) l c (sent-in w d h.slotted n i b) k
              ∙ aux-at d n l i b k;
        }

  -- THE RULE IS WHAT IS SAID
  pub rule-is-said : (u : Values) → Rule w t x.phase v u ↔ SaidRule x u
  rule-is-said u = (rule-said u, said-rule u)

-- ---- the ticks of a list of calls

module _ (w : Wiring) (slotted : length w.matrix.slot ≡ slots) (samples : List Float) (signals : Signals) where
  tick-as : (b : Block) (n : ℕ) (u : World) → Each AsTick (tick_at w samples signals b n u)
  tick-as b n u = either AsTick (chunk_of b n).tick (x ∷ []) (λ e. (known, tt))
    where
      x : Moment
      x =
          record {
            wiring = w;
            state = u.state;
            env = env_of u samples signals (chunk_of b n) (snap_at n u);
            phase = (chunk_of b n).phase;
            values = u.values;
          }

      known : AsTick x
      known =
          record {
            slotted = slotted;
            wide = stride-least (voice_count u.state);
            steps = record { steps = refl; up_to = refl };
          }

  chunks-as : (b : Block) (n : ℕ) (u : World) → Each AsTick (chunk_ticks w samples signals b n u)
  unfolding chunk_ticks
  chunks-as b zero u = tt
  chunks-as b (suc n) u =
      both AsTick (chunk_ticks w samples signals b n u)
      (tick_at w samples signals b n (chunk_steps samples signals b n u))
      (chunks-as b n u)
      (tick-as b n (chunk_steps samples signals b n u))

  block-as : (start end : ℕ) (u : World) → Each AsTick (block_ticks w samples signals start end u)
  block-as start end u =
      let b = block_of u.state start end in
      either AsTick (walks u samples signals start end)
      (chunk_ticks w samples signals b (chunk_total b) (drawn (loaded u)))
      (λ e. chunks-as b (chunk_total b) (drawn (loaded u)))

module _ (names : ℕ → Wiring) (slotted : (k : ℕ) → length (names k).matrix.slot ≡ slots) where
  call-as : (c : Call) (r : Runner) → Each AsTick (call_ticks names c r)
  call-as (block samples signals start end) r =
      block-as (names r.installed) (slotted r.installed) samples signals start end r.world
  call-as (other o) r = tt

  -- what is known of every tick
  pub ticks-as : (cs : List Call) (r : Runner) → Each AsTick (ticks_of names cs r)
  ticks-as [] r = tt
  ticks-as (c ∷ cs) r =
      both AsTick (call_ticks names c r) (ticks_of names cs (called c r)) (call-as c r) (ticks-as cs (called c r))

-- WHAT A TICK LEAVES IS WHAT IS SAID OF IT, at every tick without a chain
pub left-said : (names : ℕ → Wiring) (cs : List Call) (r : Runner) → Named names r
    → Each (λ x. Unbarred x.wiring → SaidRule x (after x)) (ticks_of names cs r)
left-said names cs r h =
    each_two AsTick (λ x. Unbarred x.wiring → Claimed x) (λ x. Unbarred x.wiring → SaidRule x (after x))
    (λ x a c free. (rule-is-said x a (after x)).0 (c free).rule)
    (ticks_of names cs r) (ticks-as names h.slotted cs r) (the-claim names cs r h).ticks
