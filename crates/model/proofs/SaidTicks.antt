-- AT EVERY TICK of every list of calls the numbers left are what `said` gives, and no others are. Assumes nothing.
use mathlib.Core.Path.{◌≡◌, refl, sym, subst}
use mathlib.Core.Logic.{◌↔◌}
use mathlib.Core.Bool.{Bool, true, false, ◌&&◌}
use mathlib.Core.List.{List, [], ◌∷◌}
use Prim.Native.Nat.{ℕ, zero, suc, ◌+◌, ◌*◌, ◌<◌}
use lib.Dec.{eqb}
use lib.ListN.{length, get_or}
use lib.Ieee.{Float}
use Rattle.config.specs.Sizes.{slots}
use Rattle.number.specs.Same.{◌≈◌}
use Rattle.feed.specs.Numbers.{In}
use Rattle.list.specs.Rows.{row_at}
use Rattle.curve_table.specs.Table.{points}
use Rattle.slots_tables.specs.Tables.{slot_place}
use Rattle.state.specs.declared.Block.{Block}
use Rattle.state.specs.declared.Chunk.{Chunk}
use Rattle.state.specs.declared.Signals.{Signals}
use Rattle.state.specs.declared.Wiring.{Wiring}
use Rattle.model.specs.Feeds.{controls}
use Rattle.model.specs.Counts.{voice_count, stride_of, at}
use Rattle.model.specs.Env.{Rows}
use Rattle.model.specs.Chunks.{chunk_total, chunk_of}
use Rattle.model.specs.World.{World}
use Rattle.model.specs.Process.{env_of, snap_at, block_of, loaded, drawn, chunk_steps}
use Rattle.model.specs.Calls.{Call, block, other, Runner, called}
use Rattle.model.specs.Rule.{lanes_of, ruled, Meets, Unbarred}
use Rattle.model.specs.Model.{values_in, walks}
use Rattle.model.specs.Claim.{Moment, tick_at, chunk_ticks, block_ticks, call_ticks, ticks_of, before, after, Alike}
use Rattle.model.specs.Claim.{Alone, Claimed, Named, Each}
use Rattle.model.specs.Said.{Instant, said}
use Rattle.model.specs.Instants.{laned, heard_by, said_at}
use Rattle.model.proofs.ProgramLayout.{stride-least}
use Rattle.model.proofs.Claim.{both, either, the-claim}
use Rattle.model.proofs.SaidSums.{said-ruled}

-- ---- one tick

-- what is said is what the rule gives, whatever is proposed
abbrev pub SaysRule : Moment → Type 0
SaysRule x =
    (to : Rows) (d l : ℕ) → l < lanes_of x.wiring x.env d
    → said_at x to d l ≡ ruled x.wiring x.env x.phase (before x) to d l

-- the numbers proposed are what is said of them, in every lane of every control destination in use
abbrev pub AsSaid : (Float → Float → Type 0) → Moment → Rows → Type 0
AsSaid Same x to =
    (d l : ℕ) → In d (controls x.wiring) → l < lanes_of x.wiring x.env d → Same (to d l) (said_at x to d l)

-- those that the definitions leave are so, and no others
pub record SaidAlone (x : Moment) : Type 0 where
  pub equal : (to : Rows) → AsSaid ◌≡◌ x to ↔ Alike ◌≡◌ x to (after x).to
  pub compared : (to : Rows) → AsSaid ◌≈◌ x to ↔ Alike ◌≈◌ x to (after x).to

module _ (Same : Float → Float → Type 0) (x : Moment) (says : SaysRule x) where
  said-meets : (to : Rows) → AsSaid Same x to → Meets Same x.wiring x.env x.phase (before x) to
  said-meets to h d l m k = subst (λ (u : Float). Same (to d l) u) (says to d l k) (h d l m k)

  meets-said : (to : Rows) → Meets Same x.wiring x.env x.phase (before x) to → AsSaid Same x to
  meets-said to h d l m k = subst (λ (u : Float). Same (to d l) u) (sym (says to d l k)) (h d l m k)

  alone-said : Alone Same x → (to : Rows) → AsSaid Same x to ↔ Alike Same x to (after x).to
  alone-said a to = (λ h. a.same to (said-meets to h), λ h. meets-said to (a.meets to h))

claimed-said : (x : Moment) → SaysRule x → (Unbarred x.wiring → Claimed x) → Unbarred x.wiring → SaidAlone x
claimed-said x says c free =
    record { equal = alone-said ◌≡◌ x says (c free).equal; compared = alone-said ◌≈◌ x says (c free).compared }

-- ---- the ticks of a list of calls

pub each_two : (P Q R : Moment → Type 0) → ((x : Moment) → P x → Q x → R x) → (xs : List Moment) → Each P xs → Each Q xs
    → Each R xs
each_two P Q R h [] p q = tt
each_two P Q R h (x ∷ xs) p q = (h x p.0 q.0, each_two P Q R h xs p.1 q.1)

pub and_same : (b : Bool) → b && b ≡ b
and_same true = refl
and_same false = refl

-- a tick's instant, read off the engine, the lent memories and the chunk; first: the chunk is the block's first
abbrev pub instant_in : World → List Float → Signals → Chunk → Bool → Instant
instant_in u samples signals c first =
    let st = u.state in
    let v = values_in st u.values in
    record {
      stride = stride_of st;
      primed = st.primed;
      any_fresh = st.marks.any_fresh;
      fresh = λ l. get_or st.marks.fresh l false;
      active = λ l. get_or st.voices.active l false;
      newest = st.voices.newest;
      held = λ i l. at u.held (i * stride_of st + l);
      global = λ i. at u.globals i;
      base = λ d. at u.bases d;
      amount = λ n. at st.gains.amount n;
      output = λ n. at st.gains.output n;
      random = λ n p. laned (stride_of st) (v.own n (2 + p));
      slew = λ n p. laned (stride_of st) (v.own n p);
      table = λ n p. row_at u.tables points (slot_place n p);
      number = λ d. laned (stride_of st) (v.to d);
      heard = heard_by samples signals;
      frame = c.start;
      phase = c.phase;
      opening = first;
    }

module _ (w : Wiring) (slotted : length w.matrix.slot ≡ slots) (samples : List Float) (signals : Signals) where
  -- AT A CHUNK: what is said of the engine as it stands is what the rule gives
  pub chunk-says : (b : Block) (n : ℕ) (u : World) (to : Rows) (d l : ℕ)
      → l < lanes_of w (env_of u samples signals (chunk_of b n) (snap_at n u)) d
      → said w (instant_in u samples signals (chunk_of b n) (eqb n 0)) (λ e. laned (stride_of u.state) (to e)) d l
      ≡ ruled w (env_of u samples signals (chunk_of b n) (snap_at n u)) (chunk_of b n).phase
      (values_in u.state u.values) to d l
  chunk-says b n u to d l h =
      said-ruled w slotted (env_of u samples signals (chunk_of b n) (snap_at n u)) (chunk_of b n).phase
      (values_in u.state u.values)
      (record { opening = eqb n 0; any_fresh = u.state.marks.any_fresh; both = refl })
      to d (record { steps = refl; up_to = refl }) (stride-least (voice_count u.state)) l h

  tick-says : (b : Block) (n : ℕ) (u : World) → Each SaysRule (tick_at w samples signals b n u)
  tick-says b n u =
      either SaysRule (chunk_of b n).tick (x ∷ [])
      (λ e. (
        λ to d l h.
            said-ruled w slotted x.env x.phase (before x)
            (record { opening = x.env.snap; any_fresh = x.env.snap; both = and_same x.env.snap })
            to d (record { steps = refl; up_to = refl })
            (stride-least (voice_count u.state)) l h,
        tt,
      ))
    where
      x : Moment
      x =
          record {
            wiring = w;
            state = u.state;
            env = env_of u samples signals (chunk_of b n) (snap_at n u);
            phase = (chunk_of b n).phase;
            values = u.values;
          }

  chunks-say : (b : Block) (n : ℕ) (u : World) → Each SaysRule (chunk_ticks w samples signals b n u)
  unfolding chunk_ticks
  chunks-say b zero u = tt
  chunks-say b (suc n) u =
      both SaysRule (chunk_ticks w samples signals b n u)
      (tick_at w samples signals b n (chunk_steps samples signals b n u))
      (chunks-say b n u)
      (tick-says b n (chunk_steps samples signals b n u))

  block-says : (start end : ℕ) (u : World) → Each SaysRule (block_ticks w samples signals start end u)
  block-says start end u =
      let b = block_of u.state start end in
      either SaysRule (walks u samples signals start end)
      (chunk_ticks w samples signals b (chunk_total b) (drawn (loaded u)))
      (λ e. chunks-say b (chunk_total b) (drawn (loaded u)))

module _ (names : ℕ → Wiring) (slotted : (k : ℕ) → length (names k).matrix.slot ≡ slots) where
  call-says : (c : Call) (r : Runner) → Each SaysRule (call_ticks names c r)
  call-says (block samples signals start end) r =
      block-says (names r.installed) (slotted r.installed) samples signals start end r.world
  call-says (other o) r = tt

  -- THE RULE IS WHAT IS SAID, at every tick
  pub ticks-say : (cs : List Call) (r : Runner) → Each SaysRule (ticks_of names cs r)
  ticks-say [] r = tt
  ticks-say (c ∷ cs) r =
      both SaysRule (call_ticks names c r) (ticks_of names cs (called c r)) (call-says c r) (ticks-say cs (called c r))

-- WHAT A TICK LEAVES IS WHAT IS SAID, AND NOTHING ELSE IS, at every tick without a chain
pub said-claim : (names : ℕ → Wiring) (cs : List Call) (r : Runner) → Named names r
    → Each (λ x. Unbarred x.wiring → SaidAlone x) (ticks_of names cs r)
said-claim names cs r h =
    each_two SaysRule (λ x. Unbarred x.wiring → Claimed x) (λ x. Unbarred x.wiring → SaidAlone x) claimed-said
    (ticks_of names cs r) (ticks-say names h.slotted cs r) (the-claim names cs r h).ticks
