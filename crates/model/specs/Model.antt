-- THE MODEL (document 01, The model): its state is that of the definitions, with control values and slews of its own;
-- every call does as the definitions say, save that at a tick any numbers that meet the rule may come, or, under a
-- chain, the definitions' own. Definitions only.
use Rattle.std.specs.Prelude.{◌≡◌, Bool, true, false, not, cond, ◌&&◌, List, [], ◌∷◌, ℕ, zero, suc, ◌+◌, ◌-◌, eqb, ltb}
use Rattle.std.specs.Prelude.{take, Float}
use Rattle.state.specs.declared.Route.{Route}
use Rattle.state.specs.declared.Chunk.{Chunk}
use Rattle.state.specs.declared.Block.{Block}
use Rattle.state.specs.declared.Signals.{Signals}
use Rattle.state.specs.declared.State.{State}
use Rattle.state.specs.declared.Wiring.{Wiring}
use Rattle.model.specs.Counts.{stride_of, route_total, control_total, plan_at, route_at}
use Rattle.model.specs.Layout.{plan_width}
use Rattle.model.specs.Env.{Env}
use Rattle.model.specs.Tick.{lanes_from, from_start, to_start, own_start, put_plan, fill_from, put_slews, tick_of}
use Rattle.model.specs.Chunks.{chunk_total, chunk_of}
use Rattle.model.specs.World.{World}
use Rattle.model.specs.Process.{env_of, snap_at, primed_with, after_tick, block_of, loaded, drawn, closed, process}
use Rattle.model.specs.Outputs.{plan_place}
use Rattle.model.specs.Calls.{Call, block, other, Runner, on_world, effect_of}
use Rattle.model.specs.Rule.{Values, Rule, Barred, Unbarred}

-- ---- where the numbers of a destination and of a slot lie in the lent values: the one link between the rule and a
-- memory

-- the place of the first route of slot n; their number where none is
abbrev pub route_of : ℕ → List Route → ℕ
route_of n [] = 0
route_of n (r ∷ rs) = cond (eqb r.slot n) 0 (suc (route_of n rs))

unfoldable pub route_place : State → ℕ → ℕ
route_place st n = route_of n (take (route_total st.program) st.program.route)

abbrev pub values_in : State → List Float → Values
values_in st m =
    record {
      to = λ d. lanes_from m (to_start st (plan_place st d));
      from = λ d. lanes_from m (from_start st (plan_place st d));
      own = λ n q. lanes_from m (own_start st (route_place st n) q);
    }

-- the lent values with u's numbers of the first k control plans
unfoldable pub written : State → Values → ℕ → List Float → List Float
unfolding fill_from put_slews
written st u zero m = m
written st u (suc k) m =
    let p = plan_at st k in
    put_plan st k (plan_width (stride_of st) p.voice) (u.to p.dest) (u.from p.dest)
    (λ j. u.own (route_at st (p.first + j)).slot) (written st u k m)

-- ---- a tick of the program that was compiled from w, by which m becomes n

pub data Ticks (w : Wiring) (st : State) (t : Env) (phase : ℕ) (m n : List Float) : Type 0 where
  by-rule : Unbarred w → (u : Values) → Rule w t phase (values_in st m) u
      → n ≡ written st u (control_total st.program) m → Ticks w st t phase m n
  by-definition : Barred w → n ≡ tick_of st t phase m → Ticks w st t phase m n

-- ---- a block, chunk after chunk

pub data Steps (w : Wiring) (samples : List Float) (signals : Signals) (i : ℕ) (c : Chunk) (u v : World) : Type 0 where
  still : c.tick ≡ false → v ≡ after_tick samples signals i c (snap_at i u) u → Steps w samples signals i c u v
  ticks : c.tick ≡ true → (m : List Float) → Ticks w u.state (env_of u samples signals c (snap_at i u)) c.phase
      u.values m
      → v ≡ after_tick samples signals i c (snap_at i u) (primed_with u m) → Steps w samples signals i c u v

-- the first n chunks
pub data Chunks (w : Wiring) (samples : List Float) (signals : Signals) (b : Block) : ℕ → World → World → Type 0 where
  none : {u : World} → Chunks w samples signals b zero u u
  more : {n : ℕ} {u v x : World} → Chunks w samples signals b n u v → Steps w samples signals n (chunk_of b n) v x
      → Chunks w samples signals b (suc n) u x

-- the block is accepted, its range is not empty, and there are routes
abbrev pub walks : World → List Float → Signals → ℕ → ℕ → Bool
walks u samples signals start end =
    (eqb (process u samples signals start end).code 0 && ltb start end) && not (eqb (route_total u.state.program) 0)

pub data Blocks (w : Wiring) (samples : List Float) (signals : Signals) (start end : ℕ) (u v : World) : Type 0 where
  quiet : walks u samples signals start end ≡ false → v ≡ (process u samples signals start end).world
      → Blocks w samples signals start end u v
  walked : walks u samples signals start end ≡ true → (x : World)
      → Chunks w samples signals (block_of u.state start end) (chunk_total (block_of u.state start end))
      (drawn (loaded u)) x
      → v ≡ closed (block_of u.state start end) (end - start) x → Blocks w samples signals start end u v

-- ---- a call, and a list of them; names: what each program was compiled from

pub record Rendered (names : ℕ → Wiring) (samples : List Float) (signals : Signals) (start end : ℕ)
    (r q : Runner) : Type 0 where
  -- what the block leaves
  pub after : World
  -- it is a block of the model
  pub blocks : Blocks (names r.installed) samples signals start end r.world after
  -- the programs that are not installed are as before
  pub same : q ≡ on_world r after

-- a block meets the rule at each tick; any other call does as the definitions say
abbrev pub Does : (ℕ → Wiring) → Call → Runner → Runner → Type 0
Does names (block samples signals start end) r q = Rendered names samples signals start end r q
Does names (other o) r q = q ≡ (effect_of o r).left

-- A RUN OF THE MODEL over a list of calls, from r to q
pub data Models (names : ℕ → Wiring) : List Call → Runner → Runner → Type 0 where
  finish : {r : Runner} → Models names [] r r
  call : {c : Call} {cs : List Call} {r x q : Runner} → Does names c r x → Models names cs x q
      → Models names (c ∷ cs) r q
