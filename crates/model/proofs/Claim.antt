-- THE ONE CLAIM OVER EVERY LIST OF CALLS (demand 3; stated in specs/Claim.antt): from every engine whose programs are what their names were compiled from, and so from every fresh one.
-- Assumes nothing.
use mathlib.Core.Path.{◌≡◌, refl, sym, ap, ap₂, subst, ◌∙◌}
use mathlib.Core.Logic.{◌↔◌}
use mathlib.Core.Bool.{Bool, true, false, cond}
use mathlib.Core.List.{List, [], ◌∷◌, ◌++◌, map}
use Prim.Native.Nat.{ℕ, zero, suc, ◌+◌}
use native.Mathlib.Omega.{arith}
use lib.Dec.{eqb}
use lib.ListN.{length}
use lib.Ieee.{Float}
use borrow.Author.Tests.{eq-eqb}
use Rattle.config.specs.Sizes.{slots}
use Rattle.config.specs.declared.Config.{Config}
use Rattle.refusal.specs.Judge.{judged}
use Rattle.feed.specs.Numbers.{up_from}
use Rattle.feed.proofs.Acyclic.{ordered-exactly}
use Rattle.state.specs.declared.Sources.{Sources}
use Rattle.state.specs.declared.Destinations.{Destinations}
use Rattle.state.specs.declared.Block.{Block}
use Rattle.state.specs.declared.Chunk.{Chunk}
use Rattle.state.specs.declared.Signals.{Signals}
use Rattle.state.specs.declared.Wiring.{Wiring}
use Rattle.model.specs.Feeds.{counted_into, controls}
use Rattle.model.specs.Plans.{compiled}
use Rattle.model.specs.Compile.{Memories, compile_rows, compile}
use Rattle.model.specs.Tick.{tick_of}
use Rattle.model.specs.Chunks.{chunk_total, chunk_of, chunk_list}
use Rattle.model.specs.World.{World}
use Rattle.model.specs.States.{put_state, put_held, put_globals, put_bases}
use Rattle.model.specs.Settings.{fresh_state, fresh_world, refused_state, new_rows, new_engine}
use Rattle.model.specs.Process.{env_of, snap_at, block_of, loaded, drawn, chunk_steps, process}
use Rattle.model.specs.Calls.{Call, block, other, Runner, on_world, called, run}
use Rattle.model.specs.Rule.{Unbarred}
use Rattle.model.specs.Model.{Ticks, Does, Models, finish, call, walks}
use Rattle.model.specs.Claim.{Moment, tick_at, chunk_ticks, block_ticks, call_ticks, ticks_of, standing, standings, call_due, due, stands, chainless, Claimed, Named, nothing_wired, names_of, fresh_runner, Each, TheClaim, FromFresh}
use Rattle.model.proofs.Conds.{cond-true}
use Rattle.model.proofs.Made.{empty-is-compiled}
use Rattle.model.proofs.Frames.{steps-frame}
use Rattle.model.proofs.ModelRuns.{Good, good-frame, walks-good, blocks-there, blocks-one}
use Rattle.model.proofs.NamedHolds.{called-named, fresh-named}
use Rattle.model.proofs.TickRule.{tick-there, tick-one, tick-claimed}

-- ---- of a program compiled from w

module _ (w : Wiring) (slotted : length w.matrix.slot ≡ slots) where
  there : (u : World) (samples : List Float) (signals : Signals) (c : Chunk) (snap : Bool) → Good w u
      → Ticks w u.state (env_of u samples signals c snap) c.phase u.values (tick_of u.state (env_of u samples signals c snap) c.phase u.values)
  there u samples signals c snap g = tick-there w slotted u.state g.program (env_of u samples signals c snap) refl c.phase u.values g.room

  one : (u : World) (samples : List Float) (signals : Signals) (c : Chunk) (snap : Bool) (m : List Float) → Good w u
      → Ticks w u.state (env_of u samples signals c snap) c.phase u.values m → m ≡ tick_of u.state (env_of u samples signals c snap) c.phase u.values
  one u samples signals c snap m g = tick-one w slotted u.state g.program (env_of u samples signals c snap) refl c.phase u.values g.room m

-- ---- lists of ticks

abbrev Held : Moment → Type 0
Held x = Unbarred x.wiring → Claimed x

pub both : (P : Moment → Type 0) (xs ys : List Moment) → Each P xs → Each P ys → Each P (xs ++ ys)
both P [] ys a b = b
both P (x ∷ xs) ys a b = (a.0, both P xs ys a.1 b)

pub either : (P : Moment → Type 0) (b : Bool) (xs : List Moment) → (b ≡ true → Each P xs) → Each P (cond b xs [])
either P true xs f = f refl
either P false xs f = tt

module _ (w : Wiring) (slotted : length w.matrix.slot ≡ slots) (samples : List Float) (signals : Signals) where
  tick-held : (b : Block) (n : ℕ) (u : World) → Good w u → Each Held (tick_at w samples signals b n u)
  tick-held b n u g =
      either Held (chunk_of b n).tick (x ∷ []) (λ e. (λ free. tick-claimed w slotted u.state g.program x.env refl x.phase u.values g.room free, tt))
    where
      x : Moment
      x = record { wiring = w; state = u.state; env = env_of u samples signals (chunk_of b n) (snap_at n u); phase = (chunk_of b n).phase; values = u.values }

  chunks-held : (b : Block) (n : ℕ) (u : World) → Good w u → Each Held (chunk_ticks w samples signals b n u)
  unfolding chunk_ticks
  chunks-held b zero u g = tt
  chunks-held b (suc n) u g =
      both Held (chunk_ticks w samples signals b n u) (tick_at w samples signals b n (chunk_steps samples signals b n u)) (chunks-held b n u g)
      (tick-held b n (chunk_steps samples signals b n u) (good-frame (steps-frame samples signals b n u) g))

  block_held : (start end : ℕ) (u : World) → u.state.program ≡ compiled w → Each Held (block_ticks w samples signals start end u)
  block_held start end u is =
      let b = block_of u.state start end in
      either Held (walks u samples signals start end) (chunk_ticks w samples signals b (chunk_total b) (drawn (loaded u)))
      (λ e. chunks-held b (chunk_total b) (drawn (loaded u)) (walks-good u samples signals start end is e))

-- ---- a block's list has each chunk that ticks

map-++ : {A B : Type 0} (f : A → B) (xs ys : List A) → map f (xs ++ ys) ≡ map f xs ++ map f ys
map-++ f [] ys = refl
map-++ f (x ∷ xs) ys = ap (λ (l : List _). f x ∷ l) (map-++ f xs ys)

up-last : (k n : ℕ) → up_from k (suc n) ≡ up_from k n ++ ((k + n) ∷ [])
up-last k zero = ap (λ (i : ℕ). i ∷ []) (omega arith)
up-last k (suc n) = ap (λ (l : List ℕ). k ∷ l) (up-last (suc k) n ∙ ap (λ (i : ℕ). up_from (suc k) n ++ (i ∷ [])) (omega arith))

++-right : {A : Type 0} (xs : List A) → xs ++ [] ≡ xs
++-right [] = refl
++-right (x ∷ xs) = ap (λ (l : List _). x ∷ l) (++-right xs)

++-assoc : {A : Type 0} (xs ys zs : List A) → (xs ++ ys) ++ zs ≡ xs ++ (ys ++ zs)
++-assoc [] ys zs = refl
++-assoc (x ∷ xs) ys zs = ap (λ (l : List _). x ∷ l) (++-assoc xs ys zs)

standings-++ : (xs ys : List Chunk) → standings (xs ++ ys) ≡ standings xs ++ standings ys
standings-++ [] ys = refl
standings-++ (c ∷ xs) ys = ap (◌++◌ (standing c)) (standings-++ xs ys) ∙ sym (++-assoc (standing c) (standings xs) (standings ys))

module _ (w : Wiring) (samples : List Float) (signals : Signals) where
  tick-due : (b : Block) (n : ℕ) (u : World) → map stands (tick_at w samples signals b n u) ≡ standing (chunk_of b n)
  tick-due b n u = by (chunk_of b n).tick
    where
      x : Moment
      x = record { wiring = w; state = u.state; env = env_of u samples signals (chunk_of b n) (snap_at n u); phase = (chunk_of b n).phase; values = u.values }

      by : (t : Bool) → map stands (cond t (x ∷ []) []) ≡ cond t (((chunk_of b n).start, (chunk_of b n).phase) ∷ []) []
      by true = refl
      by false = refl

  chunks-due : (b : Block) (n : ℕ) (u : World) → map stands (chunk_ticks w samples signals b n u) ≡ standings (map (chunk_of b) (up_from 0 n))
  unfolding chunk_ticks
  chunks-due b zero u = refl
  chunks-due b (suc n) u =
      map-++ stands (chunk_ticks w samples signals b n u) (tick_at w samples signals b n (chunk_steps samples signals b n u))
      ∙ ap₂ ◌++◌ (chunks-due b n u) (tick-due b n (chunk_steps samples signals b n u) ∙ sym (++-right (standing (chunk_of b n))))
      ∙ sym (standings-++ (map (chunk_of b) (up_from 0 n)) (chunk_of b n ∷ []))
      ∙ ap standings (sym (map-++ (chunk_of b) (up_from 0 n) (n ∷ [])))
      ∙ ap (λ (i : ℕ). standings (map (chunk_of b) (up_from 0 n ++ (i ∷ [])))) (let e : n ≡ 0 + n = omega arith in e)
      ∙ ap (λ (l : List ℕ). standings (map (chunk_of b) l)) (sym (up-last 0 n))

  block-due : (start end : ℕ) (u : World) → map stands (block_ticks w samples signals start end u)
      ≡ cond (walks u samples signals start end) (standings (chunk_list (block_of u.state start end))) []
  unfolding chunk_list
  block-due start end u = by (walks u samples signals start end)
    where
      b : Block
      b = block_of u.state start end

      by : (t : Bool) → map stands (cond t (chunk_ticks w samples signals b (chunk_total b) (drawn (loaded u))) [])
          ≡ cond t (standings (chunk_list b)) []
      by true = chunks-due b (chunk_total b) (drawn (loaded u))
      by false = refl

-- ---- calls

module _ (names : ℕ → Wiring) where
  does-there : (c : Call) (r : Runner) → Named names r → Does names c r (called c r)
  does-there (block samples signals start end) r h =
      let w = names r.installed in
      record {
        after = (process r.world samples signals start end).world;
        blocks = blocks-there w (there w (h.slotted r.installed)) (one w (h.slotted r.installed)) samples signals start end r.world h.installed;
        same = refl;
      }
  does-there (other o) r h = refl

  does-one : (c : Call) (r q : Runner) → Named names r → Does names c r q → q ≡ called c r
  does-one (block samples signals start end) r q h e =
      let w = names r.installed in
      e.same
      ∙ ap (on_world r)
      (blocks-one w (there w (h.slotted r.installed)) (one w (h.slotted r.installed)) samples signals start end r.world h.installed e.after e.blocks)
  does-one (other o) r q h e = e

  call-held : (c : Call) (r : Runner) → Named names r → Each Held (call_ticks names c r)
  call-held (block samples signals start end) r h =
      block_held (names r.installed) (h.slotted r.installed) samples signals start end r.world h.installed
  call-held (other o) r h = tt

  call-due : (c : Call) (r : Runner) → map stands (call_ticks names c r) ≡ call_due c r
  call-due (block samples signals start end) r = block-due (names r.installed) samples signals start end r.world
  call-due (other o) r = refl

  -- ---- lists of calls

  runs : (cs : List Call) (r : Runner) → Named names r → Models names cs r (run cs r)
  unfolding run
  runs [] r h = finish
  runs (c ∷ cs) r h = call (does-there c r h) (runs cs (called c r) (called-named names r h c))

  only : (cs : List Call) (r q : Runner) → Named names r → Models names cs r q → q ≡ run cs r
  unfolding run
  only [] r q h finish = refl
  only (c ∷ cs) r q h (call {x = x} does rest) =
      let e = does-one c r x h does in
      only cs (called c r) q (called-named names r h c) (subst (λ (y : Runner). Models names cs y q) e rest)

  ticks : (cs : List Call) (r : Runner) → Named names r → Each Held (ticks_of names cs r)
  ticks [] r h = tt
  ticks (c ∷ cs) r h = both Held (call_ticks names c r) (ticks_of names cs (called c r)) (call-held c r h) (ticks cs (called c r) (called-named names r h c))

  every : (cs : List Call) (r : Runner) → map stands (ticks_of names cs r) ≡ due cs r
  every [] r = refl
  every (c ∷ cs) r = map-++ stands (call_ticks names c r) (ticks_of names cs (called c r)) ∙ ap₂ ◌++◌ (call-due c r) (every cs (called c r))

-- THE CLAIM
pub the-claim : TheClaim
the-claim names cs r h =
    record { runs = runs names cs r h; only = λ q m. only names cs r q h m; every = every names cs r; ticks = ticks names cs r h }

-- and so of every fresh engine, with any programs compiled from matrices with all slots
pub fresh-claim : FromFresh
fresh-claim ss ds c ps s cs = the-claim (names_of c ps) cs (fresh_runner ss ds c ps) (fresh-named c ss ds ps s)

-- ---- what it rests on can be met

-- the program of every engine that is made is the one compiled from nothing
pub made-named : (ss : Sources) (ds : Destinations) (c : Config) (u : World) → (new_engine ss ds c u).code ≡ 0 → (new_engine ss ds c u).world.state.program ≡ compiled (nothing_wired c)
unfolding new_engine fresh_state put_bases put_globals put_held put_state
made-named ss ds c u e =
    ap (λ (x : World). x.state.program) (cond-true (eqb (judged (new_rows ss ds c u)) 0) (fresh_world ss ds c u) (put_state u refused_state) (eq-eqb (judged (new_rows ss ds c u)) 0 e))
    ∙ sym (empty-is-compiled _ _ c)

-- a program that compiling hands back is the one compiled from its wiring
pub compile-named : (w : Wiring) (tables : List Float) (l : Memories) → (compile w tables l).answer.code ≡ 0 → (compile w tables l).answer.program ≡ compiled w
unfolding compile
compile-named w tables l e = cond-true (eqb (judged (compile_rows w tables l)) 0) (compiled w) _ (eq-eqb (judged (compile_rows w tables l)) 0 e)

-- THE TEST DECIDES THE CHAIN
pub chain-tested : (w : Wiring) → (chainless w ≡ true) ↔ Unbarred w
unfolding chainless
chain-tested w = ordered-exactly (counted_into w) (controls w)

-- after any list of calls the claim is made again
pub claim-again : (names : ℕ → Wiring) (cs : List Call) (r : Runner) → Named names r → Named names (run cs r)
unfolding run
claim-again names [] r h = h
claim-again names (c ∷ cs) r h = claim-again names cs (called c r) (called-named names r h c)
