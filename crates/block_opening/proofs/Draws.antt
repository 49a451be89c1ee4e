-- The draws of a block, over the parts of a state and one at a time. Assumes nothing.
use Rattle.std.specs.Prelude.{Option, Some, None}
use mathlib.Core.Path.{◌≡◌, refl, ap, ◌∙◌}
use mathlib.Core.Bool.{Bool, true, false, cond}
use mathlib.Core.List.{List}
use Prim.Native.Nat.{ℕ, zero, suc, ◌+◌, ◌*◌, ◌≤◌, ◌<◌}
use native.Mathlib.Numerals.{add-one}
use native.Mathlib.Omega.{arith}
use lib.ListN.{length, get_or, set}
use lib.Seq.{set-get_or}
use lib.Ieee.{Float, nan}
use Rattle.draw.specs.Xorshift.{step, draw_of}
use Rattle.state.specs.declared.Read.{Read}
use Rattle.state.specs.declared.Read.TheVariants as D
use Rattle.state.specs.declared.Input.{Input}
use Rattle.state.specs.declared.Route.{Route}
use Rattle.state.specs.declared.State.{State}
use Rattle.state_filled.specs.Filled.{no_route}
use Rattle.list.proofs.Elements.{get_or-inside}
use Rattle.model.specs.Counts.{voice_count, stride_of, chunks_most, plan_total, route_at}
use Rattle.model.specs.Need.{values_rows}
use Rattle.model.specs.Layout.{Sizes, of_route, random, route_random}
use Rattle.model.proofs.LayoutHolds.{parts-inside}
use Rattle.model.specs.Process.{Drawn, draw_voices, random_start, draw_read, draw_aux, draw_routes}
use Rattle.block_opening.specs.Draws.{draw_after, drawn_voices, drawn_read, drawn_aux, drawn_route, drawn_routes}

abbrev pub drawn_of : ℕ → List Float → Drawn
drawn_of x m = record { draw = x; values = m }

-- ---- of a state

pub voices-of-state : (st : State) (a n : ℕ) (d : Drawn) → drawn_voices st.marks.renoted a n d ≡ draw_voices st a n d
unfolding drawn_voices draw_voices
voices-of-state st a zero d = refl
voices-of-state st a (suc n) d = rw (voices-of-state st a n d)

read-of-state : (st : State) (r p : ℕ) (read : Read) (d : Drawn)
    → drawn_read st.marks.renoted (voice_count st) (random_start st r p) read d ≡ draw_read st r p read d
unfolding drawn_read
read-of-state st r p (D.Signal i v) d = refl
read-of-state st r p (D.Held i v) d = refl
read-of-state st r p (D.Fed e v) d = refl
read-of-state st r p D.Constant d = refl
read-of-state st r p D.RouteRandom d = voices-of-state st (random_start st r p) (voice_count st) d

aux-of-state : (st : State) (r : ℕ) (aux : Option Input) (d : Drawn)
    → drawn_aux st.marks.renoted (voice_count st) (random_start st r 1) aux d ≡ draw_aux st r aux d
unfolding drawn_aux
aux-of-state st r None d = refl
aux-of-state st r (Some i) d = read-of-state st r 1 i.read d

pub routes-of-state : (st : State) (k : ℕ) (d : Drawn)
    → drawn_routes st.marks.renoted (voice_count st) (stride_of st) (chunks_most st) (plan_total st.program) st.program.route k d
    ≡ draw_routes st k d
unfolding drawn_routes drawn_route draw_routes route_at
routes-of-state st zero d = refl
routes-of-state st (suc k) d =
    let x = route_at st k in
    ap (drawn_route st.marks.renoted (voice_count st) (stride_of st) (chunks_most st) (plan_total st.program) k x) (routes-of-state st k d)
    ∙ aux-of-state st k x.aux (drawn_read st.marks.renoted (voice_count st) (random_start st k 0) x.source.read (draw_routes st k d))
    ∙ ap (draw_aux st k x.aux) (read-of-state st k 0 x.source.read (draw_routes st k d))

-- ---- the turn of a voice

drawn-turn : (on : Bool) (last : ℕ) (m : List Float) (k next : ℕ) (x : Float) → next ≡ draw_after on last → x ≡ cond on (draw_of next) (get_or m k nan)
    → drawn_of next (set m k x) ≡ cond on (drawn_of (step last) (set m k (draw_of (step last)))) (drawn_of last m)
drawn-turn true last m k next x e w = rw (w, e)
drawn-turn false last m k next x e w = rw (w, e, set-get_or)

pub drawn-none : (renoted : List Bool) (a : ℕ) (d : Drawn) → drawn_voices renoted a 0 d ≡ d
unfolding drawn_voices
drawn-none renoted a d = refl

pub drawn-more : (renoted : List Bool) (a : ℕ) (d : Drawn) (last : ℕ) (m : List Float) (v k next : ℕ) (x : Float)
    → drawn_of last m ≡ drawn_voices renoted a v d → k ≡ a + v → next ≡ draw_after (get_or renoted v false) last
    → x ≡ cond (get_or renoted v false) (draw_of next) (get_or m k nan) → drawn_of next (set m k x) ≡ drawn_voices renoted a (v + 1) d
unfolding drawn_voices
drawn-more renoted a d last m v k next x h f e w =
    let on = get_or renoted v false in
    drawn-turn on last m k next x e w
    ∙ ap (λ (b : Drawn). cond on (drawn_of (step b.draw) (set b.values k (draw_of (step b.draw)))) b) h
    ∙ rw (add-one, f)

-- ---- the turn of a route

pub routes-none : (renoted : List Bool) (n s c p : ℕ) (route : List Route) (d : Drawn) → drawn_routes renoted n s c p route 0 d ≡ d
unfolding drawn_routes
routes-none renoted n s c p route d = refl

pub routes-more : (renoted : List Bool) (n s c p : ℕ) (route : List Route) (d before after : Drawn) (r at : ℕ) (z : Route)
    → before ≡ drawn_routes renoted n s c p route r d → at ≡ route_random s c p r 0 → r < length route
    → after ≡ drawn_aux renoted n (at + s) (get_or route r z).aux (drawn_read renoted n at (get_or route r z).source.read before)
    → after ≡ drawn_routes renoted n s c p route (r + 1) d
unfolding drawn_routes drawn_route
routes-more renoted n s c p route d before after r at z h f b w =
    let second : at + s ≡ route_random s c p r 1 = omega arith in
    w ∙ rw (add-one, second, f, h, get_or-inside route r z no_route)

-- the two rows of a route's random numbers lie inside
pub randoms-inside : (s c p k : ℕ) {r n : ℕ} → 1 ≤ s → r < k → s * values_rows c p k ≤ n → route_random s c p r 0 + s + s ≤ n
randoms-inside s c p k {r} h b t =
    let z : Sizes = record { stride = s; chunks = c; frames = 0; plans = p; routes = k; voice = λ i. false } in
    let inside : route_random s c p r 1 + s ≤ s * values_rows c p k = parts-inside z h (of_route r (random 1)) (b, omega arith) in
    omega arith
