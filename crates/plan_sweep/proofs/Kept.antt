-- What each route is swept by, as it is found route by route, and that it is what the model reads. Assumes nothing.
use mathlib.Core.Path.{◌≡◌, refl, sym, ap, ◌∙◌, subst}
use mathlib.Core.Bool.{Bool, true, false, ◌&&◌}
use mathlib.Core.Logic.{⊎_elim}
use mathlib.Core.List.{List}
use Prim.Native.Nat.{ℕ, zero, suc, ◌+◌, ◌-◌, ◌*◌, ◌/◌, ◌≤◌, ◌<◌}
use native.Mathlib.Nat.{eq-or-lt_of_le, le_of_suc-le-suc, eq-zero-or-pos, mul-le-mul_right}
use native.Mathlib.Decide.{dec_lt}
use native.Mathlib.Numerals.{add-one}
use native.Mathlib.Omega.{arith}
use borrow.Author.Tests.{lt-ltb, le-leb}
use lib.Dec.{leb, ltb}
use lib.ListN.{length, get_or, set, length-set, replicate}
use lib.Seq.{get_or-set_same, get_or-set_other}
use lib.Ieee.{Float, nan, eq, is_nan}
use lib.Ieee as I
use Rattle.config.specs.Sizes.{slots, most_sources}
use Rattle.number.specs.Number.{zero32, plus, times}
use Rattle.list.proofs.Rows.{row_inside}
use Rattle.state_filled.specs.Filled.{no_route}
use Rattle.state.specs.declared.Gains.{Gains}
use Rattle.state.specs.declared.Plan.{Plan}
use Rattle.state.specs.declared.Read.{Read}
use Rattle.state.specs.declared.Read.TheVariants as D
use Rattle.state.specs.declared.Route.{Route}
use Rattle.state.specs.declared.SignalPart.{SignalPart}
use Rattle.state.specs.declared.Signals.{Signals}
use Rattle.model.specs.Counts.{at}
use Rattle.model.specs.Env.{Env, Rows, no_part, part_of, part_stride, sample_in}
use Rattle.model.specs.Input.{read_in}
use Rattle.model.specs.Lanes.{in_span, sounding}
use Rattle.model.specs.RouteValue.{whole_row}
use Rattle.plan_sweep.specs.declared.Field.{Field}
use Rattle.plan_sweep.specs.Leads.{row_key, Moves, Lead, Led, leads_of, Leading, Blank, offset_sum, pass_of, Fielded}

-- ---- tests

pub never : {A : Type 0} → false ≡ true → A
never h = let z : ◌≡◌ {A = ℕ} 0 1 = cc in absurd (omega arith)

pub positive : (x : ℕ) → (x ≡ 0 → ⊥) → 0 < x
positive x h = ⊎_elim (λ (z : x ≡ 0). absurd (h z)) (λ (z : 0 < x). z) (eq-zero-or-pos x)

pub number_is : (x : Float) → eq x x ≡ true → is_nan x ≡ false
unfolding eq is_nan
number_is nan h = never h
number_is (I.inf s) h = refl
number_is (I.fin s m e) h = refl

-- ---- offsets

module _ (o : List Float) (first : ℕ) where
  pub offset-none : zero32 ≡ offset_sum o first 0
  unfolding offset_sum
  offset-none = refl

  pub offset-more : (j : ℕ) (a b : Float) → a ≡ offset_sum o first j → b ≡ at o (first + j) → plus a b ≡ offset_sum o first (j + 1)
  unfolding offset_sum
  offset-more j a b e h = rw (add-one, e, h)

  pub offset-end : (j k : ℕ) (a : Float) → a ≡ offset_sum o first j → j ≡ k → a ≡ offset_sum o first k
  offset-end j k a e h = e ∙ ap (offset_sum o first) h

-- what a plan is swept by, once its offsets are added
pub pass-is : (q : Field) (x : Plan) (base : Float) (bound : Bool) (o : List Float) (z : Float) → z ≡ offset_sum o x.first x.count
    → record { begun = plus base z; bound = bound; min = x.min; max = x.max; first = x.first; count = x.count; from = q.from; groups = q.groups; width = q.stride }
    ≡ pass_of q x base bound o
pass-is q x base bound o z e =
    ap (λ (y : Float). record { begun = plus base y; bound = bound; min = x.min; max = x.max; first = x.first; count = x.count; from = q.from; groups = q.groups; width = q.stride }) e

-- ---- a route

-- of route r: its source's part moves, and the numbers are as they are worked out
pub record Kept (r : Route) (parts : List SignalPart) (amount output : List Float) (stride end len s p : ℕ) (g o : Float) : Type 0 where
  pub simple : r.simple ≡ true
  pub source : row_key r.source.read < most_sources
  pub moves : Moves (get_or parts (row_key r.source.read) no_part) stride end len p
  pub start : s ≡ (get_or parts (row_key r.source.read) no_part).at
  pub gain : g ≡ times r.scale (times (at amount r.slot) (at output r.slot))
  pub offset : o ≡ times r.offset (times (at amount r.slot) (at output r.slot))

pub kept-is : (r : Route) (parts : List SignalPart) (amount output : List Float) (stride end len key k n p : ℕ) {q : SignalPart} {route : Route} → route ≡ r → q ≡ get_or parts k no_part
    → key ≡ row_key route.source.read → (key < most_sources → k ≡ key) → (route.slot < slots → n ≡ route.slot)
    → (0 < p → (route.simple ≡ true) × (key < most_sources) × (route.slot < slots) × Moves q stride end len p) → 0 < p
    → Kept r parts amount output stride end len q.at p (times route.scale (times (at amount n) (at output n))) (times route.offset (times (at amount n) (at output n)))
kept-is r parts amount output stride end len key k n p {q} {route} same from is near slot by some =
    let f = by some in
    let place : k ≡ row_key route.source.read = near f.1 ∙ is in
    let part : q ≡ get_or parts (row_key route.source.read) no_part = from ∙ ap (λ (i : ℕ). get_or parts i no_part) place in
    let level : times (at amount n) (at output n) ≡ times (at amount route.slot) (at output route.slot) =
    ap (λ (i : ℕ). times (at amount i) (at output i)) (slot f.2) in
    subst (λ (z : Route). Kept z parts amount output stride end len q.at p (times route.scale (times (at amount n) (at output n))) (times route.offset (times (at amount n) (at output n)))) same
    (record {
      simple = f.0;
      source = rw is at f.1;
      moves = subst (λ (z : SignalPart). Moves z stride end len p) part f.3;
      start = ap (λ (z : SignalPart). z.at) part;
      gain = ap (times route.scale) level;
      offset = ap (times route.offset) level;
    })

-- ---- all of them, one after the other

module _ (routes : List Route) (parts : List SignalPart) (amount output : List Float) (stride end len : ℕ) where
  abbrev pub KeptAll : List ℕ → List ℕ → List Float → List Float → ℕ → Type 0
  KeptAll s p g o n =
      (i : ℕ) → i < n → 0 < get_or p i 0 → Kept (get_or routes i no_route) parts amount output stride end len (get_or s i 0) (get_or p i 0) (at g i) (at o i)

  pub kept_more : (s p : List ℕ) (g o : List Float) (n a b : ℕ) (x y : Float) → n < length s → n < length p → n < length g → n < length o → KeptAll s p g o n
      → (0 < b → Kept (get_or routes n no_route) parts amount output stride end len a b x y) → KeptAll (set s n a) (set p n b) (set g n x) (set o n y) (n + 1)
  kept_more s p g o n a b x y ls lp lg lo all new i h k =
      ⊎_elim
      (λ (q : i ≡ n).
      let here : get_or (set p n b) i 0 ≡ b = rw q (get_or-set_same p n b 0 lp) in
      rw (q, get_or-set_same s n a 0 ls, get_or-set_same p n b 0 lp, get_or-set_same g n x nan lg, get_or-set_same o n y nan lo) (new (rw here at k)))
      (λ (q : i < n).
      let here : get_or (set p n b) i 0 ≡ get_or p i 0 = get_or-set_other p n i b 0 (λ z. omega arith) in
      rw (get_or-set_other s n i a 0 (λ z. omega arith), here, get_or-set_other g n i x nan (λ z. omega arith), get_or-set_other o n i y nan (λ z. omega arith))
      (all i q (rw here at k)))
      (eq-or-lt_of_le (le_of_suc-le-suc (omega arith)))

-- ---- what the model reads

rows_are : (t : Env) (z : Signals) (stride end len p : ℕ) (read : Read) → t.stride ≡ stride → t.signals ≡ z → t.up_to ≤ end → row_key read < most_sources
    → Moves (get_or z.part (row_key read) no_part) stride end len p → whole_row t read ≡ true
unfolding part_of
rows_are t z stride end len p (D.Signal src true) hs hz hu b m =
    let q : SignalPart = get_or z.part src no_part in
    let wide : stride ≤ part_stride q = subst (λ (n : ℕ). stride ≤ n) m.step m.wide in
    let all : end * part_stride q ≤ q.len = subst (λ (n : ℕ). end * n ≤ q.len) m.step m.part in
    let some : t.up_to * part_stride q ≤ q.len = omega (arith, all, mul-le-mul_right (part_stride q) hu) in
    rw (hz, hs, lt-ltb 0 q.len m.some, le-leb stride (part_stride q) wide, le-leb (t.up_to * part_stride q) q.len some)
rows_are t z stride end len p (D.Signal src false) hs hz hu b m = absurd (omega arith)
rows_are t z stride end len p (D.Held src voice) hs hz hu b m = absurd (omega arith)
rows_are t z stride end len p (D.Fed e voice) hs hz hu b m = absurd (omega arith)
rows_are t z stride end len p D.Constant hs hz hu b m = absurd (omega arith)
rows_are t z stride end len p D.RouteRandom hs hz hu b m = absurd (omega arith)

sample-is : (xs : List Float) (q : SignalPart) (stride end len p k l : ℕ) → Moves q stride end len p → k < end → l < stride → sample_in xs q k true l ≡ at xs (q.at + (k * p + l))
unfolding sample_in
sample-is xs q stride end len p k l m b h =
    let lane : l < part_stride q = omega (arith, m.wide, m.step) in
    let inside : k * p + l < q.len = omega (arith, row_inside p b, m.wide, m.part) in
    let there : k * part_stride q + l < q.len = subst (λ (n : ℕ). k * n + l < q.len) m.step inside in
    rw (lt-ltb l (part_stride q) lane, lt-ltb (k * part_stride q + l) q.len there) (ap (λ (n : ℕ). at xs (q.at + (k * n + l))) (sym m.step))

reads-are : (t : Env) (f : Rows) (u : Float) (l : ℕ) (z : Signals) (xs : List Float) (stride end len p : ℕ) (read : Read) → t.signals ≡ z → t.samples ≡ xs → t.frame < end → l < stride
    → row_key read < most_sources → Moves (get_or z.part (row_key read) no_part) stride end len p
    → read_in t f u l read ≡ at xs ((get_or z.part (row_key read) no_part).at + (t.frame * p + l))
unfolding part_of
reads-are t f u l z xs stride end len p (D.Signal src true) hz hx k h b m =
    rw (hz, hx) (sample-is xs (get_or z.part src no_part) stride end len p t.frame l m k h)
reads-are t f u l z xs stride end len p (D.Signal src false) hz hx k h b m = absurd (omega arith)
reads-are t f u l z xs stride end len p (D.Held src voice) hz hx k h b m = absurd (omega arith)
reads-are t f u l z xs stride end len p (D.Fed e voice) hz hx k h b m = absurd (omega arith)
reads-are t f u l z xs stride end len p D.Constant hz hx k h b m = absurd (omega arith)
reads-are t f u l z xs stride end len p D.RouteRandom hz hx k h b m = absurd (omega arith)

lead_is : (z : Signals) (v : Gains) (stride end : ℕ) (xs : List Float) (r : Route) (s p : ℕ) (g o : Float) → Kept r z.part v.amount v.output stride end (length xs) s p g o
    → Lead z v stride end xs r s p g o
lead_is z v stride end xs r s p g o k =
    record {
      simple = k.simple;
      rows = λ t hs hz hu. rows_are t z stride end (length xs) p r.source.read hs hz hu k.source k.moves;
      reads =
          λ t f u l hz hx b h.
          reads-are t f u l z xs stride end (length xs) p r.source.read hz hx b h k.source k.moves
          ∙ ap (λ (n : ℕ). at xs (n + (t.frame * p + l))) (sym k.start);
      wide = k.moves.wide;
      inside = omega (arith, k.start, k.moves.inside);
      gain = k.gain;
      offset = k.offset;
    }

pub led-all : (z : Signals) (v : Gains) (stride end : ℕ) (xs : List Float) (routes : List Route) (s p : List ℕ) (g o : List Float) (n : ℕ)
    → KeptAll routes z.part v.amount v.output stride end (length xs) s p g o n → Led z v stride end xs routes s p g o n
led-all z v stride end xs routes s p g o n all i b h =
    lead_is z v stride end xs (get_or routes i no_route) (get_or s i 0) (get_or p i 0) (at g i) (at o i) (all i b h)

-- the first n, where from the n-th on none is swept
pub led-whole : (z : Signals) (v : Gains) (stride end : ℕ) (xs : List Float) (routes : List Route) (s p : List ℕ) (g o : List Float) (n i : ℕ) → i ≡ n
    → Blank n s p g o → KeptAll routes z.part v.amount v.output stride end (length xs) s p g o i
    → Leading z v stride end xs routes (leads_of s p g o)
led-whole z v stride end xs routes s p g o n i e b all =
    let some : (k : ℕ) → 0 < get_or p k 0 → k < i =
    λ k h. elim (dec_lt k n) [ yes q ↦ omega arith | no q ↦ absurd (omega (arith, b.none k (omega arith))) ] in
    record {
      starts = b.starts;
      steps = b.steps;
      gains = b.gains;
      offsets = b.offsets;
      led = λ k c h. led-all z v stride end xs routes s p g o i all k (some k h) h;
    }

-- one number more of each list
pub blank-more : (s p : List ℕ) (g o : List Float) (n i a b : ℕ) (x y : Float) → i < n → Blank n s p g o → Blank n (set s i a) (set p i b) (set g i x) (set o i y)
blank-more s p g o n i a b x y h z =
    record {
      routes = z.routes;
      starts = simp length-set z.starts;
      steps = simp length-set z.steps;
      gains = simp length-set z.gains;
      offsets = simp length-set z.offsets;
      none = λ k q. get_or-set_other p i k b 0 (λ e. omega arith) ∙ z.none k q;
    }

-- lists of zeros
pub zeros : (n i : ℕ) → ◌≡◌ {A = ℕ} (get_or (replicate n 0) i 0) 0
zeros zero i = refl
zeros (suc n) zero = refl
zeros (suc n) (suc i) = zeros n i

-- up to an earlier frame
lead-sooner : (z : Signals) (v : Gains) (stride end sooner : ℕ) (xs : List Float) (r : Route) (s p : ℕ) (g o : Float) → sooner ≤ end → Lead z v stride end xs r s p g o → Lead z v stride sooner xs r s p g o
lead-sooner z v stride end sooner xs r s p g o h l =
    record {
      simple = l.simple;
      rows = λ t hs hz hu. l.rows t hs hz (omega arith);
      reads = λ t f u i hz hx b k. l.reads t f u i hz hx (omega arith) k;
      wide = l.wide;
      inside = omega (arith, l.inside, mul-le-mul_right p h);
      gain = l.gain;
      offset = l.offset;
    }

pub led-sooner : (z : Signals) (v : Gains) (stride end sooner : ℕ) (xs : List Float) (routes : List Route) (s p : List ℕ) (g o : List Float) (n : ℕ) → sooner ≤ end
    → Led z v stride end xs routes s p g o n → Led z v stride sooner xs routes s p g o n
led-sooner z v stride end sooner xs routes s p g o n h all i b k =
    lead-sooner z v stride end sooner xs (get_or routes i no_route) (get_or s i 0) (get_or p i 0) (at g i) (at o i) h (all i b k)

-- ---- the field

pub fielded : (active : List Bool) (n f : ℕ) (on sounds : Bool) (first end : ℕ) → first ≤ end → end ≤ n → (on ≡ true → (sounds ≡ true) × ((end - first) / 16 * 16 ≡ end - first))
    → ((t : Env) → t.voices.active ≡ active → t.stride ≡ n → sounds ≡ sounding t)
    → ((t : Env) → t.voices.active ≡ active → t.stride ≡ n → (l : ℕ) → l < n → in_span t l ≡ leb first l && ltb l end)
    → Fielded active n f (record { on = on; stride = n; frames = f; from = first; groups = (end - first) / 16 })
fielded active n f on sounds first end o e h s k =
    record {
      stride = refl;
      frames = refl;
      within = λ b. omega (arith, (h b).1);
      sounds = λ b t v w. sym (s t v w) ∙ (h b).0;
      span =
          λ b t v w l c.
          let whole : end ≡ first + (end - first) / 16 * 16 = omega (arith, (h b).1) in
          k t v w l c ∙ ap (λ (z : ℕ). leb first l && ltb l z) whole;
    }
