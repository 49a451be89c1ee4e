-- The sums route by route, by what the code finds. Assumes nothing.
use mathlib.Core.Path.{◌≡◌, refl, sym, ap, ◌∙◌, subst}
use mathlib.Core.Bool.{Bool, true, false, not, cond, ◌&&◌, ◌||◌}
use mathlib.Core.Logic.{⊎_elim}
use Prim.Native.Nat.{ℕ, zero, suc, ◌+◌, ◌<◌}
use native.Mathlib.Numerals.{add-one}
use native.Mathlib.Decide.{ℕ_discrete}
use native.Mathlib.Nat.{not-suc-le-zero}
use native.Mathlib.Omega.{arith}
use lib.Ieee.{Float}
use Rattle.std.specs.Prelude.{Option, None, Some}
use Rattle.number.specs.Number.{zero32, plus, times}
use Rattle.state.specs.declared.Gains.{Gains}
use Rattle.state.specs.declared.Route.{Route}
use Rattle.model.specs.Env.{Env, Rows, Own}
use Rattle.model.specs.Lanes.{in_group, lane_if, addend, sounding, in_span}
use Rattle.model.specs.Mix.{Mix}
use Rattle.model.specs.RouteValue.{raw_in, route_value, is_zero, idle, plain}
use Rattle.model.specs.Sums.{base_in, offset_step, offsets, some_plain, all_plain, has_plain, scaled_gain, plain_step, plains, add_lane, other_step, others, begun, tick_sum, audio_begun, audio_sum}
use Rattle.number.proofs.Laws.{no as never}
use Rattle.lane_input.proofs.Numbers.{which}
use Rattle.lane_input.proofs.Tests.{was-true, was-false}
use Rattle.plan_sum.specs.declared.Job.{Job}
use Rattle.plan_sum.specs.declared.Totals.{Totals}
use Rattle.plan_sum.specs.Job.{Bounded, lane_count, slot_gain, IsJob}
use Rattle.plan_sum.specs.Ground.{Totalled}

-- ---- offsets

offsets-none : (t : Env) (x : Mix) → zero32 ≡ offsets t x 0
unfolding offsets
offsets-none t x = refl

offsets-next : (t : Env) (x : Mix) (j : ℕ) {a b : Float} → a ≡ offsets t x j → b ≡ offset_step t x (x.route j) a → b ≡ offsets t x (j + 1)
unfolding offsets
offsets-next t x j e k = rw add-one (k ∙ ap (offset_step t x (x.route j)) e)

offset-none : (t : Env) (x : Mix) (r : Route) (a : Float) → plain t x.voice r ≡ false → a ≡ offset_step t x r a
offset-none t x r a e = rw e

offset-some : (t : Env) (x : Mix) (r : Route) (a : Float) {s : Gains} → plain t x.voice r ≡ true → t.gains ≡ s → plus a (times r.offset (slot_gain s r.slot)) ≡ offset_step t x r a
offset-some t x r a e q = rw (e, q)

-- ---- whether there is a plain route, and whether all are

or-true : (a : Bool) → a || true ≡ true
or-true true = refl
or-true false = refl

and-false : (a : Bool) → a && false ≡ false
and-false true = refl
and-false false = refl

some-none : (t : Env) (x : Mix) → some_plain t x 0 ≡ false
unfolding some_plain
some-none t x = refl

some-found : (t : Env) (x : Mix) (j k : ℕ) → j < k → plain t x.voice (x.route j) ≡ true → some_plain t x k ≡ true
unfolding some_plain
some-found t x j zero h e = absurd (not-suc-le-zero h)
some-found t x j (suc k) h e = elim (ℕ_discrete j k) [
  | yes q ↦
      let at : plain t x.voice (x.route k) ≡ true = rw (sym q) e in
      rw at (or-true (some_plain t x k))
  | no q ↦ rw (some-found t x j k (omega arith) e)
]

or-false : (a : Bool) → a ≡ a || false
or-false true = refl
or-false false = refl

some-kept : (t : Env) (x : Mix) (j : ℕ) → plain t x.voice (x.route j) ≡ false → some_plain t x j ≡ some_plain t x (j + 1)
unfolding some_plain
some-kept t x j e = rw add-one (rw e (or-false (some_plain t x j)))

all_none : (t : Env) (x : Mix) → all_plain t x 0 ≡ true
unfolding all_plain
all_none t x = refl

all-lost : (t : Env) (x : Mix) (j k : ℕ) → j < k → plain t x.voice (x.route j) ≡ false → all_plain t x k ≡ false
unfolding all_plain
all-lost t x j zero h e = absurd (not-suc-le-zero h)
all-lost t x j (suc k) h e = elim (ℕ_discrete j k) [
  | yes q ↦
      let at : plain t x.voice (x.route k) ≡ false = rw (sym q) e in
      rw at (and-false (all_plain t x k))
  | no q ↦ rw (all-lost t x j k (omega arith) e)
]

and-true : (a : Bool) → a ≡ a && true
and-true true = refl
and-true false = refl

all-kept : (t : Env) (x : Mix) (j : ℕ) → plain t x.voice (x.route j) ≡ true → all_plain t x j ≡ all_plain t x (j + 1)
unfolding all_plain
all-kept t x j e = rw add-one (rw e (and-true (all_plain t x j)))

-- ---- what the plain routes come to

pub totalled_none : (t : Env) (x : Mix) {z : Totals} → z.some ≡ false → z.all ≡ true → z.offset ≡ zero32 → Totalled t x 0 z
totalled_none t x e d o = record { some = e ∙ sym (some-none t x); all = d ∙ sym (all_none t x); offset = o ∙ offsets-none t x }

pub totalled-plain : (t : Env) (x : Mix) (j : ℕ) {r : Route} {z y : Totals} {s : Gains} → x.route j ≡ r → plain t x.voice r ≡ true → t.gains ≡ s → Totalled t x j z
    → y.some ≡ true → y.all ≡ z.all → y.offset ≡ plus z.offset (times r.offset (slot_gain s r.slot)) → Totalled t x (j + 1) y
totalled-plain t x j {r} {z} q p g k e d o =
    let here : plain t x.voice (x.route j) ≡ true = rw q p in
    record {
      some = e ∙ sym (some-found t x j (j + 1) (omega arith) here);
      all = d ∙ k.all ∙ all-kept t x j here;
      offset = offsets-next t x j k.offset (rw q (o ∙ offset-some t x r z.offset p g));
    }

pub totalled-other : (t : Env) (x : Mix) (j : ℕ) {r : Route} {z y : Totals} → x.route j ≡ r → plain t x.voice r ≡ false → Totalled t x j z
    → y.some ≡ z.some → y.all ≡ false → y.offset ≡ z.offset → Totalled t x (j + 1) y
totalled-other t x j {r} {z} q p k e d o =
    let here : plain t x.voice (x.route j) ≡ false = rw q p in
    record {
      some = e ∙ k.some ∙ some-kept t x j here;
      all = d ∙ sym (all-lost t x j (j + 1) (omega arith) here);
      offset = offsets-next t x j k.offset (rw q (o ∙ offset-none t x r z.offset p));
    }

-- ---- plain routes

cond_same : {A : Type 0} (b : Bool) (a : A) → a ≡ cond b a a
cond_same true a = refl
cond_same false a = refl

skips : (on off : Bool) (new a : Float) → off ≡ true → a ≡ cond (on && not off) new a
skips true off new a e = rw e
skips false off new a e = refl

scaled : (t : Env) (r : Route) {s : Gains} {g : Float} → t.gains ≡ s → g ≡ slot_gain s r.slot → scaled_gain t r ≡ times r.scale g
scaled t r q k = rw q (ap (times r.scale) (sym k))

-- a route that is not plain, and one whose factor is 0
pub plain-left : (t : Env) (f : Rows) (s : Own) (x : Mix) (j l : ℕ) (a : Float) {r : Route} {b : Bool} → x.route j ≡ r → b ≡ plain t x.voice r → not b ≡ true
    → a ≡ cond (in_span t l) (plain_step t f s x j l (x.route j) a) a
plain-left t f s x j l a q e h = rw (q, was-false e h) (cond_same (in_span t l) a)

zero-step : (t : Env) (f : Rows) (s : Own) (x : Mix) (j l : ℕ) (a : Float) (r : Route) {y : Float} → scaled_gain t r ≡ y → is_zero y ≡ true → a ≡ plain_step t f s x j l r a
zero-step t f s x j l a r e z = skips (plain t x.voice r) (is_zero (scaled_gain t r)) _ a (ap is_zero e ∙ z)

pub plain-zero : (t : Env) (f : Rows) (s : Own) (x : Mix) (j l : ℕ) (a : Float) {r : Route} {v : Gains} {g : Float} → x.route j ≡ r → t.gains ≡ v → g ≡ slot_gain v r.slot
    → is_zero (times r.scale g) ≡ true → a ≡ cond (in_span t l) (plain_step t f s x j l (x.route j) a) a
plain-zero t f s x j l a {r} q e k z =
    rw q (cond_same (in_span t l) a ∙ ap (λ (y : Float). cond (in_span t l) y a) (zero-step t f s x j l a r (scaled t r e k) z))

takes : (on off : Bool) (new a : Float) → on ≡ true → off ≡ false → new ≡ cond (on && not off) new a
takes on off new a e z = rw (e, z)

added-step : (t : Env) (f : Rows) (s : Own) (x : Mix) (j l : ℕ) (a : Float) (r : Route) {y : Float} → plain t x.voice r ≡ true → scaled_gain t r ≡ y → is_zero y ≡ false
    → plus a (times (raw_in t f s j l r) y) ≡ plain_step t f s x j l r a
added-step t f s x j l a r p e z =
    ap (λ (u : Float). plus a (times (raw_in t f s j l r) u)) (sym e) ∙ takes (plain t x.voice r) (is_zero (scaled_gain t r)) _ a p (ap is_zero e ∙ z)

pub plain-added : (t : Env) (f : Rows) (s s' : Own) (x : Mix) (j l : ℕ) (a : Float) {r : Route} {b : Bool} {v : Gains} {g u : Float} → x.route j ≡ r → b ≡ plain t x.voice r
    → not b ≡ false → t.gains ≡ v → g ≡ slot_gain v r.slot → is_zero (times r.scale g) ≡ false → raw_in t f s' j l r ≡ raw_in t f s j l r
    → u ≡ cond (in_span t l) (plus a (times (raw_in t f s' j l r) (times r.scale g))) a → u ≡ cond (in_span t l) (plain_step t f s x j l (x.route j) a) a
plain-added t f s s' x j l a {r} {g = g} q p h e k z same out =
    rw q
    (out
    ∙ ap (λ (y : Float). cond (in_span t l) (plus a (times y (times r.scale g))) a) same
    ∙ ap (λ (y : Float). cond (in_span t l) y a) (added-step t f s x j l a r (was-true p h) (scaled t r e k) z))

pub plains-none : (t : Env) (f : Rows) (s : Own) (x : Mix) (l : ℕ) → plus (base_in t x) (offsets t x x.count) ≡ plains t f s x l 0
unfolding plains
plains-none t f s x l = refl

plains-more : (t : Env) (f : Rows) (s : Own) (x : Mix) (l j : ℕ) → plain_step t f s x j l (x.route j) (plains t f s x l j) ≡ plains t f s x l (j + 1)
unfolding plains
plains-more t f s x l j = rw add-one

pub plains-next : (t : Env) (f : Rows) (s : Own) (x : Mix) (l j : ℕ) (span : Bool) (a v u : Float) → v ≡ cond span (plains t f s x l j) a
    → u ≡ cond span (plain_step t f s x j l (x.route j) v) v → u ≡ cond span (plains t f s x l (j + 1)) a
plains-next t f s x l j true a v u e k = k ∙ ap (plain_step t f s x j l (x.route j)) e ∙ plains-more t f s x l j
plains-next t f s x l j false a v u e k = k ∙ e

pub span-start : (span b : Bool) (a start : Float) {p v : Float} → v ≡ cond b start a → span ≡ b → start ≡ p → v ≡ cond span p a
span-start span b a start k d e = k ∙ ap (λ (z : Bool). cond z start a) (sym d) ∙ ap (λ (z : Float). cond span z a) e

-- in the span, by its lanes
pub in-span : (span b : Bool) (new a : Float) {v : Float} → span ≡ b → v ≡ cond b new a → v ≡ cond span new a
in-span span b new a e k = rw e k

-- what stands at the place is what is read
pub told : (b : Bool) (a raw z gain : Float) {v : Float} → raw ≡ z → v ≡ cond b (plus a (times z gain)) a → v ≡ cond b (plus a (times raw gain)) a
told b a raw z gain e k = rw e k

-- a destination that is not per voice has no plain route
none-plain : (t : Env) (x : Mix) (k : ℕ) → x.voice ≡ false → some_plain t x k ≡ false
unfolding some_plain plain
none-plain t x zero e = refl
none-plain t x (suc k) e = rw (none-plain t x k e, e)

-- nor has one without a simple route
not-simple : (t : Env) (v : Bool) (r : Route) → r.simple ≡ false → plain t v r ≡ false
unfolding plain
not-simple t true r e = rw e (and-false (sounding t))
not-simple t false r e = refl

none-simple : (t : Env) (x : Mix) (k : ℕ) → ((j : ℕ) → j < k → (x.route j).simple ≡ false) → some_plain t x k ≡ false
unfolding some_plain
none-simple t x zero h = refl
none-simple t x (suc k) h =
    rw (none-simple t x k (λ j b. h j (omega arith)))
    (not-simple t x.voice (x.route k) (h k (omega arith)))

pub bare_of : {t : Env} {x : Mix} {w : Job} → Bounded w → IsJob t x w → not w.simple ≡ true → has_plain t x ≡ false
bare_of {t} {x} {w} b k e =
    none-simple t x x.count
    (λ j h.
    let small : j < w.plan.count = subst (λ (n : ℕ). j < n) k.mix.count h in
    ap (λ (r : Route). r.simple) (k.mix.route j small) ∙ b.simple (was-false refl e) j small)

-- so that where there is one, the row has a lane for each voice
pub plain-wide : {t : Env} {x : Mix} {w : Job} (l : ℕ) → IsJob t x w → has_plain t x ≡ true → l < lane_count w → l < w.scene.stride
plain-wide {t} {x} {w} l k e h =
    ⊎_elim
    (λ (p : w.plan.voice ≡ true). rw p at h)
    (λ (p : w.plan.voice ≡ false). absurd (never (sym (none-plain t x x.count (k.mix.voice ∙ p)) ∙ e)))
    (which w.plan.voice)

-- ---- the others

pub other-plain : (t : Env) (f : Rows) (s : Own) (x : Mix) (j l : ℕ) (a : Float) {r : Route} {b : Bool} → x.route j ≡ r → b ≡ plain t x.voice r → b ≡ true
    → a ≡ other_step t f s x j l (x.route j) a
other-plain t f s x j l a q e h = rw (q, sym e ∙ h)

pub other-idle : (t : Env) (f : Rows) (s : Own) (x : Mix) (j l : ℕ) (a : Float) {r : Route} {b d : Bool} → x.route j ≡ r → b ≡ plain t x.voice r → b ≡ false
    → d ≡ idle t r → d ≡ true → a ≡ other_step t f s x j l (x.route j) a
other-idle t f s x j l a q e h i k = rw (q, sym e ∙ h, sym i ∙ k)

same-lane : (t : Env) (f : Rows) (s s' : Own) (j : ℕ) (r : Route) (a : Float) (z : Option ℕ) → ((l : ℕ) → route_value t f s' j l r ≡ route_value t f s j l r) → add_lane t f s' j r a z ≡ add_lane t f s j r a z
same-lane t f s s' j r a (Some l) e = ap (plus a) (e l)
same-lane t f s s' j r a None e = refl

left : (on off : Bool) (a new : Float) → on ≡ false → off ≡ false → new ≡ cond (on || off) a new
left on off a new e d = rw (e, d)

pub other-added : (t : Env) (f : Rows) (s s' : Own) (x : Mix) (j l : ℕ) (a : Float) {voice : Bool} {r : Route} {b d : Bool} {u : Float} → x.voice ≡ voice → x.route j ≡ r → b ≡ plain t x.voice r → b ≡ false
    → d ≡ idle t r → d ≡ false → ((k : ℕ) → route_value t f s' j k r ≡ route_value t f s j k r) → u ≡ add_lane t f s' j r a (addend t voice r.voice l)
    → u ≡ other_step t f s x j l (x.route j) a
other-added t f s s' x j l a {voice} {r} w q e h i k same out =
    rw q
    (out
    ∙ same-lane t f s s' j r a (addend t voice r.voice l) same
    ∙ ap (λ (z : Bool). add_lane t f s j r a (addend t z r.voice l)) (sym w)
    ∙ left (plain t x.voice r) (idle t r) a _ (sym e ∙ h) (sym i ∙ k))

lane-if : (t : Env) (f : Rows) (s : Own) (j : ℕ) (r : Route) (a : Float) (l : ℕ) (b : Bool) → cond b (plus a (route_value t f s j l r)) a ≡ add_lane t f s j r a (lane_if b l)
lane-if t f s j r a l true = refl
lane-if t f s j r a l false = refl

-- into a destination per voice: a route's own lane, or the only one
pub voice-own : (t : Env) (f : Rows) (s : Own) (j : ℕ) (r : Route) (l : ℕ) (a : Float) {g : Bool} {u : Float} → r.voice ≡ true → g ≡ in_group t l
    → u ≡ cond g (plus a (route_value t f s j l r)) a → u ≡ add_lane t f s j r a (addend t true r.voice l)
voice-own t f s j r l a e d k =
    k
    ∙ ap (λ (z : Bool). cond z (plus a (route_value t f s j l r)) a) d
    ∙ lane-if t f s j r a l (in_group t l)
    ∙ ap (λ (z : Bool). add_lane t f s j r a (addend t true z l)) (sym e)

pub voice-same : (t : Env) (f : Rows) (s : Own) (j : ℕ) (r : Route) (l : ℕ) (a : Float) {g : Bool} {u v : Float} → r.voice ≡ false → g ≡ in_group t l → v ≡ route_value t f s j 0 r
    → u ≡ cond g (plus a v) a → u ≡ add_lane t f s j r a (addend t true r.voice l)
voice-same t f s j r l a {g} e d x k =
    k
    ∙ ap (λ (z : Float). cond g (plus a z) a) x
    ∙ ap (λ (z : Bool). cond z (plus a (route_value t f s j 0 r)) a) d
    ∙ lane-if t f s j r a 0 (in_group t l)
    ∙ ap (λ (z : Bool). add_lane t f s j r a (addend t true z l)) (sym e)

pub others-none : (t : Env) (f : Rows) (s : Own) (x : Mix) (l : ℕ) (a : Float) → a ≡ others t f s x l a 0
unfolding others
others-none t f s x l a = refl

others-more : (t : Env) (f : Rows) (s : Own) (x : Mix) (l : ℕ) (a : Float) (j : ℕ) → other_step t f s x j l (x.route j) (others t f s x l a j) ≡ others t f s x l a (j + 1)
unfolding others
others-more t f s x l a j = rw add-one

pub others-next : (t : Env) (f : Rows) (s : Own) (x : Mix) (l j : ℕ) (a v u : Float) → v ≡ others t f s x l a j → u ≡ other_step t f s x j l (x.route j) v → u ≡ others t f s x l a (j + 1)
others-next t f s x l j a v u e k = k ∙ ap (other_step t f s x j l (x.route j)) e ∙ others-more t f s x l a j

-- ---- the sum

pub begun-bare : (t : Env) (f : Rows) (s : Own) (x : Mix) (l : ℕ) {b : Bool} {v base : Float} → b ≡ has_plain t x → not b ≡ true → v ≡ base → base ≡ base_in t x → v ≡ begun t f s x l
begun-bare t f s x l e h k q = rw (was-false e h) (k ∙ q)

-- over the base, audio begins as a tick does
over : (a b : Bool) (p o z : Float) → o ≡ z → cond a (cond b p o) z ≡ cond (a && b) p z
over true true p o z e = refl
over true false p o z e = e
over false b p o z e = refl

pub begun-over : (t : Env) (f : Rows) (s : Own) (x : Mix) (l : ℕ) {v old base : Float} → v ≡ audio_begun t f s x old l → old ≡ base → base ≡ base_in t x → v ≡ begun t f s x l
begun-over t f s x l {v} {old} k q p = k ∙ over (has_plain t x) (in_span t l) (plains t f s x l x.count) old (base_in t x) (q ∙ p)

pub audio-bare : (t : Env) (f : Rows) (s : Own) (x : Mix) (old : Float) (l : ℕ) {b : Bool} {v base : Float} → b ≡ has_plain t x → not b ≡ true → v ≡ base → base ≡ base_in t x
    → v ≡ audio_begun t f s x old l
audio-bare t f s x old l e h k q = rw (was-false e h) (k ∙ q)

pub audio-plain : (t : Env) (f : Rows) (s : Own) (x : Mix) (old : Float) (l : ℕ) {b : Bool} {v : Float} → b ≡ has_plain t x → not b ≡ false
    → v ≡ cond (in_span t l) (plains t f s x l x.count) old → v ≡ audio_begun t f s x old l
audio-plain t f s x old l e h k = rw (was-true e h) k

pub tick-of : (t : Env) (f : Rows) (s : Own) (x : Mix) (l : ℕ) {v a : Float} → v ≡ others t f s x l a x.count → a ≡ begun t f s x l → v ≡ tick_sum t f s x l
unfolding tick_sum
tick-of t f s x l k e = k ∙ ap (λ (z : Float). others t f s x l z x.count) e

pub audio-of : (t : Env) (f : Rows) (s : Own) (x : Mix) (old : Float) (l : ℕ) {v a : Float} → v ≡ others t f s x l a x.count → a ≡ audio_begun t f s x old l → v ≡ audio_sum t f s x old l
unfolding audio_sum
audio-of t f s x old l k e = k ∙ ap (λ (z : Float). others t f s x l z x.count) e
