-- What stands in a lane, by what the code finds. Assumes nothing.
use mathlib.Core.Path.{◌≡◌, refl, sym, ap, ap₂, ◌∙◌}
use mathlib.Core.Bool.{Bool, true, false, cond}
use mathlib.Core.List.{List}
use Prim.Native.Nat.{ℕ, ◌+◌, ◌*◌, ◌<◌}
use native.Mathlib.Omega.{arith}
use borrow.Author.Tests.{lt-ltb}
use lib.Ieee.{Float}
use Rattle.number.specs.Number.{plus, less, times, nearest32}
use Rattle.list.specs.Rows.{row_at}
use Rattle.curve_table.specs.Table.{points, position, cell_at, between, lookup_of}
use Rattle.state.specs.declared.Input.{Input}
use Rattle.state.specs.declared.Read.{Read}
use Rattle.state.specs.declared.Read.TheVariants as D
use Rattle.state.specs.declared.Route.{Route}
use Rattle.state.specs.declared.SignalPart.{SignalPart}
use Rattle.model.specs.Counts.{at}
use Rattle.model.specs.Env.{Env, Rows, Own, sample_in, live_amount_of, live_output_of}
use Rattle.model.specs.Input.{input_in, fed_at}
use Rattle.model.specs.Lanes.{snap_of}
use Rattle.model.specs.Layout.{plan_to}
use Rattle.model.specs.RouteValue.{own_at, spread, aux_in, gain_in, gained}
use Rattle.lane_input.specs.declared.Point.{Point}
use Rattle.lane_input.specs.Reads.{IsRows}
use Rattle.lane_input.proofs.Rows.{looked-up}
use Rattle.lane.specs.declared.View.{View}
use Rattle.lanes16.specs.Told.{read_at, Told}

-- ---- a number at a place

pub told_at : (m : List Float) (start a b l : ℕ) {x y : Float} → start ≡ a → x ≡ at m (start + b + l) → y ≡ at m (a + (b + l)) → x ≡ y
told_at m start a b l e p q =
    let same : start + b + l ≡ a + (b + l) = omega arith in
    p ∙ ap (at m) same ∙ sym q

module _ {t : Env} {f : Rows} {s : Own} {j : ℕ} {v : View} {d : Read} {p : SignalPart} {h g i m : List Float} (see : Told t f s j v d p h g i m) (position l : ℕ) where
  pub read_held : (src : ℕ) {voice : Bool} → d ≡ D.Held src voice → voice ≡ true → read_at t f s j position d l ≡ at h (src * v.point.stride + l)
  read_held src q e = rw (q, e, see.reads.held, see.reads.stride)

  pub read-fed : (e : ℕ) {voice : Bool} → d ≡ D.Fed e voice → voice ≡ true → l < v.point.stride
      → read_at t f s j position d l ≡ at m (plan_to v.point.stride v.point.chunks e + l)
  read-fed e q k b = rw (q, k, see.reads.stride, lt-ltb l v.point.stride b) (see.reads.rows e l)

  pub read-own : (a : ℕ) → a ≡ v.own + (2 + position) * v.point.stride → d ≡ D.RouteRandom → l < v.point.stride → read_at t f s j position d l ≡ at m (a + l)
  read-own a n q b = rw (q, see.reads.stride, lt-ltb l v.point.stride b, n) (see.own (2 + position) l)

  pub read-signal : (src : ℕ) {voice : Bool} → d ≡ D.Signal src voice → voice ≡ true → read_at t f s j position d l ≡ sample_in i p v.point.frame true l
  read-signal src q e = rw (q, e, see.reads.samples, see.reads.frame, rw q at see.part)

-- a lane of a plan's row
pub fed-told : (t : Env) (f : Rows) (p : Point) (m : List Float) (e lane l start : ℕ) {voice : Bool} {x : Float} → t.stride ≡ p.stride → IsRows f p m → voice ≡ true → lane + l < p.stride
    → start ≡ plan_to p.stride p.chunks e → x ≡ at m (start + lane + l) → x ≡ fed_at t f e voice (lane + l)
fed-told t f p m e lane l start w k v b n q =
    rw (v, w, lt-ltb (lane + l) p.stride b) (told_at m start (plan_to p.stride p.chunks e) lane l n q (k e (lane + l)))

-- ---- a table

pub look_is : (m : List Float) (place start : ℕ) (u p r : Float) → start ≡ place * points → p ≡ position u
    → r ≡ between (at m (start + cell_at p)) (at m (start + (cell_at p + 1))) (less p (nearest32 (cell_at p))) → r ≡ lookup_of (row_at m points place) u
look_is m place start u p r n e k =
    k ∙ looked-up m place (cell_at p) u p (at m (start + cell_at p)) (at m (start + (cell_at p + 1))) e refl
    (ap (λ (z : ℕ). at m (z + cell_at p)) n) (ap (λ (z : ℕ). at m (z + (cell_at p + 1))) n)

-- ---- source and aux

pub snap-to : (t : Env) (f : Rows) (slot position : ℕ) (prev random : Float) (lane : ℕ) (i : Input) {x z r : Float} → r ≡ input_in t f slot position x prev random lane i → x ≡ z
    → r ≡ input_in t f slot position z prev random lane i
snap-to t f slot position prev random lane i e n = e ∙ ap (λ (z : Float). input_in t f slot position z prev random lane i) n

pub aux-is : (t : Env) (f : Rows) (s : Own) (j : ℕ) (r : Route) (i : Input) (lane : ℕ) {slot : ℕ} {x y : Float} → r.slot ≡ slot
    → x ≡ input_in t f slot 1 y (own_at t s j 1 lane) (own_at t s j 3 lane) lane i → y ≡ snap_of t r.voice lane → x ≡ aux_in t f s j lane r i
aux-is t f s j r i lane {slot} k e n =
    snap-to t f slot 1 (own_at t s j 1 lane) (own_at t s j 3 lane) lane i e n
    ∙ ap (λ (z : ℕ). input_in t f z 1 (snap_of t r.voice lane) (own_at t s j 1 lane) (own_at t s j 3 lane) lane i) (sym k)

pub sourced-raw : {b : Bool} (scale offset raw src z : Float) {x y : Float} → b ≡ true → y ≡ cond b raw src → x ≡ plus (times y scale) offset
    → x ≡ cond b (plus (times raw scale) offset) z
sourced-raw scale offset raw src z e k m = rw e (m ∙ ap (λ (u : Float). plus (times u scale) offset) (rw e at k))

pub sourced-spread : {b : Bool} (bipolar : Bool) (raw src z : Float) {x y : Float} → b ≡ false → y ≡ cond b raw src → x ≡ spread bipolar y → x ≡ cond b z (spread bipolar src)
sourced-spread bipolar raw src z e k m = rw e (m ∙ ap (spread bipolar) (rw e at k))

pub gained-of : (t : Env) (f : Rows) (lane : ℕ) (r : Route) {va vb a b : Float} → live_amount_of t r.slot ≡ va → live_output_of t r.slot ≡ vb → a ≡ gain_in t f lane va r.amount
    → b ≡ gain_in t f lane vb r.output → times a b ≡ gained t f lane r
gained-of t f lane r p q h k =
    ap₂ times (h ∙ ap (λ (z : Float). gain_in t f lane z r.amount) (sym p)) (k ∙ ap (λ (z : Float). gain_in t f lane z r.output) (sym q))
