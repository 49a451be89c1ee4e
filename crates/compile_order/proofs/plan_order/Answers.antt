-- The steps of `plan_order`, one after the other.
use mathlib.Core.Path.{◌≡◌, refl, ap, ◌∙◌}
use mathlib.Core.Bool.{false, true}
use mathlib.Core.List.{List, map}
use Prim.Native.Nat.{ℕ, ◌≤◌}
use native.Mathlib.Omega.{arith}
use lib.ListN.{length, get_or, take}
use Rattle.config.specs.Sizes.{slots}
use Rattle.list.specs.Padded.{padded}
use Rattle.list.proofs.Padded.{padded-take}
use Rattle.compile_order.specs.Marks.{rated_as, order_in}
use Rattle.compile_order.proofs.Marked.{all_marks, placed-is, fits}
use Rattle.compile_order.proofs.plan_order.Goals as goal

pub unwrap-requires : goal.unwrap-requires
unwrap-requires c =
    let us = c.args.used.now.items in
    let rs = c.args.readers.now in
    let few : length us ≤ slots = omega (arith, ap length c.deref.ensures.0, c.deref.ensures.1) in
    let list = c.rated-control.ensures ∙ ap (rated_as false) c.deref.ensures.0 in
    let marks = c.marks-feeds.ensures ∙ ap (all_marks rs) c.deref-2.ensures.0 in
    let o = c.plan_order-order in
    let at = c.at_places-out.ensures ∙ ap (λ (l : List ℕ). map (λ i. get_or l i 0) (take o.result.count o.result.place)) c.deref-3.ensures.0 in
    let front = placed-is us rs few _ _ _ _ o.result list marks c.len.ensures.value o.ensures at in
    let back = c.deref-5.ensures.0 ∙ c.rated.ensures ∙ ap (rated_as true) c.deref-4.ensures.0 in
    c.try_extend_from_slice.ensures.variant.1 (omega (arith, fits us rs few, ap length front, ap length back))

pub returns : goal.returns
unfolding order_in
returns c =
    let us = c.args.used.now.items in
    let rs = c.args.readers.now in
    let few : length us ≤ slots = omega (arith, ap length c.deref.ensures.0, c.deref.ensures.1) in
    let list = c.rated-control.ensures ∙ ap (rated_as false) c.deref.ensures.0 in
    let marks = c.marks-feeds.ensures ∙ ap (all_marks rs) c.deref-2.ensures.0 in
    let o = c.plan_order-order in
    let at = c.at_places-out.ensures ∙ ap (λ (l : List ℕ). map (λ i. get_or l i 0) (take o.result.count o.result.place)) c.deref-3.ensures.0 in
    let front = placed-is us rs few _ _ _ _ o.result list marks c.len.ensures.value o.ensures at in
    let back = c.deref-5.ensures.0 ∙ c.rated.ensures ∙ ap (rated_as true) c.deref-4.ensures.0 in
    let whole = (rw c.unwrap.ensures at c.try_extend_from_slice.ensures.ok) ∙ rw (front, back) refl in
    record {
      control = c.len-2.ensures.value ∙ ap length list;
      order = rw (c.len-3.ensures.value, c.padded.ensures) (padded-take slots 0 _) ∙ whole;
      count = c.len-3.ensures.value ∙ ap length whole;
      places = c.padded.ensures ∙ ap (padded slots 0) whole;
    }
