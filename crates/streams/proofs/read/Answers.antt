use Rattle.std.proofs.Common.{◌≡◌, ℕ, ◌+◌, ◌-◌, ◌≤◌, List, ◌++◌, length, take, drop, sym, ap, ◌∙◌, subst, rules, le_refl, drop_at, length-take-le}
use Rattle.std.proofs.Math.Seq.{take-add}
use Rattle.std.proofs.lemmas.List.{take-append-le}
use Rattle.std.proofs.lemmas.Slice.{take-put_mid_below}
use Rattle.std.specs.Io.KnownBytes.{Consumes}
use Rattle.std.proofs.KnownBytes.{Consumes-trans}
use borrow.Rule.Slice.PartMut.{put_mid, post_of}
use Rattle.streams.proofs.read.Goals as goal

joined : (a k n : ℕ) (s t : List ℕ) → a ≤ length s → n ≤ length t → take a s ++ take n t ≡ take (a + n) (put_mid a k s t)
joined a k n s t within fits =
    let rest = post_of a k s in
    let front : take a (put_mid a k s t) ≡ take a s = take-put_mid_below a k s t a (le_refl a) within in
    let back : drop a (put_mid a k s t) ≡ t ++ rest = drop_at (take a s) (t ++ rest) a (length-take-le a s within) in
    let part : take n (drop a (put_mid a k s t)) ≡ take n t = ap (take n) back ∙ take-append-le n t rest fits in
    ap (λ l. take a s ++ l) (sym part) ∙ ap (λ l. l ++ take n (drop a (put_mid a k s t))) (sym front) ∙ sym (take-add a n (put_mid a k s t))

pub loop-done-preserved : goal.loop-done-preserved
loop-done-preserved g c = record {
  as_long = search rules;
  in_range = search rules;
  consumed = subst (Consumes _ _) (joined c.loop-done.done (length c.loop-done.buffer - c.loop-done.done) c.given-n.result c.loop-done.buffer c.given-n.new.buffer c.loop-done.invariant.in_range c.given-n.ensures.within) (Consumes-trans _ _ _ _ _ c.loop-done.invariant.consumed c.given-n.ensures.known);
}
