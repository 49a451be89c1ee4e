use mathlib.Core.Path.{◌≡◌, refl, sym, ap, ◌∙◌}
use mathlib.Core.Bool.{Bool}
use mathlib.Core.List.{List}
use Prim.Native.Nat.{ℕ, ◌<◌}
use native.Mathlib.Omega.{arith}
use borrow.Author.Rules.{rules}
use lib.ListN.{length, get_or}
use Rattle.config.specs.Sizes.{most_sources}
use Rattle.source.specs.Keys.{key_is}
use Rattle.state.specs.declared.Sources.{Sources}
use Rattle.state.specs.Registry.{source_count}
use Rattle.source.specs.Registry.{registered}
use Rattle.source.proofs.Registry.{past_end, registered-length, registered-at, find-here, find-next, find_past}
use Rattle.source.proofs.find_key.Goals as goal

-- entry i of those that are registered, and whether it has the key
told : (s : Sources) (key : List ℕ) (i : ℕ) (t b : Bool) → length s.entry ≡ most_sources → i < source_count s → t ≡ key_is key (get_or s.entry i past_end) → t ≡ b
    → (i < length (registered s)) × (key_is key (get_or (registered s) i past_end) ≡ b)
told s key i t b long inside e h =
    (rw (registered-length s long) inside, ap (key_is key) (registered-at s i past_end past_end long inside) ∙ sym e ∙ h)

pub loop-i-init : goal.loop-i-init
loop-i-init c = (search rules, c.len-n.ensures, refl)

pub returns-then-key_is : goal.returns-then-key_is
returns-then-key_is c =
    let s = c.args.sources in
    let key = c.args.key.now in
    let long : length s.entry ≡ most_sources = omega arith in
    let t = told s key c.loop-i.i _ _ long (omega arith) c.key_is.ensures c.if-key_is.true in
    sym (c.loop-i.invariant.2 ∙ find-here key (registered s) c.loop-i.i past_end t.0 t.1)

pub loop-i-preserved : goal.loop-i-preserved
loop-i-preserved c =
    let s = c.args.sources in
    let key = c.args.key.now in
    let long : length s.entry ≡ most_sources = omega arith in
    let t = told s key c.loop-i.i _ _ long (omega arith) c.key_is.ensures c.if-key_is.false in
    (search rules, c.loop-i.invariant.1, c.loop-i.invariant.2 ∙ find-next key (registered s) c.loop-i.i past_end t.0 t.1)

pub returns : goal.returns
returns c =
    let s = c.args.sources in
    let key = c.args.key.now in
    let long : length s.entry ≡ most_sources = omega arith in
    sym (c.loop-i.invariant.2 ∙ find_past key (registered s) c.loop-i.i (omega (arith, registered-length s long)))
