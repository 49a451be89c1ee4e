use mathlib.Core.Path.{◌≡◌, ◌∙◌, sym}
use mathlib.Core.Logic.{inl, inr, ⊎_elim}
use Prim.Native.Nat.{◌+◌, ◌-◌}
use native.Mathlib.Omega.{arith}
use lib.ListN.{length}
use lib.Ieee.{nan}
use Rattle.list.specs.Part.{part}
use Rattle.list.proofs.Elements.{get_or-inside}
use Rattle.list.proofs.Parts.{part_length, part_at}
use Rattle.list.proofs.FilledPart.{filled-part-none, filled-part-outside, filled-part-more, filled-part-is}
use borrow.Author.Rules.{rules}
use Rattle.list.proofs.copy_within.Goals as goal

pub loop-i-init : goal.loop-i-init
loop-i-init c = (search rules, filled-part-none _ _ _ _ (omega arith) (omega arith))

pub loop-i-preserved : goal.loop-i-preserved
loop-i-preserved c =
    let l = c.loop-i in (
      omega arith,
      filled-part-more l.invariant.1 (omega arith)
          (filled-part-outside l.invariant.1 (c.args.from + l.i) nan (⊎_elim (λ q. inl (omega arith)) (λ q. inr (omega arith)) c.requires.2)),
    )

pub returns : goal.returns
returns c =
    let a = c.args in
    let m = a.mem.now in
    let e = a.from + a.n in
    let l : length (part m a.from e) ≡ a.to + a.n - a.to = omega (arith, part_length m a.from e (omega arith)) in
    filled-part-is c.loop-i.invariant.1 (omega arith) (part m a.from e) l (λ k d b.
    get_or-inside m (a.from + k) nan d (omega arith) ∙ sym (part_at m a.from e k d (omega arith)))
