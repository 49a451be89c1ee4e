use mathlib.Core.Path.{◌∙◌}
use Prim.Native.Nat.{◌<◌}
use native.Mathlib.Omega.{arith}
use Rattle.model.specs.Chunks.{chunk_total}
use Rattle.block.proofs.Blocks.{steps-more, steps_all}
use Rattle.block.proofs.Moves.{chunk-within, chunk-ready, glides-fit, steps-begin, moved-world, only_step}
use borrow.Author.Rules.{rules}
use Rattle.block.proofs.swept_steps.Goals as goal

pub loop-i-init : goal.loop-i-init
loop-i-init c = (search rules, search rules, search rules, λ signals v t p. steps-begin _ _ _ _ _ _ _ _ _ _ _ c.moving_of-moving.ensures)

pub of-c-requires : goal.of-c-requires
of-c-requires c = omega (arith, c.total-n.ensures, c.loop-i-test.true)

pub sweep_all-requires : goal.sweep_all-requires
sweep_all-requires c =
    let l = c.loop-i in
    (chunk-ready c.args.block l.i _ _ c.args.sweeping c.args.samples.now c.of-c.ensures (omega (arith, c.total-n.ensures, c.loop-i-test.true)) c.requires.1 l.invariant.2 c.requires.2, c.requires.3)

pub glide-after-requires : goal.glide-after-requires
glide-after-requires c =
    let l = c.loop-i in
    glides-fit c.args.state _ _ c.glides_of-glides.ensures (omega (arith, l.invariant.1, c.requires.0))

pub loop-i-preserved : goal.loop-i-preserved
loop-i-preserved c =
    let a = c.args in
    let l = c.loop-i in
    let k = c.glide-after.ensures in
    let of = c.of-c.ensures in
    let near : l.i < chunk_total a.block = omega (arith, c.total-n.ensures, c.loop-i-test.true) in (
      omega (arith, c.loop-i-test.true),
      search rules,
      search rules,
      λ signals v t p.
          steps-more a.samples.now signals a.block _ l.i _ _ _ (l.invariant.3 signals v t p) of
          (only_step a.state _ _ signals a.samples.now _ a.globals.now a.bases.now v _ t (p.1.control ∙ c.requires.3.control) l.i a.block a.sweeping _ _ _ _
          (chunk-within a.block l.i of near c.requires.1) p c.sweep_all.ensures c.glides_of-glides.ensures k.0 k.1),
    )

pub returns : goal.returns
returns c =
    let l = c.loop-i in
    λ signals v t p.
    moved-world _ _ _ _ _ _ v _ t _ c.moved.ensures
    (steps_all _ signals _ _ l.i _ _ (l.invariant.3 signals v t p) (omega arith) c.total-n.ensures)
