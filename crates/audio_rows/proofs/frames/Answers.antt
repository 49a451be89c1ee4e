use borrow.Author.Rules.{rules}
use native.Mathlib.Omega.{arith}
use Rattle.audio_rows.specs.Rows.{sounds}
use Rattle.audio_rows.proofs.Jobs.{bounded_at}
use Rattle.audio_rows.proofs.Chunk.{frames-none, frames-more, frames-end}
use Rattle.audio_rows.proofs.frames.Goals as goal

pub loop-n-init : goal.loop-n-init
loop-n-init c = (search rules, search rules, search rules, λ st d o. frames-none st d _ o _ _ _ _ _ _ _, search rules, search rules)

pub frame-requires : goal.frame-requires
frame-requires c = (bounded_at c.args.job c.args.chunk c.loop-n.n c.job_at-here.ensures c.requires.0, c.loop-n.invariant.4)

pub loop-n-smaller : goal.loop-n-smaller
loop-n-smaller c = omega (arith, c.loop-n-test.true, c.requires.1)

pub loop-n-preserved : goal.loop-n-preserved
loop-n-preserved c = let l = c.loop-n in
    let a = c.args in (
      omega (arith, c.loop-n-test.true, c.requires.1),
      search rules,
      search rules,
      λ st d o.
          frames-more st d a.job o a.held.now a.globals.now a.bases.now a.tables.now a.samples.now a.chunk l.n c.row_at-start.result c.lane_count-width.result (sounds a.values.now a.audio.now) (sounds l.values l.audio) _
          c.job_at-here.ensures c.lane_count-width.ensures.0 c.row_at-start.ensures.0 (l.invariant.3 st d o) c.frame.ensures,
      search rules,
      search rules,
    )

pub returns : goal.returns
returns c = let l = c.loop-n in
    λ st d o. frames-end st d _ o _ _ _ _ _ _ l.n _ _ _ (l.invariant.3 st d o) (omega arith)
