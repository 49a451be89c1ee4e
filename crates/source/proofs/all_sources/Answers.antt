-- `source::all_sources` meets its contract. Assumes nothing.
use native.Mathlib.Omega.{arith}
use Rattle.source.specs.Standard.{all_sources}
use Rattle.source.proofs.Accepted.{standing}
use borrow.Author.Rules.{rules}
use Rattle.source.proofs.all_sources.Goals as goal

pub with_numbered-a-requires : goal.with_numbered-a-requires
with_numbered-a-requires c =
    let stand = standing _ _ _ c.requires in
    (omega arith, search rules)

pub with_lfos-requires : goal.with_lfos-requires
with_lfos-requires c =
    let stand = standing _ _ _ c.requires in
    omega arith

pub with_numbered-c-requires : goal.with_numbered-c-requires
with_numbered-c-requires c =
    let stand = standing _ _ _ c.requires in
    (omega arith, search rules)

pub with_audio-d-requires : goal.with_audio-d-requires
with_audio-d-requires c =
    let stand = standing _ _ _ c.requires in
    (stand.inside, stand.short)

pub with_sequence-f-requires : goal.with_sequence-f-requires
with_sequence-f-requires c =
    let stand = standing _ _ _ c.requires in
    omega arith

pub returns : goal.returns
unfolding all_sources
returns c =
    rw (
      c.with_usual.ensures,
      c.with_sequence-f.ensures,
      c.with_usual-e.ensures,
      c.with_audio-d.ensures,
      c.with_controllers.ensures,
      c.with_numbered-c.ensures,
      c.with_note_sources-b.ensures,
      c.with_lfos.ensures,
      c.with_numbered-a.ensures,
      c.new.ensures,
      c.new-held.ensures,
      c.new-signal.ensures,
    )
