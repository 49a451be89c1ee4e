-- `engine_reads::write_row` meets its contract.
use mathlib.Core.Path.{ap, ◌∙◌}
use Prim.Native.Nat.{◌-◌}
use native.Mathlib.Omega.{arith}
use Rattle.list.specs.Part.{part, on_part}
use Rattle.list.proofs.Parts.{part_length}
use Rattle.engine_reads.proofs.Spots.{bounds}
use Rattle.engine_reads.proofs.Latests.{row_is}
use Rattle.engine_reads.proofs.write_row.Goals as goal

pub write_latest-requires : goal.write_latest-requires
write_latest-requires c =
    let a = c.args in
    let s = c.spot_of-spot in
    (bounds a.state a.dest s.result s.ensures, omega (arith, c.voice_count-count.ensures))

pub returns : goal.returns
unfolding part on_part
returns c =
    let a = c.args in
    let s = c.spot_of-spot in
    let m = a.out.now in
    ap (on_part m a.a a.e)
    (c.write_latest.ensures
    ∙ row_is a.state a.values.now a.audio.now a.dest s.result s.ensures (part m a.a a.e) (a.e - a.a) (part_length m a.a a.e c.requires.1) c.last_of-last.ensures c.voice_count-count.ensures)
