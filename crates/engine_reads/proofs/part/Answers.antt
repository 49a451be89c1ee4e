-- `engine_reads::part` meets its contract.
use mathlib.Core.Path.{refl, sym}
use native.Mathlib.Omega.{arith}
use Rattle.list.specs.Part.{part}
use Rattle.engine_reads.proofs.Memory.{part-past, part_to_end}
use Rattle.engine_reads.proofs.part.Goals as goal

pub returns-then-len-a : goal.returns-then-len-a
returns-then-len-a c =
    let a = c.args in
    sym (part-past a.mem.now a.a a.n (omega arith))

pub returns-then-len-a-2 : goal.returns-then-len-a-2
returns-then-len-a-2 c =
    let a = c.args in
    sym (part_to_end a.mem.now a.a a.n (omega arith))

pub returns : goal.returns
unfolding part
returns c = refl
