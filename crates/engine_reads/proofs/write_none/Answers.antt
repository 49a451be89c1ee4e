-- `engine_reads::write_none` meets its contract.
use mathlib.Core.Path.{sym, ap, ◌∙◌}
use lib.Ieee.{nan}
use lib.ListN.{length, replicate}
use Rattle.list.proofs.Filled.{fill-replicate}
use Rattle.engine_reads.proofs.write_none.Goals as goal

pub returns : goal.returns
returns c =
    let l = c.args.out.now in
    c.fill.ensures ∙ ap (replicate (length l)) c.not_a_number-none.ensures ∙ sym (fill-replicate l nan)
