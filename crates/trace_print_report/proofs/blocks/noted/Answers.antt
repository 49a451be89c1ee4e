-- `trace_print_report::blocks::noted` meets its contract. Assumes nothing.
use mathlib.Core.Path.{◌≡◌, sym}
use native.Mathlib.Omega.{arith}
use lib.ListN.{length}
use lib.Seq.{set_out}
use borrow.Author.Rules.{rules}
use Rattle.trace_print_report.proofs.blocks.noted.Goals as goal

pub returns-else-i-lt-CHUNKS : goal.returns-else-i-lt-CHUNKS
returns-else-i-lt-CHUNKS c =
    let a = c.args in
    let long : length a.chunks ≡ 130 = search rules in
    sym (set_out a.chunks a.i a.c (omega (arith, long, c.if-i-lt-CHUNKS.false)))
