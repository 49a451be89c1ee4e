-- `source::standard` meets its contract. It is refused by a row, or accepted since none applies. Assumes nothing.
use mathlib.Core.Path.{sym}
use Rattle.std.proofs.lemmas.Result.{err_from_is_err_and}
use Rattle.source.proofs.Accepted.{standard-refuses-by, standard-accepts}
use Rattle.source.proofs.standard.Goals as goal

pub returns-in_err-check_standard : goal.returns-in_err-check_standard
returns-in_err-check_standard c =
    let a = c.args in
    let p = err_from_is_err_and c.from_residual.result c.from_residual.ensures.1 in
    rw (p.1, p.2) (sym (standard-refuses-by a.counts a.keys.now a.lengths.now _ c.in_err-check_standard.ensures))

pub all_sources-requires : goal.all_sources-requires
all_sources-requires c = sym c.in_ok-check_standard.ensures

pub returns : goal.returns
returns c =
    let a = c.args in
    rw c.all_sources.ensures (sym (standard-accepts a.counts a.keys.now a.lengths.now (sym c.in_ok-check_standard.ensures)))
