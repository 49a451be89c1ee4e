-- `program::empty` meets its contract.
use Rattle.std.proofs.lemmas.Result.{err_from_is_err_and}
use Rattle.model.specs.Compile.{empty_program}
use Rattle.program.proofs.Compiling.{answered-refused, answered-accepted}
use Rattle.program.proofs.empty.Goals as goal

pub returns-in_err-check : goal.returns-in_err-check
unfolding empty_program
returns-in_err-check c =
    let p = err_from_is_err_and c.from_residual.result c.from_residual.ensures.1 in
    rw (p.1, p.2) (answered-refused _ _ _ c.in_err-check.ensures)

pub returns : goal.returns
unfolding empty_program
returns c = rw c.empty_of.ensures (answered-accepted _ _ c.in_ok-check.ensures)
