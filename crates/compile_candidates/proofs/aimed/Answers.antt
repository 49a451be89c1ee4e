-- `compile_candidates::aimed` meets its contract.
use Rattle.compile_candidates.proofs.aimed.Goals as goal

pub returns-then-bypass : goal.returns-then-bypass
returns-then-bypass c = rw (c.in-Some.is, c.if-bypass.true)

pub returns-else-bypass : goal.returns-else-bypass
returns-else-bypass c = rw (c.in-Some.is, c.if-bypass.false) c.look.ensures
