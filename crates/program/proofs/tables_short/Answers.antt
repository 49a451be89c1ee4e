-- `program::tables_short` meets its contract.
use borrow.Author.Tests.{lt-ltb, le-ltb}
use Rattle.program.proofs.tables_short.Goals as goal

pub returns-then-not-named : goal.returns-then-not-named
returns-then-not-named c = simp (c.if-not-named.true)

pub returns-then-from-lt-TABLES : goal.returns-then-from-lt-TABLES
returns-then-from-lt-TABLES c = simp (c.if-not-named.false, lt-ltb _ _ c.if-from-lt-TABLES.true)

pub returns : goal.returns
returns c = simp (c.if-not-named.false, le-ltb _ _ c.if-from-lt-TABLES.false)
