-- `program::copy_tables` meets its contract.
use mathlib.Core.Path.{◌∙◌}
use borrow.Author.Tests.{lt-ltb, le-ltb}
use Rattle.program.specs.Steps.{copied}
use Rattle.program.proofs.copy_tables.Goals as goal

pub returns-then-not-named : goal.returns-then-not-named
unfolding copied
returns-then-not-named c = simp (c.if-not-named.true)

pub returns-then-tables-lt-TABLES : goal.returns-then-tables-lt-TABLES
unfolding copied
returns-then-tables-lt-TABLES c = simp (c.if-not-named.false, lt-ltb _ _ c.if-tables-lt-TABLES.true)

pub returns-then-from-lt-TABLES : goal.returns-then-from-lt-TABLES
unfolding copied
returns-then-from-lt-TABLES c = simp (c.if-not-named.false, le-ltb _ _ c.if-tables-lt-TABLES.false, lt-ltb _ _ c.if-from-lt-TABLES.true)

pub returns : goal.returns
unfolding copied
returns c =
    c.write_tables.ensures ∙ simp (c.if-not-named.false, le-ltb _ _ c.if-tables-lt-TABLES.false, le-ltb _ _ c.if-from-lt-TABLES.false)
