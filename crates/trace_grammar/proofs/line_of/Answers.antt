-- `trace_grammar::line_of` meets its contract. Assumes nothing.
use Prim.Native.Nat.{◌<◌}
use native.Mathlib.Omega.{arith}
use Rattle.trace_grammar.proofs.Laws.{line-blank, line-comment, line-unknown, line-call}
use borrow.Author.Rules.{rules}
use Rattle.trace_grammar.proofs.line_of.Goals as goal

pub returns-then-line-at : goal.returns-then-line-at
returns-then-line-at c = line-blank _ _ c.skip-at.ensures c.if-line-at.true

pub returns-then-line-at-eq35 : goal.returns-then-line-at-eq35
returns-then-line-at-eq35 c =
    line-comment _ _ c.skip-at.ensures c.if-line-at.false c.if-line-at-eq35.true

pub returns-then-row-ge39 : goal.returns-then-row-ge39
returns-then-row-ge39 c =
    line-unknown _ _ _ _ c.skip-at.ensures c.if-line-at.false c.if-line-at-eq35.false c.word_at.ensures c.command_row-row.ensures c.if-row-ge39.true

pub rest-requires : goal.rest-requires
rest-requires c =
    let on = c.next.ensures.onward c.if-line-at.false in
    (c.if-row-ge39.false, omega arith, c.next.ensures.within, c.next.ensures.begun)

pub returns : goal.returns
returns c =
    line-call _ _ _ _ _ _ c.skip-at.ensures c.if-line-at.false c.if-line-at-eq35.false c.word_at.ensures c.command_row-row.ensures c.if-row-ge39.false c.next.ensures c.rest.ensures
