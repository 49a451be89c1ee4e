-- `source_key::number_then` meets its contract. Assumes nothing.
use mathlib.Core.Path.{sym, ◌∙◌}
use Prim.Native.Nat.{◌<◌}
use native.Mathlib.Omega.{arith}
use lib.ListN.{length}
use borrow.Author.Tests.{le-leb, lt-leb}
use Rattle.source_key.proofs.Reading.{number-first, number-none}
use Rattle.source_key.proofs.number_then.Goals as goal

pub returns-then-rest-eq0 : goal.returns-then-rest-eq0
returns-then-rest-eq0 c = sym (number-none _ _ _ c.if-rest-eq0.true)

pub returns-then-first-lt49 : goal.returns-then-first-lt49
returns-then-first-lt49 c =
    let a = c.args in
    let some : 0 < length a.rest.now = omega arith in
    let first = number-first a.n a.after.now a.rest.now some in
    sym (first ∙ rw (lt-leb _ _ c.if-first-lt49.true))

pub returns-then-first-gt57 : goal.returns-then-first-gt57
returns-then-first-gt57 c =
    let a = c.args in
    let some : 0 < length a.rest.now = omega arith in
    let first = number-first a.n a.after.now a.rest.now some in
    sym (first ∙ rw (le-leb _ _ c.if-first-lt49.false, lt-leb _ _ c.if-first-gt57.true))

pub returns : goal.returns
returns c =
    let a = c.args in
    let some : 0 < length a.rest.now = omega arith in
    let first = number-first a.n a.after.now a.rest.now some in
    c.reads_on.ensures ∙ sym (first ∙ rw (le-leb _ _ c.if-first-lt49.false, le-leb _ _ c.if-first-gt57.false))
