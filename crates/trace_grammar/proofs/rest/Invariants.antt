-- `trace_grammar::rest` meets its contract. The loop's invariant: what the words from p on make of the line is what all of them do. Assumes nothing.
use mathlib.Core.Path.{◌≡◌, refl, ap, sym, ◌∙◌}
use mathlib.Core.Bool.{true, false}
use Prim.Native.Nat.{ℕ, ◌+◌, ◌-◌, ◌*◌, ◌<◌, ◌≤◌}
use native.Mathlib.Omega.{arith}
use borrow.Author.Tests.{not-true, not-false, lt-ltb, le-ltb, eq-eqb, ne_eqb}
use lib.ListN.{length, drop, get_or}
use Rattle.trace_input_session.specs.Lines.{is_blank, words_of}
use Rattle.trace_grammar.specs.Grammar.{rest_of, after_class}
use Rattle.trace_grammar.specs.Commands.{command_at}
use Rattle.trace_grammar.proofs.Laws.{rest-on, rest-wrong, rest-ends, inside}
use borrow.Author.Rules.{rules}
use Rattle.trace_grammar.proofs.rest.Given as goal

abbrev pub invariant-loop-p : goal.invariant-loop-p
invariant-loop-p l = (l.p ≤ length l.line) × (l.k ≤ l.p) × (l.p < length l.line → is_blank (get_or l.line l.p 0) ≡ false) × (rest_of l.s l.k (command_at l.row) (words_of (drop l.p l.line)) ≡ rest_of (7 * l.row) 1 (command_at l.row) (words_of (drop l.from l.line)))

abbrev pub decreases-loop-p : goal.decreases-loop-p
decreases-loop-p l = length l.line - l.p
