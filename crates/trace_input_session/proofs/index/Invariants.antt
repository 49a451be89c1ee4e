-- `trace_input_session::index` meets its contract. The loop's invariant: the word is none of those passed. Assumes nothing.
use mathlib.Core.Path.{◌≡◌}
use mathlib.Core.Bool.{false}
use Prim.Native.Nat.{◌+◌, ◌-◌, ◌<◌, ◌≤◌}
use lib.ListN.{length, drop, get_or}
use Rattle.trace_input_session.specs.Lines.{is_blank, words_of, index_of}
use Rattle.trace_input_session.proofs.index.Given as goal

abbrev pub invariant-loop-p : goal.invariant-loop-p
invariant-loop-p l = (l.p ≤ length l.list) × (l.k ≤ l.p) × (l.p < length l.list → is_blank (get_or l.list l.p 0) ≡ false) × (l.k + index_of (words_of (drop l.p l.list)) l.w ≡ index_of (words_of l.list) l.w)

abbrev pub decreases-loop-p : goal.decreases-loop-p
decreases-loop-p l = length l.list - l.p
