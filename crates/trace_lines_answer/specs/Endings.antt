-- How a session ends (docs/SESSIONS.md, How a trace ends). Definitions only.
use Rattle.std.specs.Prelude.{◌≡◌, ℕ, Bool, true, false, cond, List, ◌==◌, refl, Option, None, Some}
use Rattle.refusal.specs.declared.Refusal.TheVariants as R
use Rattle.trace_stops.specs.declared.Stop.{Stop}
use Rattle.trace_stops.specs.declared.Stop.TheVariants.{Refused, Error, TooLarge}
use Rattle.trace_stops.specs.declared.Fault.TheVariants.{Malformed}
use Rattle.trace_stops.specs.declared.Limit.TheVariants.{LineBytes}
use Rattle.trace_grammar_kinds.specs.declared.Kind.TheVariants.{Whole}
use Rattle.trace_grammar.specs.Grammar.{line_of}
use Rattle.trace_grammar.specs.declared.Line.{Line}
use Rattle.trace_grammar.specs.declared.Line.TheVariants.{Nothing, Call, Missing, Wrong}
use Rattle.trace_lines_answer.specs.declared.Hand.{Hand}

-- what a session has come to after a line: the line's stop, or the one before where the line has none
unfoldable pub after_stop : Option Stop → Option Stop → Option Stop
after_stop before None = before
after_stop before (Some s) = Some s

-- the digit that says how a session ended whose output is whole: by its last stop 0 none, 5 a refusal, 1 an error, 3 too large
unfoldable pub ending_of : Option Stop → ℕ
ending_of None = 0
ending_of (Some (Refused r)) = 5
ending_of (Some (Error f)) = 1
ending_of (Some (TooLarge l)) = 3

-- the digit that says how a session ended: 4 where output was lost
unfoldable pub status_of : Option Stop → Bool → ℕ
status_of stop lost = cond lost 4 (ending_of stop)

-- what stops a cut line whose error is at word n: what is cut off may be the word's end, unless it is no command
unfoldable pub cut_stop : ℕ → Stop
cut_stop n = cond (n == 1) (Error Malformed) (TooLarge LineBytes)

-- what stops a line, whole where `all` says so: nothing where it is a call, blank or a comment; an error; it is too long
unfoldable pub stop_of : Line → Bool → Option Stop
stop_of Nothing all = None
stop_of (Call c n) all = cond all None (Some (TooLarge LineBytes))
stop_of (Missing n k) all = cond all (Some (Error Malformed)) (Some (TooLarge LineBytes))
stop_of (Wrong n k) all = cond all (Some (Error Malformed)) (Some (cut_stop n))

-- whether a line is passed over: nothing stops it, and it is blank or a comment
unfoldable pub passed_over : Option Stop → Line → Bool
passed_over None Nothing = true
passed_over None (Call c n) = false
passed_over None (Missing n k) = false
passed_over None (Wrong n k) = false
passed_over (Some s) said = false

-- a line in hand is what the grammar says of it, and has the stop of its errors
pub record Begun (l : List ℕ) (all : Bool) (h : Hand) : Type 0 where
  pub said : h.said ≡ line_of l
  pub stopped : (s : Stop) → stop_of (line_of l) all ≡ Some s → h.stop ≡ Some s

-- a refusal, then a line that is accepted: 5; a word that is no command: 1; a line that is too long: 3
example-refused : status_of (after_stop (after_stop None (Some (Refused R.Range))) None) false ≡ 5
unfolding status_of ending_of after_stop
example-refused = refl

example-unknown : status_of (Some (Error Malformed)) false ≡ 1
unfolding status_of ending_of
example-unknown = refl

example-large : status_of (Some (TooLarge LineBytes)) false ≡ 3
unfolding status_of ending_of
example-large = refl

example-lost : status_of (Some (Error Malformed)) true ≡ 4
unfolding status_of
example-lost = refl

-- a blank line or a comment is passed over, however long it is; a cut command is not
example-passed-over : passed_over (stop_of Nothing false) Nothing ≡ true
unfolding passed_over stop_of
example-passed-over = refl

example-cut : passed_over (stop_of (Missing 1 Whole) false) (Missing 1 Whole) ≡ false
unfolding passed_over stop_of
example-cut = refl
