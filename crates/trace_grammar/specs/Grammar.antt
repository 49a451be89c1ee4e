-- The session language: what a line is (docs/SESSIONS.md, The grammar). Definitions and what follows from them.
use Rattle.std.specs.Prelude.{◌≡◌, refl, Bool, true, false, cond, List, [], ◌∷◌, ℕ, suc, ◌+◌, ◌*◌, ◌<◌, ◌≤◌, ltb, eqb, get_or}
use Rattle.trace_input_session.specs.Lines.{words_of, index_of}
use Rattle.trace_grammar_kinds.specs.Texts.{commands, specs, samples, letters}
use Rattle.trace_grammar_kinds.specs.Kinds.{fits, class_of, is_of}
use Rattle.trace_grammar.specs.Commands.{command_at}
use Rattle.trace_grammar.specs.declared.Command as command
use Rattle.trace_grammar.specs.declared.Line.{Line}
use Rattle.trace_grammar.specs.declared.Line.TheVariants.{Nothing, Call, Missing, Wrong}
use Rattle.trace_grammar_kinds.specs.declared.Class as class
use Rattle.trace_grammar_kinds.specs.declared.Class.TheVariants as after
use Rattle.trace_grammar_kinds.specs.declared.Kind.{Kind}
use Rattle.trace_grammar_kinds.specs.declared.Kind.TheVariants.{End, Whole, MaybeWhole, Place, Entry, Source, Number}
use Rattle.trace_grammar_kinds.specs.declared.Kind.TheVariants.{Numbers, Flag, Key, Keys, Name, Table, Program, Target}
use Rattle.trace_grammar_kinds.specs.declared.Kind.TheVariants.{Feed, Fields, Draw, Length, Part, LengthOrLetter}
use Rattle.trace_grammar_kinds.specs.declared.Kind.TheVariants.{Letter, Spec, Samples, SourceKind, Scope, Range, Rate}
use Rattle.trace_grammar_kinds.specs.declared.Kind.TheVariants.{Mode, Memory, Command}

-- The table: what may stand after the word that names a row, 7 places to a row. First the commands, then the words that
-- a table's numbers begin with, then those of samples.
unfoldable pub table : List Kind
table =
    Number ∷ Whole ∷ Whole ∷ End ∷ End ∷ End ∷ End ∷  -- config
    Key ∷ SourceKind ∷ Scope ∷ Range ∷ End ∷ End ∷ End ∷  -- source
    Target ∷ Scope ∷ Rate ∷ Number ∷ Number ∷ Feed ∷ End ∷  -- dest
    End ∷ End ∷ End ∷ End ∷ End ∷ End ∷ End ∷  -- newreg
    Key ∷ End ∷ End ∷ End ∷ End ∷ End ∷ End ∷  -- find
    Name ∷ Spec ∷ End ∷ End ∷ End ∷ End ∷ End ∷  -- table
    Whole ∷ Fields ∷ End ∷ End ∷ End ∷ End ∷ End ∷  -- slot
    Table ∷ Table ∷ Flag ∷ Flag ∷ End ∷ End ∷ End ∷  -- note
    End ∷ End ∷ End ∷ End ∷ End ∷ End ∷ End ∷  -- clear
    Place ∷ Entry ∷ Number ∷ End ∷ End ∷ End ∷ End ∷  -- matrix_put
    Name ∷ End ∷ End ∷ End ∷ End ∷ End ∷ End ∷  -- compile
    Program ∷ End ∷ End ∷ End ∷ End ∷ End ∷ End ∷  -- swap
    End ∷ End ∷ End ∷ End ∷ End ∷ End ∷ End ∷  -- engine
    Memory ∷ Length ∷ End ∷ End ∷ End ∷ End ∷ End ∷  -- memory_len
    Mode ∷ End ∷ End ∷ End ∷ End ∷ End ∷ End ∷  -- print
    Flag ∷ End ∷ End ∷ End ∷ End ∷ End ∷ End ∷  -- canon
    Whole ∷ Whole ∷ Samples ∷ End ∷ End ∷ End ∷ End ∷  -- bind
    MaybeWhole ∷ End ∷ End ∷ End ∷ End ∷ End ∷ End ∷  -- unbind
    Source ∷ Part ∷ Part ∷ Whole ∷ End ∷ End ∷ End ∷  -- signal_part
    Whole ∷ Number ∷ End ∷ End ∷ End ∷ End ∷ End ∷  -- set_held
    Whole ∷ Whole ∷ Number ∷ End ∷ End ∷ End ∷ End ∷  -- set_voice_held
    Whole ∷ Number ∷ End ∷ End ∷ End ∷ End ∷ End ∷  -- set_base
    Whole ∷ Number ∷ End ∷ End ∷ End ∷ End ∷ End ∷  -- set_amount
    Whole ∷ Number ∷ End ∷ End ∷ End ∷ End ∷ End ∷  -- set_output
    Whole ∷ End ∷ End ∷ End ∷ End ∷ End ∷ End ∷  -- set_voice_limit
    Whole ∷ Number ∷ Number ∷ Flag ∷ Number ∷ End ∷ End ∷  -- note_on
    Whole ∷ Number ∷ End ∷ End ∷ End ∷ End ∷ End ∷  -- note_off
    Whole ∷ End ∷ End ∷ End ∷ End ∷ End ∷ End ∷  -- voice_ended
    Draw ∷ End ∷ End ∷ End ∷ End ∷ End ∷ End ∷  -- set_rng
    Whole ∷ Whole ∷ End ∷ End ∷ End ∷ End ∷ End ∷  -- process
    MaybeWhole ∷ Whole ∷ End ∷ End ∷ End ∷ End ∷ End ∷  -- out
    Whole ∷ Whole ∷ End ∷ End ∷ End ∷ End ∷ End ∷  -- latest
    Whole ∷ Whole ∷ End ∷ End ∷ End ∷ End ∷ End ∷  -- latest_all
    Whole ∷ Whole ∷ End ∷ End ∷ End ∷ End ∷ End ∷  -- ramp
    Whole ∷ End ∷ End ∷ End ∷ End ∷ End ∷ End ∷  -- is_active
    Whole ∷ End ∷ End ∷ End ∷ End ∷ End ∷ End ∷  -- rate
    End ∷ End ∷ End ∷ End ∷ End ∷ End ∷ End ∷  -- state
    End ∷ End ∷ End ∷ End ∷ End ∷ End ∷ End ∷  -- memory
    Whole ∷ Whole ∷ Whole ∷ Whole ∷ Keys ∷ End ∷ End ∷  -- standard
    Whole ∷ Spec ∷ End ∷ End ∷ End ∷ End ∷ End ∷  -- len of a table
    Whole ∷ Number ∷ Spec ∷ End ∷ End ∷ End ∷ End ∷  -- put of a table
    End ∷ End ∷ End ∷ End ∷ End ∷ End ∷ End ∷  -- lin of a table
    End ∷ End ∷ End ∷ End ∷ End ∷ End ∷ End ∷  -- rev of a table
    End ∷ End ∷ End ∷ End ∷ End ∷ End ∷ End ∷  -- sq of a table
    Number ∷ End ∷ End ∷ End ∷ End ∷ End ∷ End ∷  -- const of a table
    Whole ∷ Number ∷ Number ∷ End ∷ End ∷ End ∷ End ∷  -- step of a table
    Whole ∷ LengthOrLetter ∷ Letter ∷ End ∷ End ∷ End ∷ End ∷  -- gen of a table
    Numbers ∷ End ∷ End ∷ End ∷ End ∷ End ∷ End ∷  -- hex of a table
    Numbers ∷ End ∷ End ∷ End ∷ End ∷ End ∷ End ∷  -- hex of `bind`
    Whole ∷ Whole ∷ Letter ∷ End ∷ End ∷ End ∷ End ∷  -- gen of `bind`
    []

unfoldable pub kind_at : ℕ → Kind
kind_at s = get_or table s End

-- the place after a word at place s, by what comes after words of its kind
unfoldable pub after_class : class.Class → ℕ → List ℕ → ℕ
after_class after.Single s w = s + 1
after_class after.Repeated s w = s
after_class after.Spec s w = 7 * (39 + index_of specs w)
after_class after.Samples s w = 7 * (48 + index_of samples w)
after_class after.Letter s w = cond (is_of letters 6 w) (s + 2) (s + 1)
after_class after.Optional s w = s + 1
after_class after.Over s w = s + 1

-- whether a line may end before a place, by what comes after words of its kind
unfoldable pub ends_class : class.Class → Bool
ends_class after.Single = false
ends_class after.Repeated = true
ends_class after.Spec = false
ends_class after.Samples = false
ends_class after.Letter = false
ends_class after.Optional = true
ends_class after.Over = true

-- the rest of a line of command c, of which k words are read: its words stand at place s and on
unfoldable pub rest_of : ℕ → ℕ → command.Command → List (List ℕ) → Line
rest_of s k c [] = cond (ends_class (class_of (kind_at s))) (Call c k) (Missing k (kind_at s))
rest_of s k c (w ∷ ws) =
    cond (fits (kind_at s) w) (rest_of (after_class (class_of (kind_at s)) s w) (k + 1) c ws) (Wrong (k + 1) (kind_at s))

-- a comment begins with #
unfoldable pub is_comment : List ℕ → Bool
is_comment w = eqb (get_or w 0 0) 35

-- a line of these words: blank, a comment, a command with its words, or an error at a word
unfoldable pub line_of_words : List (List ℕ) → Line
line_of_words [] = Nothing
line_of_words (w ∷ ws) =
    cond (is_comment w) Nothing
    (cond (is_of commands 39 w) (rest_of (7 * index_of commands w) 1 (command_at (index_of commands w)) ws)
    (Wrong 1 Command))

unfoldable pub line_of : List ℕ → Line
line_of l = line_of_words (words_of l)

-- a line whose first word is no comment and no command is an error at that word
pub unknown-word : (w : List ℕ) (ws : List (List ℕ)) → is_comment w ≡ false → is_of commands 39 w ≡ false
    → line_of_words (w ∷ ws) ≡ Wrong 1 Command
unfolding line_of_words
unknown-word w ws a b = rw (a, b)

-- no word is passed over: one that is not of the kind of its place is an error, whatever follows
pub wrong_word : (s k : ℕ) (c : command.Command) (w : List ℕ) (ws : List (List ℕ)) → fits (kind_at s) w ≡ false
    → rest_of s k c (w ∷ ws) ≡ Wrong (k + 1) (kind_at s)
unfolding rest_of
wrong_word s k c w ws a = rw a
