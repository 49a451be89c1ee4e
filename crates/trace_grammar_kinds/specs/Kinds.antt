-- What may stand at a place of a line, and which words it fits (docs/SESSIONS.md, Kinds of words). Definitions only.
use Rattle.std.specs.Prelude.{◌≡◌, refl, Bool, true, false, cond, ◌&&◌, ◌||◌, List, [], ◌∷◌, ℕ, ◌+◌, ◌-◌, ◌*◌, ltb, eqb, length}
use Rattle.std.specs.Option.{is_some}
use Rattle.config.specs.Sizes.{slots, most_sources}
use Rattle.curve_table.specs.Table.{points}
use Rattle.trace_input_session.specs.Words.{whole_of, whole_to, float_of, all_hex, same_bytes}
use Rattle.trace_input_session.specs.Lines.{index_of, before_of, after_of}
use Rattle.trace_grammar_kinds.specs.Texts.{commands, specs, samples, kinds, scopes, ranges, rates, modes}
use Rattle.trace_grammar_kinds.specs.Texts.{memories, letters, flags, lengths, ends, gains, fields}
use Rattle.trace_grammar_kinds.specs.declared.Class as class
use Rattle.trace_grammar_kinds.specs.declared.Class.TheVariants as after
use Rattle.trace_grammar_kinds.specs.declared.Kind.{Kind}
use Rattle.trace_grammar_kinds.specs.declared.Kind.TheVariants.{End, Whole, MaybeWhole, Place, Entry, Source}
use Rattle.trace_grammar_kinds.specs.declared.Kind.TheVariants.{Number, Numbers, Flag, Key, Keys, Name, Table}
use Rattle.trace_grammar_kinds.specs.declared.Kind.TheVariants.{Program, Target, Feed, Fields, Draw, Length}
use Rattle.trace_grammar_kinds.specs.declared.Kind.TheVariants.{Part, LengthOrLetter, Letter, Spec, Samples}
use Rattle.trace_grammar_kinds.specs.declared.Kind.TheVariants.{SourceKind, Scope, Range, Rate, Mode, Memory}
use Rattle.trace_grammar_kinds.specs.declared.Kind.TheVariants.{Command}

-- whether a word is one of the n words of a list
abbrev pub is_of : List (List ℕ) → ℕ → List ℕ → Bool
is_of list n w = ltb (index_of list w) n

-- "LFO:BUS"
unfoldable pub is_bus : List ℕ → Bool
is_bus w = is_some (whole_to 255 (before_of 58 w)) && is_some (whole_to 255 (after_of 58 w))

-- "p:NUMBER" or "l:LFO:BUS"
unfoldable pub is_target : List ℕ → Bool
is_target w =
    cond (same_bytes (before_of 58 w) (112 ∷ [])) (is_some (whole_to 4294967295 (after_of 58 w)))
    (same_bytes (before_of 58 w) (108 ∷ []) && is_bus (after_of 58 w))

-- "-", "src:SOURCE", "amt:SLOT" or "out:SLOT"
unfoldable pub is_feed : List ℕ → Bool
is_feed w =
    cond (same_bytes w (45 ∷ [])) true
    (cond (same_bytes (before_of 58 w) (115 ∷ 114 ∷ 99 ∷ [])) (is_some (whole_to 65535 (after_of 58 w)))
    (is_of gains 2 (before_of 58 w) && is_some (whole_to 255 (after_of 58 w))))

-- "-", or the number of a source
unfoldable pub is_pick : List ℕ → Bool
is_pick w = same_bytes w (45 ∷ []) || is_some (whole_to 65535 w)

-- "-", or a target
unfoldable pub is_aim : List ℕ → Bool
is_aim w = same_bytes w (45 ∷ []) || is_target w

-- "RISE:FALL"
unfoldable pub is_slew : List ℕ → Bool
is_slew w = is_some (float_of (before_of 58 w)) && is_some (float_of (after_of 58 w))

-- "lin", or "TABLE:RISE:FALL"
unfoldable pub is_curve : List ℕ → Bool
is_curve w = same_bytes w (108 ∷ 105 ∷ 110 ∷ []) || is_slew (after_of 58 w)

-- the value of field i: src aux dst amt out pol inv byp sc ac
unfoldable pub is_value : ℕ → List ℕ → Bool
is_value i v =
    cond (ltb i 2) (is_pick v)
    (cond (ltb i 3) (is_aim v)
    (cond (ltb i 5) (is_some (float_of v))
    (cond (ltb i 6) (is_of ranges 2 v)
    (cond (ltb i 8) (is_of flags 2 v)
    (cond (ltb i 10) (is_curve v) false)))))

-- "FIELD=VALUE"
unfoldable pub is_field : List ℕ → Bool
is_field w = is_value (index_of fields (before_of 61 w)) (after_of 61 w)

-- 16 hexadecimal digits
unfoldable pub is_draw : List ℕ → Bool
is_draw w = eqb (length w) 16 && all_hex w

-- "all", "need", "need-1", or a whole number up to 10^12
unfoldable pub is_length : List ℕ → Bool
is_length w = is_of lengths 3 w || is_some (whole_to 1000000000000 w)

-- "end", "end+1", or a whole number
unfoldable pub is_part : List ℕ → Bool
is_part w = is_of ends 2 w || is_some (whole_of w)

-- the kind of a generator, or a whole number
unfoldable pub is_length_or_letter : List ℕ → Bool
is_length_or_letter w = is_of letters 6 w || is_some (whole_of w)

-- whether a word is of a kind; any word is a key or a name
unfoldable pub fits : Kind → List ℕ → Bool
fits End w = false
fits Whole w = is_some (whole_of w)
fits MaybeWhole w = is_some (whole_of w)
fits Place w = is_some (whole_to (2 * slots + 1) w)
fits Entry w = is_some (whole_to (points - 1) w)
fits Source w = is_some (whole_to (most_sources - 1) w)
fits Number w = is_some (float_of w)
fits Numbers w = is_some (float_of w)
fits Flag w = is_of flags 2 w
fits Key w = true
fits Keys w = true
fits Name w = true
fits Table w = true
fits Program w = true
fits Target w = is_target w
fits Feed w = is_feed w
fits Fields w = is_field w
fits Draw w = is_draw w
fits Length w = is_length w
fits Part w = is_part w
fits LengthOrLetter w = is_length_or_letter w
fits Letter w = is_of letters 6 w
fits Spec w = is_of specs 9 w
fits Samples w = is_of samples 2 w
fits SourceKind w = is_of kinds 12 w
fits Scope w = is_of scopes 2 w
fits Range w = is_of ranges 2 w
fits Rate w = is_of rates 3 w
fits Mode w = is_of modes 4 w
fits Memory w = is_of memories 9 w
fits Command w = is_of commands 39 w

-- what comes after a word of a kind
unfoldable pub class_of : Kind → class.Class
class_of End = after.Over
class_of Whole = after.Single
class_of MaybeWhole = after.Optional
class_of Place = after.Single
class_of Entry = after.Single
class_of Source = after.Single
class_of Number = after.Single
class_of Numbers = after.Repeated
class_of Flag = after.Single
class_of Key = after.Single
class_of Keys = after.Repeated
class_of Name = after.Single
class_of Table = after.Single
class_of Program = after.Single
class_of Target = after.Single
class_of Feed = after.Single
class_of Fields = after.Repeated
class_of Draw = after.Single
class_of Length = after.Single
class_of Part = after.Single
class_of LengthOrLetter = after.Letter
class_of Letter = after.Single
class_of Spec = after.Spec
class_of Samples = after.Samples
class_of SourceKind = after.Single
class_of Scope = after.Single
class_of Range = after.Single
class_of Rate = after.Single
class_of Mode = after.Single
class_of Memory = after.Single
class_of Command = after.Single
