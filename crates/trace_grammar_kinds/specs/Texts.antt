-- The lists of words of the session language (docs/SESSIONS.md, The grammar), each as the bytes of its words with a
-- blank between them. Definitions only.
use Rattle.std.specs.Prelude.{List, [], ◌∷◌, ℕ}
use Rattle.trace_input_session.specs.Lines.{words_of}

-- the commands, in the order of the table's rows: config source dest newreg find table slot note clear matrix_put
-- compile swap engine memory_len print canon bind unbind signal_part set_held set_voice_held set_base set_amount
-- set_output set_voice_limit note_on note_off voice_ended set_rng process out latest latest_all ramp is_active rate
-- state memory standard
abbrev pub commands : List (List ℕ)
commands =
    words_of
    (99 ∷ 111 ∷ 110 ∷ 102 ∷ 105 ∷ 103 ∷ 32 ∷ 115 ∷ 111 ∷ 117 ∷ 114 ∷ 99 ∷ 101 ∷ 32 ∷ 100 ∷ 101 ∷ 115 ∷ 116 ∷ 32 ∷
    110 ∷ 101 ∷ 119 ∷ 114 ∷ 101 ∷ 103 ∷ 32 ∷ 102 ∷ 105 ∷ 110 ∷ 100 ∷ 32 ∷ 116 ∷ 97 ∷ 98 ∷ 108 ∷ 101 ∷ 32 ∷ 115 ∷
    108 ∷ 111 ∷ 116 ∷ 32 ∷ 110 ∷ 111 ∷ 116 ∷ 101 ∷ 32 ∷ 99 ∷ 108 ∷ 101 ∷ 97 ∷ 114 ∷ 32 ∷ 109 ∷ 97 ∷ 116 ∷ 114 ∷
    105 ∷ 120 ∷ 95 ∷ 112 ∷ 117 ∷ 116 ∷ 32 ∷ 99 ∷ 111 ∷ 109 ∷ 112 ∷ 105 ∷ 108 ∷ 101 ∷ 32 ∷ 115 ∷ 119 ∷ 97 ∷ 112 ∷
    32 ∷ 101 ∷ 110 ∷ 103 ∷ 105 ∷ 110 ∷ 101 ∷ 32 ∷ 109 ∷ 101 ∷ 109 ∷ 111 ∷ 114 ∷ 121 ∷ 95 ∷ 108 ∷ 101 ∷ 110 ∷ 32 ∷
    112 ∷ 114 ∷ 105 ∷ 110 ∷ 116 ∷ 32 ∷ 99 ∷ 97 ∷ 110 ∷ 111 ∷ 110 ∷ 32 ∷ 98 ∷ 105 ∷ 110 ∷ 100 ∷ 32 ∷ 117 ∷ 110 ∷
    98 ∷ 105 ∷ 110 ∷ 100 ∷ 32 ∷ 115 ∷ 105 ∷ 103 ∷ 110 ∷ 97 ∷ 108 ∷ 95 ∷ 112 ∷ 97 ∷ 114 ∷ 116 ∷ 32 ∷ 115 ∷ 101 ∷
    116 ∷ 95 ∷ 104 ∷ 101 ∷ 108 ∷ 100 ∷ 32 ∷ 115 ∷ 101 ∷ 116 ∷ 95 ∷ 118 ∷ 111 ∷ 105 ∷ 99 ∷ 101 ∷ 95 ∷ 104 ∷ 101 ∷
    108 ∷ 100 ∷ 32 ∷ 115 ∷ 101 ∷ 116 ∷ 95 ∷ 98 ∷ 97 ∷ 115 ∷ 101 ∷ 32 ∷ 115 ∷ 101 ∷ 116 ∷ 95 ∷ 97 ∷ 109 ∷ 111 ∷
    117 ∷ 110 ∷ 116 ∷ 32 ∷ 115 ∷ 101 ∷ 116 ∷ 95 ∷ 111 ∷ 117 ∷ 116 ∷ 112 ∷ 117 ∷ 116 ∷ 32 ∷ 115 ∷ 101 ∷ 116 ∷ 95 ∷
    118 ∷ 111 ∷ 105 ∷ 99 ∷ 101 ∷ 95 ∷ 108 ∷ 105 ∷ 109 ∷ 105 ∷ 116 ∷ 32 ∷ 110 ∷ 111 ∷ 116 ∷ 101 ∷ 95 ∷ 111 ∷ 110 ∷
    32 ∷ 110 ∷ 111 ∷ 116 ∷ 101 ∷ 95 ∷ 111 ∷ 102 ∷ 102 ∷ 32 ∷ 118 ∷ 111 ∷ 105 ∷ 99 ∷ 101 ∷ 95 ∷ 101 ∷ 110 ∷ 100 ∷
    101 ∷ 100 ∷ 32 ∷ 115 ∷ 101 ∷ 116 ∷ 95 ∷ 114 ∷ 110 ∷ 103 ∷ 32 ∷ 112 ∷ 114 ∷ 111 ∷ 99 ∷ 101 ∷ 115 ∷ 115 ∷ 32 ∷
    111 ∷ 117 ∷ 116 ∷ 32 ∷ 108 ∷ 97 ∷ 116 ∷ 101 ∷ 115 ∷ 116 ∷ 32 ∷ 108 ∷ 97 ∷ 116 ∷ 101 ∷ 115 ∷ 116 ∷ 95 ∷ 97 ∷
    108 ∷ 108 ∷ 32 ∷ 114 ∷ 97 ∷ 109 ∷ 112 ∷ 32 ∷ 105 ∷ 115 ∷ 95 ∷ 97 ∷ 99 ∷ 116 ∷ 105 ∷ 118 ∷ 101 ∷ 32 ∷ 114 ∷ 97 ∷
    116 ∷ 101 ∷ 32 ∷ 115 ∷ 116 ∷ 97 ∷ 116 ∷ 101 ∷ 32 ∷ 109 ∷ 101 ∷ 109 ∷ 111 ∷ 114 ∷ 121 ∷ 32 ∷ 115 ∷ 116 ∷ 97 ∷
    110 ∷ 100 ∷ 97 ∷ 114 ∷ 100 ∷ [])

-- what the numbers of a table begin with, in the order of the rows after the commands': len put lin rev sq const
-- step gen hex
abbrev pub specs : List (List ℕ)
specs =
    words_of
    (108 ∷ 101 ∷ 110 ∷ 32 ∷ 112 ∷ 117 ∷ 116 ∷ 32 ∷ 108 ∷ 105 ∷ 110 ∷ 32 ∷ 114 ∷ 101 ∷ 118 ∷ 32 ∷ 115 ∷ 113 ∷ 32 ∷
    99 ∷ 111 ∷ 110 ∷ 115 ∷ 116 ∷ 32 ∷ 115 ∷ 116 ∷ 101 ∷ 112 ∷ 32 ∷ 103 ∷ 101 ∷ 110 ∷ 32 ∷ 104 ∷ 101 ∷ 120 ∷ [])

-- what samples begin with, in the order of the last rows: hex gen
abbrev pub samples : List (List ℕ)
samples =
    words_of
    (104 ∷ 101 ∷ 120 ∷ 32 ∷ 103 ∷ 101 ∷ 110 ∷ [])

-- kinds of sources: signal audio held velocity key release random alt altinv routerandom load constant
abbrev pub kinds : List (List ℕ)
kinds =
    words_of
    (115 ∷ 105 ∷ 103 ∷ 110 ∷ 97 ∷ 108 ∷ 32 ∷ 97 ∷ 117 ∷ 100 ∷ 105 ∷ 111 ∷ 32 ∷ 104 ∷ 101 ∷ 108 ∷ 100 ∷ 32 ∷ 118 ∷
    101 ∷ 108 ∷ 111 ∷ 99 ∷ 105 ∷ 116 ∷ 121 ∷ 32 ∷ 107 ∷ 101 ∷ 121 ∷ 32 ∷ 114 ∷ 101 ∷ 108 ∷ 101 ∷ 97 ∷ 115 ∷ 101 ∷
    32 ∷ 114 ∷ 97 ∷ 110 ∷ 100 ∷ 111 ∷ 109 ∷ 32 ∷ 97 ∷ 108 ∷ 116 ∷ 32 ∷ 97 ∷ 108 ∷ 116 ∷ 105 ∷ 110 ∷ 118 ∷ 32 ∷
    114 ∷ 111 ∷ 117 ∷ 116 ∷ 101 ∷ 114 ∷ 97 ∷ 110 ∷ 100 ∷ 111 ∷ 109 ∷ 32 ∷ 108 ∷ 111 ∷ 97 ∷ 100 ∷ 32 ∷ 99 ∷ 111 ∷
    110 ∷ 115 ∷ 116 ∷ 97 ∷ 110 ∷ 116 ∷ [])

-- scopes: v g
abbrev pub scopes : List (List ℕ)
scopes =
    words_of
    (118 ∷ 32 ∷ 103 ∷ [])

-- ranges, and polarities: u b
abbrev pub ranges : List (List ℕ)
ranges =
    words_of
    (117 ∷ 32 ∷ 98 ∷ [])

-- rates: audio control adaptive
abbrev pub rates : List (List ℕ)
rates =
    words_of
    (97 ∷ 117 ∷ 100 ∷ 105 ∷ 111 ∷ 32 ∷ 99 ∷ 111 ∷ 110 ∷ 116 ∷ 114 ∷ 111 ∷ 108 ∷ 32 ∷ 97 ∷ 100 ∷ 97 ∷ 112 ∷ 116 ∷
    105 ∷ 118 ∷ 101 ∷ [])

-- how outputs print: full hash cases none
abbrev pub modes : List (List ℕ)
modes =
    words_of
    (102 ∷ 117 ∷ 108 ∷ 108 ∷ 32 ∷ 104 ∷ 97 ∷ 115 ∷ 104 ∷ 32 ∷ 99 ∷ 97 ∷ 115 ∷ 101 ∷ 115 ∷ 32 ∷ 110 ∷ 111 ∷ 110 ∷
    101 ∷ [])

-- memories that calls are lent: held globals bases values audio tables matrix_tables out engine
abbrev pub memories : List (List ℕ)
memories =
    words_of
    (104 ∷ 101 ∷ 108 ∷ 100 ∷ 32 ∷ 103 ∷ 108 ∷ 111 ∷ 98 ∷ 97 ∷ 108 ∷ 115 ∷ 32 ∷ 98 ∷ 97 ∷ 115 ∷ 101 ∷ 115 ∷ 32 ∷
    118 ∷ 97 ∷ 108 ∷ 117 ∷ 101 ∷ 115 ∷ 32 ∷ 97 ∷ 117 ∷ 100 ∷ 105 ∷ 111 ∷ 32 ∷ 116 ∷ 97 ∷ 98 ∷ 108 ∷ 101 ∷ 115 ∷
    32 ∷ 109 ∷ 97 ∷ 116 ∷ 114 ∷ 105 ∷ 120 ∷ 95 ∷ 116 ∷ 97 ∷ 98 ∷ 108 ∷ 101 ∷ 115 ∷ 32 ∷ 111 ∷ 117 ∷ 116 ∷ 32 ∷
    101 ∷ 110 ∷ 103 ∷ 105 ∷ 110 ∷ 101 ∷ [])

-- kinds of generators: u b t x y r
abbrev pub letters : List (List ℕ)
letters =
    words_of
    (117 ∷ 32 ∷ 98 ∷ 32 ∷ 116 ∷ 32 ∷ 120 ∷ 32 ∷ 121 ∷ 32 ∷ 114 ∷ [])

-- flags: 0 1
abbrev pub flags : List (List ℕ)
flags =
    words_of
    (48 ∷ 32 ∷ 49 ∷ [])

-- lengths that are no numbers: all need need-1
abbrev pub lengths : List (List ℕ)
lengths =
    words_of
    (97 ∷ 108 ∷ 108 ∷ 32 ∷ 110 ∷ 101 ∷ 101 ∷ 100 ∷ 32 ∷ 110 ∷ 101 ∷ 101 ∷ 100 ∷ 45 ∷ 49 ∷ [])

-- places that are no numbers: end end+1
abbrev pub ends : List (List ℕ)
ends =
    words_of
    (101 ∷ 110 ∷ 100 ∷ 32 ∷ 101 ∷ 110 ∷ 100 ∷ 43 ∷ 49 ∷ [])

-- what a feed to a slot begins with: amt out
abbrev pub gains : List (List ℕ)
gains =
    words_of
    (97 ∷ 109 ∷ 116 ∷ 32 ∷ 111 ∷ 117 ∷ 116 ∷ [])

-- fields of a slot: src aux dst amt out pol inv byp sc ac
abbrev pub fields : List (List ℕ)
fields =
    words_of
    (115 ∷ 114 ∷ 99 ∷ 32 ∷ 97 ∷ 117 ∷ 120 ∷ 32 ∷ 100 ∷ 115 ∷ 116 ∷ 32 ∷ 97 ∷ 109 ∷ 116 ∷ 32 ∷ 111 ∷ 117 ∷ 116 ∷ 32 ∷
    112 ∷ 111 ∷ 108 ∷ 32 ∷ 105 ∷ 110 ∷ 118 ∷ 32 ∷ 98 ∷ 121 ∷ 112 ∷ 32 ∷ 115 ∷ 99 ∷ 32 ∷ 97 ∷ 99 ∷ [])
