-- The words of a row, over plain variables.
use mathlib.Core.Path.{◌≡◌, ap, ◌∙◌}
use mathlib.Core.List.{List, []}
use Prim.Native.Nat.{ℕ}
use lib.ListN.{get_or}
use Rattle.trace_input_session.specs.Lines.{words_of}
use Rattle.trace_output_refusals.specs.Rows.{rows_text, row_words}

-- a word of the list is that row's
pub row_word : (s : List ℕ) (n : ℕ) (r : List ℕ) → s ≡ rows_text → r ≡ get_or (words_of s) n [] → r ≡ row_words n
row_word s n r a b = b ∙ ap (λ (x : List ℕ). get_or (words_of x) n []) a
