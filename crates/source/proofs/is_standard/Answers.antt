-- `source::is_standard` meets its contract. Assumes nothing.
use mathlib.Core.Path.{◌≡◌, sym, ap, ◌∙◌}
use mathlib.Core.Bool.{true, false}
use mathlib.Core.List.{[]}
use Rattle.source.specs.Named.{env_word, lfo_word, after_y, macro_word}
use Rattle.source_key.specs.Numbered.{is_numbered}
use Rattle.source.specs.Standard.{has, sequence_key, standard_key}
use Rattle.source.proofs.is_standard.Goals as goal

pub returns-then-is_numbered : goal.returns-then-is_numbered
unfolding standard_key
returns-then-is_numbered c =
    let a = c.args in
    let key = a.key.now in
    let yes : is_numbered env_word [] a.counts.envelopes key ≡ true = sym c.is_numbered.ensures ∙ c.if-is_numbered.true in
    rw (yes)

pub returns-then-is_numbered-2 : goal.returns-then-is_numbered-2
unfolding standard_key
returns-then-is_numbered-2 c =
    let a = c.args in
    let key = a.key.now in
    let no1 : is_numbered env_word [] a.counts.envelopes key ≡ false = sym c.is_numbered.ensures ∙ c.if-is_numbered.false in
    let yes : is_numbered lfo_word [] a.counts.lfos key ≡ true = sym c.is_numbered-2.ensures ∙ c.if-is_numbered-2.true in
    rw (no1, yes)

pub returns-then-is_numbered-3 : goal.returns-then-is_numbered-3
unfolding standard_key
returns-then-is_numbered-3 c =
    let a = c.args in
    let key = a.key.now in
    let no1 : is_numbered env_word [] a.counts.envelopes key ≡ false = sym c.is_numbered.ensures ∙ c.if-is_numbered.false in
    let no2 : is_numbered lfo_word [] a.counts.lfos key ≡ false = sym c.is_numbered-2.ensures ∙ c.if-is_numbered-2.false in
    let yes : is_numbered lfo_word after_y a.counts.lfos key ≡ true = sym c.is_numbered-3.ensures ∙ c.if-is_numbered-3.true in
    rw (no1, no2, yes)

pub returns-then-is_numbered-4 : goal.returns-then-is_numbered-4
unfolding standard_key
returns-then-is_numbered-4 c =
    let a = c.args in
    let key = a.key.now in
    let no1 : is_numbered env_word [] a.counts.envelopes key ≡ false = sym c.is_numbered.ensures ∙ c.if-is_numbered.false in
    let no2 : is_numbered lfo_word [] a.counts.lfos key ≡ false = sym c.is_numbered-2.ensures ∙ c.if-is_numbered-2.false in
    let no3 : is_numbered lfo_word after_y a.counts.lfos key ≡ false = sym c.is_numbered-3.ensures ∙ c.if-is_numbered-3.false in
    let yes : is_numbered macro_word [] a.counts.macros key ≡ true = sym c.is_numbered-4.ensures ∙ c.if-is_numbered-4.true in
    rw (no1, no2, no3, yes)

pub returns-then-is_sequence : goal.returns-then-is_sequence
unfolding standard_key
returns-then-is_sequence c =
    let a = c.args in
    let key = a.key.now in
    let no1 : is_numbered env_word [] a.counts.envelopes key ≡ false = sym c.is_numbered.ensures ∙ c.if-is_numbered.false in
    let no2 : is_numbered lfo_word [] a.counts.lfos key ≡ false = sym c.is_numbered-2.ensures ∙ c.if-is_numbered-2.false in
    let no3 : is_numbered lfo_word after_y a.counts.lfos key ≡ false = sym c.is_numbered-3.ensures ∙ c.if-is_numbered-3.false in
    let no4 : is_numbered macro_word [] a.counts.macros key ≡ false = sym c.is_numbered-4.ensures ∙ c.if-is_numbered-4.false in
    let yes : sequence_key a.counts.sequence_values key ≡ true = sym c.is_sequence.ensures ∙ c.if-is_sequence.true in
    rw (no1, no2, no3, no4, yes)

pub returns : goal.returns
unfolding standard_key
returns c =
    let a = c.args in
    let key = a.key.now in
    let no1 : is_numbered env_word [] a.counts.envelopes key ≡ false = sym c.is_numbered.ensures ∙ c.if-is_numbered.false in
    let no2 : is_numbered lfo_word [] a.counts.lfos key ≡ false = sym c.is_numbered-2.ensures ∙ c.if-is_numbered-2.false in
    let no3 : is_numbered lfo_word after_y a.counts.lfos key ≡ false = sym c.is_numbered-3.ensures ∙ c.if-is_numbered-3.false in
    let no4 : is_numbered macro_word [] a.counts.macros key ≡ false = sym c.is_numbered-4.ensures ∙ c.if-is_numbered-4.false in
    let no5 : sequence_key a.counts.sequence_values key ≡ false = sym c.is_sequence.ensures ∙ c.if-is_sequence.false in
    rw (no1, no2, no3, no4, no5) (c.has_key.ensures ∙ ap (has key) c.requires)
