-- `source::with_number` meets its contract. Assumes nothing.
use Rattle.source.proofs.Written.{with-written}
use Rattle.source.proofs.with_number.Goals as goal

pub returns : goal.returns
returns c =
    let a = c.args in
    with-written a.sources _ a.info a.word.now a.after.now a.n _ _ _ _ c.requires.1
    c.blank-blank.ensures
    c.put_word-begun.ensures
    c.put_number-numbered.ensures
    c.put_word-text.ensures
    c.push.ensures
