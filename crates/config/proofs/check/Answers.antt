-- `config::check` meets its contract: its two rows, in their order.
use mathlib.Core.Path.{◌≡◌, sym, ap, ◌∙◌}
use mathlib.Core.Bool.{not, ◌||◌}
use lib.Dec.{ltb}
use lib.Ieee.{le, of_bits}
use borrow.Author.Tests.{lt-ltb, le-ltb}
use Rattle.std.proofs.lemmas.Result.{err_from_is_err_and}
use Rattle.refusal.specs.Judge.{judged}
use Rattle.refusal.proofs.Laws.{applies-here, passes-here}
use Rattle.number.specs.Number.{zero32}
use Rattle.config.specs.Sizes.{most_frames, most_voices}
use Rattle.config.specs.Configuration.{config_code}
use Rattle.config.proofs.check.Goals as goal
use Rattle.config.proofs.check.Goals.{then-max_frames-gt-FRAMES, else-max_frames-gt-FRAMES}
use Rattle.config.proofs.check.Goals.{then-sample_rate, else-sample_rate}

pub returns-in_err-when : goal.returns-in_err-when
unfolding config_code judged
returns-in_err-when c =
    let p = err_from_is_err_and c.from_residual.result c.from_residual.ensures.1 in
    let row = applies-here (not c.is_finite.result) 6 _ c.in_err-when.ensures in
    rw (p.1, p.2, row.1) (simp (ap not (sym c.is_finite.ensures) ∙ row.0))

pub returns : goal.returns
unfolding config_code judged of_bits
returns c =
    let a = c.args in
    let rate = ap not (sym c.is_finite.ensures) ∙ passes-here (not c.is_finite.result) 6 tt c.in_ok-when.ensures in
    let many : c.if-max_frames-gt-FRAMES.too_many ≡ (ltb most_frames a.max_frames || ltb most_voices a.voices) =
    elim c.if-max_frames-gt-FRAMES.branch [
      | then-max_frames-gt-FRAMES w ↦ w.too_many-is ∙ sym (simp (lt-ltb _ _ w.if-max_frames-gt-FRAMES.true))
      | else-max_frames-gt-FRAMES w ↦ w.too_many-is ∙ sym (simp (le-ltb _ _ w.if-max_frames-gt-FRAMES.false))
    ] in
    let range : c.if-sample_rate.when ≡ (le a.sample_rate zero32 || (ltb most_frames a.max_frames || ltb most_voices a.voices)) =
    elim c.if-sample_rate.branch [
      | then-sample_rate w ↦ w.when-is ∙ sym (simp w.if-sample_rate.true)
      | else-sample_rate w ↦ w.when-is ∙ many ∙ sym (simp w.if-sample_rate.false)
    ] in
    c.when-2.ensures ∙ rw range (simp rate)
