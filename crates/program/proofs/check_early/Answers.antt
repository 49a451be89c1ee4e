-- `program::check_early` meets its contract: row 6, then the configuration's.
use mathlib.Core.Path.{◌≡◌, sym, ap, ◌∙◌}
use mathlib.Core.List.{[], ◌∷◌}
use Prim.Native.Nat.{ℕ, ◌<◌}
use native.Mathlib.Omega.{arith}
use mathlib.Core.Bool.{Bool, not}
use Rattle.std.proofs.lemmas.Result.{err_from_is_err_and}
use Rattle.refusal.specs.Judge.{judged, first_of, ◌when◌}
use Rattle.refusal.specs.Refusal.{number_of}
use Rattle.refusal.proofs.Laws.{number-above, first_of-code, first_of-zero}
use Rattle.config.specs.Configuration.{config_code}
use Rattle.model.specs.Compile.{numbers_allowed}
use Rattle.program.specs.Steps.{early_code}
use Rattle.program.proofs.check_early.Goals as goal

pub returns-in_err-when : goal.returns-in_err-when
unfolding early_code
returns-in_err-when c =
    let a = c.args in
    let p = err_from_is_err_and c.from_residual.result c.from_residual.ensures.1 in
    let r = c.in_err-when.field-0.0 in
    let above : 0 < number_of r = number-above r in
    let e : number_of r ≡ judged (6 when not (numbers_allowed a.matrix a.tables.now) ∷ []) =
    c.in_err-when.ensures ∙ ap (λ (b : Bool). judged (6 when not b ∷ [])) c.numbers_allowed.ensures in
    rw (p.1, p.2) (e ∙ sym (first_of-code _ _ (λ z. omega (arith, e, z))))

pub returns : goal.returns
unfolding early_code
returns c =
    let a = c.args in
    let none : 0 ≡ judged (6 when not (numbers_allowed a.matrix a.tables.now) ∷ []) =
    c.in_ok-when.ensures ∙ ap (λ (b : Bool). judged (6 when not b ∷ [])) c.numbers_allowed.ensures in
    let range = config_code a.config.sample_rate a.config.max_frames a.config.voices in
    c.check.ensures ∙ sym (ap (λ (n : ℕ). first_of n range) (sym none) ∙ first_of-zero range)
