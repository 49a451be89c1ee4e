-- `decimal::run` meets its contract. Assumes nothing.
use Rattle.std.proofs.Common.{rules, tests, ap, ◌∙◌, length, not, Option, ℕ}
use Rattle.std.proofs.lemmas.Iterator.{YieldsList-from_slice}
use Rattle.std.proofs.lemmas.Iterator.Search.{position_from_yields_List}
use Rattle.std.specs.Option.{unwrap_or}
use Rattle.decimal.specs.Decimal.{is_digit}
use Rattle.decimal.proofs.Rows.{run-or_all, run-within}
use Rattle.decimal.proofs.run.Goals as goal

pub returns : goal.returns
returns c =
    let s = c.args.s.now in
    let e = position_from_yields_List (λ b. not (is_digit b)) _ _ c.position.result c.position.ensures.ran (YieldsList-from_slice _ c.iter.ensures.rest) (λ x b q k. search (rules, tests)) in
    let u = c.unwrap_or.ensures ∙ ap (λ (o : Option ℕ). unwrap_or o (length s)) e ∙ run-or_all s in
    (u, rw u (run-within s))
