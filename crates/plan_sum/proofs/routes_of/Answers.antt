-- `plan_sum::routes_of` meets its contract.
use borrow.Author.Rules.{rules}
use mathlib.Core.Path.{refl}
use Rattle.list.proofs.Elements.{length-mapped}
use Rattle.plan_sum.proofs.routes_of.Goals as goal

pub returns : goal.returns
returns c = (refl, search (rules, length-mapped))
