-- `plan_sheet::put_plan` meets its contract.
use mathlib.Core.Path.{refl}
use native.Mathlib.Omega.{arith}
use lib.ListN.{length-set}
use Rattle.plan_sheet.specs.Sheet.{put_numbers, put_words}
use Rattle.plan_sheet.proofs.put_plan.Goals as goal

pub bounds-numbers-k-2 : goal.bounds-numbers-k-2
bounds-numbers-k-2 c = simp length-set (omega (arith, c.requires.0, c.requires.1, c.requires.2))

pub bounds-numbers-k-3 : goal.bounds-numbers-k-3
bounds-numbers-k-3 c = simp length-set (omega (arith, c.requires.0, c.requires.1, c.requires.2))

pub bounds-numbers-k-4 : goal.bounds-numbers-k-4
bounds-numbers-k-4 c = simp length-set (omega (arith, c.requires.0, c.requires.1, c.requires.2))

pub bounds-words-j-2 : goal.bounds-words-j-2
bounds-words-j-2 c = simp length-set (omega (arith, c.requires.0, c.requires.1, c.requires.2))

pub returns : goal.returns
unfolding put_numbers put_words
returns c = (refl, refl)
