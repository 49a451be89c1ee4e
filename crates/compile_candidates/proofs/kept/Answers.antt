-- `compile_candidates::kept` meets its contract: below 256 the remainder is the number.
use mathlib.Core.Path.{ap}
use native.Mathlib.Nat.{mod-eq_of_lt}
use Rattle.std.specs.Prelude.{Some}
use Rattle.compile_candidates.proofs.kept.Goals as goal

pub returns : goal.returns
returns c = λ h. ap Some (mod-eq_of_lt h)
