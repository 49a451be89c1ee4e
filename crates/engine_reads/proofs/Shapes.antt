-- A shape, said in the model's words. Assumes nothing.
use mathlib.Core.Path.{◌≡◌, refl}
use mathlib.Core.Bool.{Bool, true, false, cond}
use Prim.Native.Nat.{ℕ}
use Rattle.state.specs.Output.{Output}
use Rattle.state.specs.Output as O
use Rattle.engine_reads.specs.declared.Spot.{Spot}
use Rattle.engine_reads.specs.Spot.{shape_by}
use Rattle.engine_reads.specs.Said.{shape_said}

said-by : (a c : Bool) (s : Spot) (n : ℕ) → shape_said (shape_by (record { audio = a; control = c; voice = s.voice; width = s.width; from = s.from; to = s.to; rows = s.rows }) n)
    ≡ cond a (O.Audio s.width) (cond c (O.Control s.width n) O.Unmodulated)
said-by true c s n = refl
said-by false true s n = refl
said-by false false s n = refl

pub shape-is : (s : Spot) (n : ℕ) → shape_said (shape_by s n) ≡ cond s.audio (O.Audio s.width) (cond s.control (O.Control s.width n) O.Unmodulated)
shape-is s n = said-by s.audio s.control s n
