-- What the answers of the calls that read say, in the model's words. Definitions only.
use Rattle.std.specs.Prelude.{Option, Some, None, Result, Ok, Err, List, [], ℕ, Float}
use Rattle.std.specs.Borrow.{Bor}
use Rattle.refusal.specs.Refusal.{number_of}
use Rattle.refusal.specs.declared.Refusal.{Refusal}
use Rattle.state.specs.Output.{Output}
use Rattle.state.specs.Output as O
use Rattle.state.specs.Reading.{Reading}
use Rattle.state.specs.Reading as R
use Rattle.state.specs.Ramped.{Ramped}
use Rattle.state.specs.Ramped as M
use Rattle.model.specs.Outputs.{Parted}
use Rattle.engine_reads.specs.declared.Output.{Output as Shape}
use Rattle.engine_reads.specs.declared.Output.TheVariants as S

-- a shape
abbrev pub shape_said : Shape → Output
shape_said S.Unmodulated = O.Unmodulated
shape_said (S.Audio w) = O.Audio w
shape_said (S.Control w n) = O.Control w n

abbrev pub output_said : Result Shape Refusal → Output
output_said (Ok s) = shape_said s
output_said (Err r) = O.Refused (number_of r)

-- a part of a lent memory
abbrev pub part_said : Result (Bor (List Float)) Refusal → Parted
part_said (Ok p) = record { code = 0; numbers = p.now }
part_said (Err r) = record { code = number_of r; numbers = [] }

-- a number, or that there is none
abbrev pub reading_said : Result (Option Float) Refusal → Reading
reading_said (Ok None) = R.Nothing
reading_said (Ok (Some x)) = R.Value x
reading_said (Err r) = R.Refused (number_of r)

-- how many numbers of a ramp were written
abbrev pub ramped_said : Result (Option ℕ) Refusal → Ramped
ramped_said (Ok None) = M.Nothing
ramped_said (Ok (Some n)) = M.Filled n
ramped_said (Err r) = M.Refused (number_of r)
