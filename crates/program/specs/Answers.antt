-- The answers of the public calls, each with the number of its refusal, 0 where the call is accepted (docs/CALLS.md,
-- program), and what the Rust answers say in these terms. Definitions only.
use Rattle.std.specs.Prelude.{ℕ, Result, Ok, Err}
use Rattle.number.specs.Number.{one32}
use Rattle.refusal.specs.Refusal.{number_of}
use Rattle.refusal.specs.declared.Refusal.{Refusal}
use Rattle.state.specs.declared.Program.{Program}
use Rattle.model.specs.Compile.{Compiled, empty_of}

pub record Count : Type 0 where
  pub code : ℕ
  pub n : ℕ

-- 0 where it is refused
abbrev pub count_said : Result ℕ Refusal → Count
count_said (Ok n) = record { code = 0; n = n }
count_said (Err r) = record { code = number_of r; n = 0 }

-- a refusal says the empty program for rate 1, 0 frames, 0 voices
abbrev pub compiled_said : Result Program Refusal → Compiled
compiled_said (Ok p) = record { code = 0; program = p }
compiled_said (Err r) =
    record { code = number_of r; program = empty_of (record { sample_rate = one32; max_frames = 0; voices = 0 }) }
