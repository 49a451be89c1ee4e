-- The destination that feeds a thing (document 01, Plan and route). Definitions only.
use Rattle.std.specs.Prelude.{Bool, ℕ, Option, Some}
use Rattle.state.specs.declared.FedBy.{FedBy}

-- fed by destination d, which has a value per voice or one for all
abbrev pub by_dest : ℕ → Bool → Option FedBy
by_dest d v = Some (record { dest = d; voice = v })
