-- Where a call put a route (docs/CALLS.md, matrix). Definitions only.
use Rattle.std.specs.Prelude.{ℕ}

pub data Place : Type 0 where
  At : ℕ → Place
  Full : Place
  NoFreeLfo : Place
  Refused : Place
