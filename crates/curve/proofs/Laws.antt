-- Laws of the calls that proofs cite in place of the definitions' text.
use mathlib.Core.Path.{◌≡◌}
use mathlib.Core.List.{List}
use Prim.Native.Nat.{ℕ, ◌<◌}
use native.Mathlib.Omega.{arith}
use lib.ListN.{length, get_or}
use lib.Ieee.{Float, nan}
use Rattle.std.specs.declared.result.Result.TheVariants.{Err}
use borrow.Author.Tests.{eq-eqb, ne_eqb}
use Rattle.number.specs.Number.{zero32}
use Rattle.refusal.specs.Refusal.{number_of}
use Rattle.refusal.specs.declared.Refusal.{Refusal}
use Rattle.refusal.proofs.Laws.{number-above}
use Rattle.curve_table.specs.Curve.{curve_code, seconds_of}
use Rattle.curve_table.specs.declared.Curve.{Curve}
use Rattle.curve_table.specs.Table.{points, lookup_of, table_code, diagonal_at}
use Rattle.curve_table.proofs.Laws.{length-tabulated, tabulated-at}
use Rattle.curve.specs.CurveCalls.{looked_said, lookup_call, slewed_said, slew_call, diagonal_table}

-- a table that is accepted is looked up; one that is refused gives its row and 0
pub lookup-accepted : (t : List Float) (x : Float) → table_code t ≡ 0 → lookup_call t x ≡ record { code = 0; value = lookup_of t x }
unfolding lookup_call
lookup-accepted t x h = simp (eq-eqb _ _ h)

pub lookup-refused : (t : List Float) (x : Float) → (table_code t ≡ 0 → ⊥) → lookup_call t x ≡ record { code = table_code t; value = zero32 }
unfolding lookup_call
lookup-refused t x h = simp (ne_eqb _ _ h)

-- as a Result says it
pub lookup-refused-by : (t : List Float) (x : Float) (r : Refusal) → number_of r ≡ table_code t → lookup_call t x ≡ looked_said (Err r)
unfolding lookup_call
lookup-refused-by t x r e = rw (ne_eqb (table_code t) 0 (λ z. omega (arith, number-above r)), e)

-- a curve that is accepted has its seconds; one that is refused gives its row and 0
pub slew-accepted : (c : Curve) → curve_code c ≡ 0 → slew_call c ≡ record { code = 0; seconds = seconds_of c }
unfolding slew_call
slew-accepted c h = simp (eq-eqb _ _ h)

pub slew-refused : (c : Curve) → (curve_code c ≡ 0 → ⊥) → slew_call c ≡ record { code = curve_code c; seconds = record { rise = zero32; fall = zero32 } }
unfolding slew_call
slew-refused c h = simp (ne_eqb _ _ h)

-- as a Result says it
pub slew-refused-by : (c : Curve) (r : Refusal) → number_of r ≡ curve_code c → slew_call c ≡ slewed_said (Err r)
unfolding slew_call
slew-refused-by c r e = rw (ne_eqb (curve_code c) 0 (λ z. omega (arith, number-above r)), e)

-- the diagonal has 513 numbers, and i / 512 at i
pub length-diagonal : length diagonal_table ≡ points
unfolding diagonal_table
length-diagonal = length-tabulated diagonal_at

pub diagonal-at : (i : ℕ) → i < points → get_or diagonal_table i nan ≡ diagonal_at i
unfolding diagonal_table
diagonal-at i h = tabulated-at diagonal_at i h
