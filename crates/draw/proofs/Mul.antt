-- The product of two 64-bit numbers by their halves of 32 bits. Assumes nothing.
use Rattle.std.proofs.Common.{◌≡◌, ℕ, ◌+◌, ◌*◌, ◌/◌, ◌%◌, ◌<◌, ap, ◌∙◌, lt_of_le_of_lt, le_of_lt, mul_assoc, add-mul, mul-le-mul_left, mul-add, mul_right_comm, arith}
use native.Mathlib.Nat.{mul-mul-mul_comm}

-- a product of two halves fits 64 bits
pub halves : (a b : ℕ) → a < 4294967296 → b < 4294967296 → a * b < 18446744073709551616
halves a b ha hb = lt_of_le_of_lt (mul-le-mul_left a (le_of_lt hb)) (omega arith)

columns : (a1 a0 b1 b0 : ℕ)
    → (a1 * 4294967296 + a0) * (b1 * 4294967296 + b0) ≡ a1 * b1 * 18446744073709551616 + (a1 * b0 + a0 * b1) * 4294967296 + a0 * b0
columns a1 a0 b1 b0 =
    rw (mul-add, add-mul (a1 * 4294967296) a0 (b1 * 4294967296), add-mul (a1 * 4294967296) a0 b0, mul-mul-mul_comm)
    (omega (arith, mul_right_comm a1 4294967296 b0, mul_assoc a0 b1 4294967296))

-- the product is that of the upper halves times 2 ^ 64, the two cross products times 2 ^ 32, and that of the lower halves
pub by-halves : (a b : ℕ)
    → a * b
    ≡ a / 4294967296 * (b / 4294967296) * 18446744073709551616
    + (a / 4294967296 * (b % 4294967296) + a % 4294967296 * (b / 4294967296)) * 4294967296
    + a % 4294967296 * (b % 4294967296)
by-halves a b =
    let a1 = a / 4294967296 in
    let a0 = a % 4294967296 in
    let b1 = b / 4294967296 in
    let b0 = b % 4294967296 in
    let ea : a ≡ a1 * 4294967296 + a0 = omega arith in
    let eb : b ≡ b1 * 4294967296 + b0 = omega arith in
    ap (λ (x : ℕ). x * b) ea ∙ ap (λ (y : ℕ). (a1 * 4294967296 + a0) * y) eb ∙ columns a1 a0 b1 b0
