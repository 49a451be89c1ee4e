-- Laws of single numbers that proofs cite in place of the definitions' text.
use Rattle.std.proofs.Common.{◌≡◌, ℕ, zero, suc, ◌*◌, ◌^◌, Bool, true, false, not, ◌&&◌, ◌||◌, T, eqb, ℤ, pos, negsuc, sym, refl, subst, zero-lt-suc, mul-pos, pow-suc, arith, eqb→eq, pow_pos, ltb-true, le-ltb}
use mathlib.Core.Bool.{beq}
use lib.Dec.{eqb_refl}
use lib.Ieee.{Float, nan, inf, fin, binary32, lt, eq, ne, fits, is_nan, up, down, add, mul}
use lib.Ieee.Bits.{is_true}
use lib.Ieee.Fits.{up_pos, and_l}
use Rattle.number.specs.Number.{zero32, finite, plus, times}

pub no : false ≡ true → ⊥
no h = subst T (sym h) tt

pub yes-T : {b : Bool} → b ≡ true → T b
yes-T h = subst T (sym h) tt

level-itself : (m : ℕ) → not (eqb m m && true) ≡ false
level-itself m = rw (is_true (eqb m m) (eqb_refl m))

-- the test for a NaN, as code has it
pub differs : (a : Float) → ne a a ≡ is_nan a
unfolding ne is_nan
differs nan = refl
differs (inf true) = refl
differs (inf false) = refl
differs (fin true m e) = level-itself (m * up e * down e)
differs (fin false m e) = level-itself (m * up e * down e)

-- a zero that is written in the one way has no exponent
pub zero-plain : (s : Bool) (e : ℤ) → T (fits binary32 (fin s 0 e)) → fin s 0 e ≡ fin s 0 (pos 0)
unfolding fits
zero-plain s (pos zero) f = refl
zero-plain s (pos (suc k)) f = absurd (let l = eqb→eq (2 ^ suc k * 1) 1 f in omega (arith, pow_pos k, pow-suc 2 k))
zero-plain s (negsuc k) f = absurd (let l = eqb→eq (1 * 2 ^ suc k) 1 f in omega (arith, pow_pos k, pow-suc 2 k))

-- a number that is equal to 0 is a zero
pub zero-of-eq : (s : Bool) (m : ℕ) (e : ℤ) → T (eq (fin s m e) zero32) → m ≡ 0
unfolding eq
zero-of-eq s zero e h = refl
zero-of-eq s (suc m) e h =
    absurd (let l = eqb→eq (suc m * up e * 1) (0 * down e) (and_l (eqb (suc m * up e * 1) (0 * down e)) (beq s false || eqb (suc m * up e * 1) 0) h) in omega (arith, mul-pos {m = suc m} (zero-lt-suc m) (up_pos e)))

-- ---- the order
pub lt_irrefl : (x : Float) → lt x x ≡ false
unfolding lt
lt_irrefl nan = refl
lt_irrefl (inf true) = refl
lt_irrefl (inf false) = refl
lt_irrefl (fin true m e) = le-ltb (m * up e * down e) (m * up e * down e) (omega arith)
lt_irrefl (fin false m e) = le-ltb (m * up e * down e) (m * up e * down e) (omega arith)

pub lt-asym : (x y : Float) → lt x y ≡ true → lt y x ≡ false
unfolding lt
lt-asym nan y h = absurd (no h)
lt-asym (inf s) nan h = absurd (no h)
lt-asym (inf true) (inf true) h = absurd (no h)
lt-asym (inf true) (inf false) h = refl
lt-asym (inf false) (inf t) h = absurd (no h)
lt-asym (inf true) (fin t n d) h = refl
lt-asym (inf false) (fin t n d) h = absurd (no h)
lt-asym (fin s m e) nan h = absurd (no h)
lt-asym (fin s m e) (inf true) h = absurd (no h)
lt-asym (fin s m e) (inf false) h = refl
lt-asym (fin true m e) (fin true n d) h = le-ltb (m * up e * down d) (n * up d * down e) (let l = ltb-true (n * up d * down e) (m * up e * down d) h in omega arith)
lt-asym (fin true m e) (fin false n d) h = refl
lt-asym (fin false m e) (fin true n d) h = absurd (no h)
lt-asym (fin false m e) (fin false n d) h = le-ltb (n * up d * down e) (m * up e * down d) (let l = ltb-true (m * up e * down d) (n * up d * down e) h in omega arith)

-- a NaN is below nothing and above nothing
pub lt-nan-left : (x y : Float) → is_nan x ≡ true → lt x y ≡ false
unfolding is_nan lt
lt-nan-left nan y h = refl
lt-nan-left (inf s) y h = absurd (no h)
lt-nan-left (fin s m e) y h = absurd (no h)

pub lt-nan-right : (x y : Float) → is_nan y ≡ true → lt x y ≡ false
unfolding is_nan lt
lt-nan-right nan y h = refl
lt-nan-right (inf s) nan h = refl
lt-nan-right (inf s) (inf t) h = absurd (no h)
lt-nan-right (inf s) (fin t n d) h = absurd (no h)
lt-nan-right (fin s m e) nan h = refl
lt-nan-right (fin s m e) (inf t) h = absurd (no h)
lt-nan-right (fin s m e) (fin t n d) h = absurd (no h)

-- ---- finite numbers
pub finite_number : (x : Float) → finite x ≡ true → is_nan x ≡ false
unfolding finite is_nan
finite_number nan h = absurd (no h)
finite_number (inf s) h = refl
finite_number (fin s m e) h = refl

-- what is not below a finite number, nor above one, is finite
pub finite-between : (lo hi x : Float) → finite lo ≡ true → finite hi ≡ true → is_nan x ≡ false → lt x lo ≡ false → lt hi x ≡ false → finite x ≡ true
unfolding finite is_nan lt
finite-between lo hi (fin s m e) f g n l h = refl
finite-between lo hi nan f g n l h = sym n
finite-between nan hi (inf true) f g n l h = absurd (no f)
finite-between (inf s) hi (inf true) f g n l h = absurd (no f)
finite-between (fin s m e) hi (inf true) f g n l h = absurd (no (sym l))
finite-between lo nan (inf false) f g n l h = absurd (no g)
finite-between lo (inf s) (inf false) f g n l h = absurd (no g)
finite-between lo (fin s m e) (inf false) f g n l h = absurd (no (sym h))

-- ---- a NaN on the right
pub plus-nan : (x : Float) → plus x nan ≡ nan
unfolding add
plus-nan nan = refl
plus-nan (inf s) = refl
plus-nan (fin s m e) = refl

pub times-nan : (x : Float) → times x nan ≡ nan
unfolding mul
times-nan nan = refl
times-nan (inf s) = refl
times-nan (fin s m e) = refl
