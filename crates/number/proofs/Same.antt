-- Document 01's comparison is an equivalence, and of numbers that binary32 holds the test `same` decides it.
use Rattle.std.proofs.Common.{◌≡◌, ℕ, zero, suc, ◌*◌, ◌/◌, ◌^◌, Bool, true, false, ◌&&◌, ◌||◌, T, eqb, ℤ, sym, refl, ap, ◌∙◌, subst, zero-lt-suc, mul-pos, mul_right_comm, arith, eqb→eq}
use mathlib.Core.Bool.{beq}
use lib.Dec.{eqb_refl}
use lib.Ieee.{Float, nan, inf, fin, binary32, up, down, low, eq, is_nan, fits, to_bits, of_bits}
use lib.Ieee.Bits.{is_true, of_bits-to_bits}
use lib.Ieee.Fits.{up_pos, down_pos, and_l, and_r}
use lib.Ieee.Nearest.{div_same}
use Rattle.number.specs.Number.{same}
use Rattle.number.specs.Same.{◌≈◌, equal, zeros}
use Rattle.number.proofs.Laws.{no, yes-T, zero-plain}

-- ---- an equivalence
pub same-of-eq : {x y : Float} → x ≡ y → x ≈ y
same-of-eq {x} p = subst (λ (z : Float). x ≈ z) p equal

pub same-sym : {x y : Float} → x ≈ y → y ≈ x
same-sym equal = equal
same-sym zeros = zeros

pub same-trans : {x y z : Float} → x ≈ y → y ≈ z → x ≈ z
same-trans equal q = q
same-trans zeros equal = zeros
same-trans zeros zeros = zeros

-- ---- the test
beq-refl : (s : Bool) → beq s s ≡ true
beq-refl true = refl
beq-refl false = refl

level-itself : (s : Bool) (a : ℕ) → (eqb a a && (beq s s || eqb a 0)) ≡ true
level-itself s a = rw (is_true (eqb a a) (eqb_refl a), beq-refl s)

level-zeros : (s t : Bool) → (beq s t || true) ≡ true
level-zeros true true = refl
level-zeros true false = refl
level-zeros false true = refl
level-zeros false false = refl

pub test-of-same : {x y : Float} → x ≈ y → same x y ≡ true
unfolding same is_nan eq
test-of-same {x = nan} equal = refl
test-of-same {x = inf s} equal = beq-refl s
test-of-same {x = fin s m e} equal = level-itself s (m * up e * down e)
test-of-same (zeros {s = s} {t = t}) = level-zeros s t

-- ---- numbers of one size and sign that fit are written alike: their bits are the same
one-bits : (s : Bool) (m : ℕ) (e : ℤ) (n : ℕ) (d : ℤ) → m * up e * down d ≡ n * up d * down e → to_bits binary32 (fin s m e) ≡ to_bits binary32 (fin s n d)
unfolding to_bits
one-bits s m e n d h = rw count
  where
    count : m * up e * 2 ^ low binary32 / down e ≡ n * up d * 2 ^ low binary32 / down d
    count =
        div_same (m * up e * 2 ^ low binary32) (down e) (n * up d * 2 ^ low binary32) (down d) (down_pos e) (down_pos d)
        (mul_right_comm (m * up e) (2 ^ low binary32) (down d) ∙ ap (λ (z : ℕ). z * 2 ^ low binary32) h ∙ mul_right_comm (n * up d) (down e) (2 ^ low binary32))

one_size : (s : Bool) (m : ℕ) (e : ℤ) (n : ℕ) (d : ℤ) → T (fits binary32 (fin s m e)) → T (fits binary32 (fin s n d)) → m * up e * down d ≡ n * up d * down e → fin s m e ≡ fin s n d
one_size s m e n d f g h = sym (of_bits-to_bits binary32 (fin s m e) f) ∙ ap (of_bits binary32) (one-bits s m e n d h) ∙ of_bits-to_bits binary32 (fin s n d) g

no_size : (m : ℕ) (e d : ℤ) → m * up e * down d ≡ 0 → m ≡ 0
no_size zero e d h = refl
no_size (suc m) e d h = absurd (let p = mul-pos (mul-pos {m = suc m} (zero-lt-suc m) (up_pos e)) (down_pos d) in omega arith)

both-zeros : (s : Bool) (m : ℕ) (e : ℤ) (t : Bool) (n : ℕ) (d : ℤ) → T (fits binary32 (fin s m e)) → T (fits binary32 (fin t n d)) → m ≡ 0 → n ≡ 0 → fin s m e ≈ fin t n d
both-zeros s zero e t zero d f g p q = same-trans (same-of-eq (zero-plain s e f)) (same-trans zeros (same-sym (same-of-eq (zero-plain t d g))))
both-zeros s zero e t (suc n) d f g p q = absurd (omega arith)
both-zeros s (suc m) e t n d f g p q = absurd (omega arith)

leveled : (s : Bool) (m : ℕ) (e : ℤ) (t : Bool) (n : ℕ) (d : ℤ) → T (fits binary32 (fin s m e)) → T (fits binary32 (fin t n d))
    → m * up e * down d ≡ n * up d * down e → T (beq s t || eqb (m * up e * down d) 0) → fin s m e ≈ fin t n d
leveled true m e true n d f g h k = same-of-eq (one_size true m e n d f g h)
leveled false m e false n d f g h k = same-of-eq (one_size false m e n d f g h)
leveled true m e false n d f g h k = let z = eqb→eq (m * up e * down d) 0 k in both-zeros true m e false n d f g (no_size m e d z) (no_size n d e (sym h ∙ z))
leveled false m e true n d f g h k = let z = eqb→eq (m * up e * down d) 0 k in both-zeros false m e true n d f g (no_size m e d z) (no_size n d e (sym h ∙ z))

infinities : (s t : Bool) → beq s t ≡ true → inf s ≈ inf t
infinities true true h = equal
infinities true false h = absurd (no h)
infinities false true h = absurd (no h)
infinities false false h = equal

pub same-of-test : (x y : Float) → T (fits binary32 x) → T (fits binary32 y) → same x y ≡ true → x ≈ y
unfolding same is_nan eq
same-of-test nan nan f g h = equal
same-of-test nan (inf t) f g h = absurd (no h)
same-of-test nan (fin t n d) f g h = absurd (no h)
same-of-test (inf s) nan f g h = absurd (no h)
same-of-test (inf s) (inf t) f g h = infinities s t h
same-of-test (inf s) (fin t n d) f g h = absurd (no h)
same-of-test (fin s m e) nan f g h = absurd (no h)
same-of-test (fin s m e) (inf t) f g h = absurd (no h)
same-of-test (fin s m e) (fin t n d) f g h =
    let a = m * up e * down d in
    let b = n * up d * down e in
    let k = yes-T h in
    leveled s m e t n d f g (eqb→eq a b (and_l (eqb a b) (beq s t || eqb a 0) k)) (and_r (eqb a b) (beq s t || eqb a 0) k)
