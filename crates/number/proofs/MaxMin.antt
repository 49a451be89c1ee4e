-- What proofs use of max, min and `hold`. Of numbers that binary32 holds each law is true whichever zero is the answer of two, so no other proof need unfold the three.
use Rattle.std.proofs.Common.{◌≡◌, Bool, true, false, cond, ◌||◌, T, ◌⊎◌, sym, refl, ap, ◌∙◌, inl, inr}
use lib.Ieee.{Float, nan, inf, fin, Format, lt, is_nan, fits}
use Rattle.number.specs.Number.{finite, max32, min32, hold}
use Rattle.number.specs.Same.{◌≈◌}
use Rattle.number.proofs.Laws.{no, lt_irrefl, lt-asym, lt-nan-left, lt-nan-right, finite_number, finite-between}
use Rattle.number.proofs.Same.{same-of-eq}

-- ---- max and min by the tests that they make
picked : (P : Float → Type 0) (n l : Bool) (a b : Float) → (n ≡ true → P b) → (n ≡ false → l ≡ true → P b) → (n ≡ false → l ≡ false → P a) → P (cond (n || l) b a)
picked P true l a b f g h = f refl
picked P false true a b f g h = g refl refl
picked P false false a b f g h = h refl refl

max-picks : (P : Float → Type 0) (a b : Float) → (is_nan a ≡ true → P b) → (is_nan a ≡ false → lt a b ≡ true → P b) → (is_nan a ≡ false → lt a b ≡ false → P a) → P (max32 a b)
unfolding max32
max-picks P a b = picked P (is_nan a) (lt a b) a b

min-picks : (P : Float → Type 0) (a b : Float) → (is_nan a ≡ true → P b) → (is_nan a ≡ false → lt b a ≡ true → P b) → (is_nan a ≡ false → lt b a ≡ false → P a) → P (min32 a b)
unfolding min32
min-picks P a b = picked P (is_nan a) (lt b a) a b

is-nan : (x : Float) → is_nan x ≡ true → x ≡ nan
unfolding is_nan
is-nan nan h = refl
is-nan (inf s) h = absurd (no h)
is-nan (fin s m e) h = absurd (no h)

-- a number below another, or above it: neither is a NaN
left-of-lt : (x y : Float) → lt x y ≡ true → is_nan x ≡ false
left-of-lt x y h = go (is_nan x) refl
  where
    go : (b : Bool) → is_nan x ≡ b → b ≡ false
    go false e = refl
    go true e = absurd (no (sym (lt-nan-left x y e) ∙ h))

right-of-lt : (x y : Float) → lt x y ≡ true → is_nan y ≡ false
right-of-lt x y h = go (is_nan y) refl
  where
    go : (b : Bool) → is_nan y ≡ b → b ≡ false
    go false e = refl
    go true e = absurd (no (sym (lt-nan-right x y e) ∙ h))

-- ---- a NaN loses
pub max-nan-left : (b : Float) → max32 nan b ≡ b
unfolding max32 is_nan
max-nan-left b = refl

pub max-nan-right : (a : Float) → max32 a nan ≡ a
max-nan-right a = max-picks (λ (r : Float). r ≡ a) a nan (λ n. sym (is-nan a n)) (λ n l. absurd (no (sym (lt-nan-right a nan (unfold is_nan in refl)) ∙ l))) (λ n l. refl)

pub min-nan-left : (b : Float) → min32 nan b ≡ b
unfolding min32 is_nan
min-nan-left b = refl

pub min-nan-right : (a : Float) → min32 a nan ≡ a
min-nan-right a = min-picks (λ (r : Float). r ≡ a) a nan (λ n. sym (is-nan a n)) (λ n l. absurd (no (sym (lt-nan-left nan a (unfold is_nan in refl)) ∙ l))) (λ n l. refl)

-- ---- the answer is one of the two
pub max-one : (a b : Float) → (max32 a b ≡ a) ⊎ (max32 a b ≡ b)
max-one a b = max-picks (λ (r : Float). (r ≡ a) ⊎ (r ≡ b)) a b (λ n. inr refl) (λ n l. inr refl) (λ n l. inl refl)

pub min-one : (a b : Float) → (min32 a b ≡ a) ⊎ (min32 a b ≡ b)
min-one a b = min-picks (λ (r : Float). (r ≡ a) ⊎ (r ≡ b)) a b (λ n. inr refl) (λ n l. inr refl) (λ n l. inl refl)

-- ---- where one of the two is a number, so is the answer
pub max-number-left : (a b : Float) → is_nan a ≡ false → is_nan (max32 a b) ≡ false
max-number-left a b h = max-picks (λ (r : Float). is_nan r ≡ false) a b (λ n. absurd (no (sym h ∙ n))) (λ n l. right-of-lt a b l) (λ n l. n)

pub max-number-right : (a b : Float) → is_nan b ≡ false → is_nan (max32 a b) ≡ false
max-number-right a b h = max-picks (λ (r : Float). is_nan r ≡ false) a b (λ n. h) (λ n l. h) (λ n l. n)

pub min-number-left : (a b : Float) → is_nan a ≡ false → is_nan (min32 a b) ≡ false
min-number-left a b h = min-picks (λ (r : Float). is_nan r ≡ false) a b (λ n. absurd (no (sym h ∙ n))) (λ n l. left-of-lt b a l) (λ n l. n)

pub min-number-right : (a b : Float) → is_nan b ≡ false → is_nan (min32 a b) ≡ false
min-number-right a b h = min-picks (λ (r : Float). is_nan r ≡ false) a b (λ n. h) (λ n l. h) (λ n l. n)

-- ---- max is below neither of the two, min above neither
pub max-left : (a b : Float) → lt (max32 a b) a ≡ false
max-left a b = max-picks (λ (r : Float). lt r a ≡ false) a b (λ n. lt-nan-right b a n) (λ n l. lt-asym a b l) (λ n l. lt_irrefl a)

pub max-right : (a b : Float) → lt (max32 a b) b ≡ false
max-right a b = max-picks (λ (r : Float). lt r b ≡ false) a b (λ n. lt_irrefl b) (λ n l. lt_irrefl b) (λ n l. l)

pub min-left : (a b : Float) → lt a (min32 a b) ≡ false
min-left a b = min-picks (λ (r : Float). lt a r ≡ false) a b (λ n. lt-nan-left a b n) (λ n l. lt-asym b a l) (λ n l. lt_irrefl a)

pub min-right : (a b : Float) → lt b (min32 a b) ≡ false
min-right a b = min-picks (λ (r : Float). lt b r ≡ false) a b (λ n. lt_irrefl b) (λ n l. lt_irrefl b) (λ n l. l)

-- ---- a number held to bounds
hold-is : (lo hi x : Float) → hold lo hi x ≡ min32 (max32 x lo) hi
unfolding hold
hold-is lo hi x = refl

-- it is never a NaN, where the lower bound is none
pub hold-number : (lo hi x : Float) → is_nan lo ≡ false → is_nan (hold lo hi x) ≡ false
hold-number lo hi x h = rw (hold-is lo hi x) (min-number-left (max32 x lo) hi (max-number-right x lo h))

-- it lies within the bounds, where the upper one is not below the lower
pub hold-above : (lo hi x : Float) → lt hi lo ≡ false → lt (hold lo hi x) lo ≡ false
hold-above lo hi x h = rw (hold-is lo hi x) (go (min-one (max32 x lo) hi))
  where
    go : (min32 (max32 x lo) hi ≡ max32 x lo) ⊎ (min32 (max32 x lo) hi ≡ hi) → lt (min32 (max32 x lo) hi) lo ≡ false
    go (inl e) = rw e (max-right x lo)
    go (inr e) = rw e h

pub hold-below : (lo hi x : Float) → lt hi (hold lo hi x) ≡ false
hold-below lo hi x = rw (hold-is lo hi x) (min-right (max32 x lo) hi)

-- a NaN is held to the lower bound
pub hold-nan : (lo hi : Float) → lt lo hi ≡ true → hold lo hi nan ≡ lo
hold-nan lo hi h =
    hold-is lo hi nan ∙ ap (λ (z : Float). min32 z hi) (max-nan-left lo)
    ∙ min-picks (λ (r : Float). r ≡ lo) lo hi (λ n. absurd (no (sym (left-of-lt lo hi h) ∙ n))) (λ n l. absurd (no (sym (lt-asym lo hi h) ∙ l))) (λ n l. refl)

-- a number within the bounds stays
pub hold-within : (lo hi x : Float) → is_nan x ≡ false → lt x lo ≡ false → lt hi x ≡ false → hold lo hi x ≈ x
hold-within lo hi x n l h = same-of-eq (hold-is lo hi x ∙ ap (λ (z : Float). min32 z hi) top ∙ bottom)
  where
    top : max32 x lo ≡ x
    top = max-picks (λ (r : Float). r ≡ x) x lo (λ m. absurd (no (sym n ∙ m))) (λ m k. absurd (no (sym l ∙ k))) (λ m k. refl)

    bottom : min32 x hi ≡ x
    bottom = min-picks (λ (r : Float). r ≡ x) x hi (λ m. absurd (no (sym n ∙ m))) (λ m k. absurd (no (sym h ∙ k))) (λ m k. refl)

-- held to finite bounds it is finite
pub hold-finite : (lo hi x : Float) → finite lo ≡ true → finite hi ≡ true → lt hi lo ≡ false → finite (hold lo hi x) ≡ true
hold-finite lo hi x f g h = finite-between lo hi (hold lo hi x) f g (hold-number lo hi x (finite_number lo f)) (hold-above lo hi x h) (hold-below lo hi x)

-- ---- of numbers that a format holds the answer is one
pub max-fits : (f : Format) (a b : Float) → T (fits f a) → T (fits f b) → T (fits f (max32 a b))
max-fits f a b p q = max-picks (λ (r : Float). T (fits f r)) a b (λ n. q) (λ n l. q) (λ n l. p)

pub min-fits : (f : Format) (a b : Float) → T (fits f a) → T (fits f b) → T (fits f (min32 a b))
min-fits f a b p q = min-picks (λ (r : Float). T (fits f r)) a b (λ n. q) (λ n l. q) (λ n l. p)

pub hold-fits : (f : Format) (lo hi x : Float) → T (fits f lo) → T (fits f hi) → T (fits f x) → T (fits f (hold lo hi x))
hold-fits f lo hi x p q r = rw (hold-is lo hi x) (min-fits f (max32 x lo) hi (max-fits f x lo r p) q)
