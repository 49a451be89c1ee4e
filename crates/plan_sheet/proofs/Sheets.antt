-- A row more of the sheet, and what its rows can be swept up to. Assumes nothing.
use mathlib.Core.Path.{◌≡◌, refl, sym, ap, ◌∙◌, subst}
use mathlib.Core.Bool.{Bool}
use mathlib.Core.Logic.{⊎_elim}
use mathlib.Core.List.{List}
use Prim.Native.Nat.{ℕ, ◌+◌, ◌-◌, ◌*◌, ◌≤◌, ◌<◌}
use native.Mathlib.Nat.{eq-or-lt_of_le, le_of_suc-le-suc, mul-le-mul_right}
use native.Mathlib.Omega.{arith}
use lib.ListN.{length, get_or, set, length-set}
use lib.Seq.{get_or-set_same, get_or-set_other}
use lib.Ieee.{Float, nan}
use Rattle.config.specs.Sizes.{slots, most_frames, lanes}
use Rattle.number.specs.Number.{plus}
use Rattle.state.specs.declared.Gains.{Gains}
use Rattle.state.specs.declared.Plan.{Plan}
use Rattle.state_filled.specs.Filled.{no_plan}
use Rattle.model.specs.Counts.{at}
use Rattle.plan_sum.specs.Job.{base_by}
use Rattle.plan_sweep.specs.declared.Field.{Field}
use Rattle.plan_sweep.specs.declared.Pass.{Pass}
use Rattle.plan_sweep.specs.Leads.{offset_sum, pass_of, Swept}
use Rattle.plan_sweep.specs.Sweep.{Within}
use Rattle.plan_sweep.proofs.Kept.{pass-is}
use Rattle.plan_sheet.specs.Sheet.{numbers_size, words_size, put_numbers, put_words, base_at, pass_at, Row, Sheet, Laid}

-- ---- a row that is put

module _ (d : ℕ) (b h lo hi : Float) (m : List Float) where
  pub numbers-length : length (put_numbers d b h lo hi m) ≡ length m
  unfolding put_numbers
  numbers-length = simp length-set refl

  -- the numbers before it stay
  number-low : (i : ℕ) → i < 4 * d → at (put_numbers d b h lo hi m) i ≡ at m i
  unfolding put_numbers
  number-low i k =
      get_or-set_other (set (set (set m (4 * d) b) (4 * d + 1) h) (4 * d + 2) lo) (4 * d + 3) i hi nan (λ e. omega arith)
      ∙ get_or-set_other (set (set m (4 * d) b) (4 * d + 1) h) (4 * d + 2) i lo nan (λ e. omega arith)
      ∙ get_or-set_other (set m (4 * d) b) (4 * d + 1) i h nan (λ e. omega arith)
      ∙ get_or-set_other m (4 * d) i b nan (λ e. omega arith)

  module _ (long : 4 * d + 4 ≤ length m) where
    number-0 : at (put_numbers d b h lo hi m) (4 * d) ≡ b
    unfolding put_numbers
    number-0 =
        get_or-set_other (set (set (set m (4 * d) b) (4 * d + 1) h) (4 * d + 2) lo) (4 * d + 3) (4 * d) hi nan (λ e. omega arith)
        ∙ get_or-set_other (set (set m (4 * d) b) (4 * d + 1) h) (4 * d + 2) (4 * d) lo nan (λ e. omega arith)
        ∙ get_or-set_other (set m (4 * d) b) (4 * d + 1) (4 * d) h nan (λ e. omega arith)
        ∙ get_or-set_same m (4 * d) b nan (omega arith)

    number-1 : at (put_numbers d b h lo hi m) (4 * d + 1) ≡ h
    unfolding put_numbers
    number-1 =
        get_or-set_other (set (set (set m (4 * d) b) (4 * d + 1) h) (4 * d + 2) lo) (4 * d + 3) (4 * d + 1) hi nan (λ e. omega arith)
        ∙ get_or-set_other (set (set m (4 * d) b) (4 * d + 1) h) (4 * d + 2) (4 * d + 1) lo nan (λ e. omega arith)
        ∙ get_or-set_same (set m (4 * d) b) (4 * d + 1) h nan (simp length-set (omega arith))

    number-2 : at (put_numbers d b h lo hi m) (4 * d + 2) ≡ lo
    unfolding put_numbers
    number-2 =
        get_or-set_other (set (set (set m (4 * d) b) (4 * d + 1) h) (4 * d + 2) lo) (4 * d + 3) (4 * d + 2) hi nan (λ e. omega arith)
        ∙ get_or-set_same (set (set m (4 * d) b) (4 * d + 1) h) (4 * d + 2) lo nan (simp length-set (omega arith))

    number-3 : at (put_numbers d b h lo hi m) (4 * d + 3) ≡ hi
    unfolding put_numbers
    number-3 = get_or-set_same (set (set (set m (4 * d) b) (4 * d + 1) h) (4 * d + 2) lo) (4 * d + 3) hi nan (simp length-set (omega arith))

module _ (d first count : ℕ) (w : List ℕ) where
  pub words-length : length (put_words d first count w) ≡ length w
  unfolding put_words
  words-length = simp length-set refl

  word_low : (i : ℕ) → i < 2 * d → get_or (put_words d first count w) i 0 ≡ get_or w i 0
  unfolding put_words
  word_low i k =
      get_or-set_other (set w (2 * d) first) (2 * d + 1) i count 0 (λ e. omega arith) ∙ get_or-set_other w (2 * d) i first 0 (λ e. omega arith)

  module _ (long : 2 * d + 2 ≤ length w) where
    word-0 : get_or (put_words d first count w) (2 * d) 0 ≡ first
    unfolding put_words
    word-0 =
        get_or-set_other (set w (2 * d) first) (2 * d + 1) (2 * d) count 0 (λ e. omega arith) ∙ get_or-set_same w (2 * d) first 0 (omega arith)

    word-1 : get_or (put_words d first count w) (2 * d + 1) 0 ≡ count
    unfolding put_words
    word-1 = get_or-set_same (set w (2 * d) first) (2 * d + 1) count 0 (simp length-set (omega arith))

-- by its six numbers
abbrev pass_by : Field → Bool → Float → Float → Float → ℕ → ℕ → Pass
pass_by q bound b lo hi first count =
    record { begun = b; bound = bound; min = lo; max = hi; first = first; count = count; from = q.from; groups = q.groups; width = q.stride }

pass_same : (q : Field) (bound : Bool) (b b' lo lo' hi hi' : Float) (f f' c c' : ℕ) → b ≡ b' → lo ≡ lo' → hi ≡ hi' → f ≡ f' → c ≡ c'
    → pass_by q bound b lo hi f c ≡ pass_by q bound b' lo' hi' f' c'
pass_same q bound b b' lo lo' hi hi' f f' c c' e₁ e₂ e₃ e₄ e₅ = rw (e₁, e₂, e₃, e₄, e₅)

pub sheet-none : (q : Field) (p : List ℕ) (o : List Float) (v : Gains) (g a : List Float) (plans : List Plan) (m : List Float) (w : List ℕ) → length m ≡ numbers_size
    → length w ≡ words_size → Sheet q p o v g a plans 0 m w
sheet-none q p o v g a plans m w e f = record { numbers = e; words = f; row = λ d h. absurd (omega arith); base = λ d h. absurd (omega arith) }

pub sheet-all : (q : Field) (p : List ℕ) (o : List Float) (v : Gains) (g a : List Float) (plans : List Plan) (d n : ℕ) (m : List Float) (w : List ℕ) → d ≡ n
    → Sheet q p o v g a plans d m w → Sheet q p o v g a plans n m w
sheet-all q p o v g a plans d n m w e z = subst (λ (k : ℕ). Sheet q p o v g a plans k m w) e z

module _ (q : Field) (p : List ℕ) (o : List Float) (v : Gains) (g a : List Float) (plans : List Plan) (d : ℕ) (m m' : List Float) (w w' : List ℕ) where
  -- ONE PLAN MORE
  pub sheet-more : (x : Plan) (base offset : Float) → d < slots → x ≡ get_or plans d no_plan → Swept q x p → base ≡ base_by v g a x.dest x.base
      → offset ≡ offset_sum o x.first x.count → m' ≡ put_numbers d (plus base offset) base x.min x.max m → w' ≡ put_words d x.first x.count w
      → Sheet q p o v g a plans d m w → Sheet q p o v g a plans (d + 1) m' w'
  sheet-more x base offset near is swept eb eo em ew z =
      let b : Float = plus base offset in
      let m₁ : List Float = put_numbers d b base x.min x.max m in
      let w₁ : List ℕ = put_words d x.first x.count w in
      let long : 4 * d + 4 ≤ length m = omega (arith, z.numbers) in
      let wide : 2 * d + 2 ≤ length w = omega (arith, z.words) in
      let based : base_at m₁ d ≡ base = number-1 d b base x.min x.max m long in
      let here : (bound : Bool) → pass_at q bound m₁ w₁ d ≡ pass_of q x (base_at m₁ d) bound o =
      λ bound.
      pass_same q bound _ b _ x.min _ x.max _ x.first _ x.count (number-0 d b base x.min x.max m long) (number-2 d b base x.min x.max m long) (number-3 d b base x.min x.max m long) (word-0 d x.first x.count w wide) (word-1 d x.first x.count w wide)
      ∙ pass-is q x base bound o offset eo
      ∙ ap (λ (y : Float). pass_of q x y bound o) (sym based) in
      let row_here : Row q p o x m₁ w₁ d = record { swept = swept; pass = here } in
      let low : (e : ℕ) → e < d → base_at m₁ e ≡ base_at m e = λ e h. number-low d b base x.min x.max m (4 * e + 1) (omega arith) in
      let kept : (e : ℕ) → e < d → (bound : Bool) → pass_at q bound m₁ w₁ e ≡ pass_at q bound m w e =
      λ e h bound.
      pass_same q bound _ _ _ _ _ _ _ _ _ _ (number-low d b base x.min x.max m (4 * e) (omega arith)) (number-low d b base x.min x.max m (4 * e + 2) (omega arith)) (number-low d b base x.min x.max m (4 * e + 3) (omega arith)) (word_low d x.first x.count w (2 * e) (omega arith)) (word_low d x.first x.count w (2 * e + 1) (omega arith)) in
      let row_low : (e : ℕ) → e < d → Row q p o (get_or plans e no_plan) m₁ w₁ e =
      λ e h.
      record {
        swept = (z.row e h).swept;
        pass = λ bound. kept e h bound ∙ (z.row e h).pass bound ∙ ap (λ (y : Float). pass_of q (get_or plans e no_plan) y bound o) (sym (low e h));
      } in
      let whole : Sheet q p o v g a plans (d + 1) m₁ w₁ =
      record {
        numbers = numbers-length d b base x.min x.max m ∙ z.numbers;
        words = words-length d x.first x.count w ∙ z.words;
        row =
            λ e h.
            ⊎_elim
            (λ (k : e ≡ d). subst (λ (i : ℕ). Row q p o (get_or plans i no_plan) m₁ w₁ i) (sym k) (subst (λ (y : Plan). Row q p o y m₁ w₁ d) is row_here))
            (λ (k : e < d). row_low e k)
            (eq-or-lt_of_le (le_of_suc-le-suc (omega arith)));
        base =
            λ e h.
            ⊎_elim
            (λ (k : e ≡ d).
            subst (λ (i : ℕ). base_at m₁ i ≡ base_by v g a (get_or plans i no_plan).dest (get_or plans i no_plan).base) (sym k)
            (subst (λ (y : Plan). base_at m₁ d ≡ base_by v g a y.dest y.base) is (based ∙ eb)))
            (λ (k : e < d). low e k ∙ z.base e k)
            (eq-or-lt_of_le (le_of_suc-le-suc (omega arith)));
      } in
      subst (λ (k : List Float). Sheet q p o v g a plans (d + 1) k w') (sym em) (subst (λ (k : List ℕ). Sheet q p o v g a plans (d + 1) m₁ k) (sym ew) whole)

-- ---- what the rows can be swept up to

-- what is asked of the lists
pub record Reach (q : Field) (s p : List ℕ) (g xs : List Float) (end : ℕ) : Type 0 where
  pub starts : length s ≡ slots
  pub steps : length p ≡ slots
  pub gains : length g ≡ slots
  pub stride : q.stride ≤ 64
  pub frames : end ≤ most_frames
  pub span : q.from + q.groups * lanes ≤ q.stride
  pub wide : (i : ℕ) → i < slots → 0 < get_or p i 0 → q.stride ≤ get_or p i 0
  pub inside : (i : ℕ) → i < slots → 0 < get_or p i 0 → get_or s i 0 + end * get_or p i 0 ≤ length xs

-- a plan that is swept
pub within-reach : (q : Field) (s p : List ℕ) (g xs o : List Float) (end : ℕ) (x : Plan) (base : Float) (bound : Bool) → Reach q s p g xs end → Swept q x p
    → Within s p g xs (pass_of q x base bound o) end
within-reach q s p g xs o end x base bound k y =
    let route : (i : ℕ) → x.first ≤ i → i < x.first + x.count → 0 < get_or p i 0 =
    λ i a b.
    let j : ℕ = i - x.first in
    let same : x.first + j ≡ i = omega arith in
    subst (λ (n : ℕ). 0 < get_or p n 0) same (y.led j (omega arith)) in
    record {
      starts = k.starts;
      steps = k.steps;
      gains = k.gains;
      routes = y.routes;
      span = k.span;
      width = k.stride;
      frames = k.frames;
      number = y.number;
      wide = λ i a b. k.wide i (omega (arith, y.routes)) (route i a b);
      inside = λ i a b. k.inside i (omega (arith, y.routes)) (route i a b);
    }

pub laid-is : (q : Field) (s p : List ℕ) (gs xs o : List Float) (v : Gains) (g a : List Float) (plans : List Plan) (n end : ℕ) (m : List Float) (w : List ℕ) → n ≤ slots
    → (0 < n → Reach q s p gs xs end) → Sheet q p o v g a plans n m w → Laid q s p gs xs m w n end
laid-is q s p gs xs o v g a plans n end m w few k z =
    record {
      plans = few;
      numbers = z.numbers;
      words = z.words;
      within =
          λ d bound h.
          subst (λ (y : Pass). Within s p gs xs y end) (sym ((z.row d h).pass bound))
          (within-reach q s p gs xs o end (get_or plans d no_plan) (base_at m d) bound (k (omega arith)) (z.row d h).swept);
    }

within-sooner : (s p : List ℕ) (g xs : List Float) (q : Pass) (end sooner : ℕ) → sooner ≤ end → Within s p g xs q end → Within s p g xs q sooner
within-sooner s p g xs q end sooner h k =
    record {
      starts = k.starts;
      steps = k.steps;
      gains = k.gains;
      routes = k.routes;
      span = k.span;
      width = k.width;
      frames = omega (arith, k.frames);
      number = k.number;
      wide = k.wide;
      inside = λ i a b. omega (arith, k.inside i a b, mul-le-mul_right (get_or p i 0) h);
    }

-- fewer plans, up to an earlier frame
pub laid-less : (q : Field) (s p : List ℕ) (g xs m : List Float) (w : List ℕ) (n k end sooner : ℕ) → k ≤ n → sooner ≤ end → Laid q s p g xs m w n end → Laid q s p g xs m w k sooner
laid-less q s p g xs m w n k end sooner few h z =
    record {
      plans = omega (arith, z.plans);
      numbers = z.numbers;
      words = z.words;
      within = λ d bound b. within-sooner s p g xs (pass_at q bound m w d) end sooner h (z.within d bound (omega arith));
    }
