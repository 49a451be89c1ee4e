-- The newest: the search finds the active voice of the lowest rank, there is no other, and every call keeps it so. Assumes nothing.
use mathlib.Core.Path.{◌≡◌, refl, sym, ap, ◌∙◌}
use mathlib.Core.Logic.{◌≢◌, ◌⊎◌, inl, inr}
use mathlib.Core.Bool.{Bool, true, false, cond}
use mathlib.Core.List.{List, [], ◌∷◌}
use Prim.Native.Nat.{ℕ, zero, suc, ◌<◌}
use native.Mathlib.Decide.{ℕ_discrete, dec_lt}
use native.Mathlib.Omega.{arith}
use lib.Dec.{eqb}
use lib.ListN.{get_or, set, length-set, get_or-replicate}
use lib.Seq.{get_or-set_same, get_or-set_other}
use borrow.Author.Tests.{lt-ltb, le-ltb, eq-eqb}
use Rattle.std.specs.Prelude.{Option, Some}
use Rattle.config.specs.Sizes.{most_voices}
use Rattle.voice.specs.declared.Voices.{Voices}
use Rattle.voice.specs.Voices.{rank_of, latest, later, is_voice, newest_after, no_voices, sounded_on, released_of, ended_of}
use Rattle.voice.specs.Sounded.{Ranks, Latest, none, one, Note, on, off, ended, noted, voices_after, Right}
use Rattle.voice.proofs.Ranks.{ranks-first, ranks-on, on_same}

-- a test passes or fails, with the equation
which : (b : Bool) → (b ≡ true) ⊎ (b ≡ false)
which true = inl refl
which false = inr refl

clash : (b : Bool) → b ≡ true → b ≡ false → ⊥
clash b p q = let z : ◌≡◌ {A = ℕ} 0 1 = cc in omega arith

module _ (active : List Bool) (rank : List ℕ) where
  -- one voice more, not active
  latest-off : (n : ℕ) (w : Option ℕ) → get_or active n false ≡ false → Latest active rank n w → Latest active rank (suc n) w
  latest-off n w e (none f) = none (λ u h. elim (ℕ_discrete u n) [ yes p ↦ rw p e | no ne ↦ f u (omega arith) ])
  latest-off n w e (one {w = x} h t f) =
      one {w = x} (omega arith) t (λ u i s. elim (ℕ_discrete u n) [ yes p ↦ absurd (clash (get_or active n false) (rw p at s) e) | no ne ↦ f u (omega arith) s ])

  -- one voice more, active
  latest-on : (n : ℕ) (w : Option ℕ) → get_or active n false ≡ true → Latest active rank n w → Latest active rank (suc n) (later rank n w)
  latest-on n w e (none f) =
      one {w = n} (omega arith) e (λ u i s. elim (ℕ_discrete u n) [ yes p ↦ rw p (omega arith) | no ne ↦ absurd (clash (get_or active u false) s (f u (omega arith))) ])
  latest-on n w e (one {w = x} h t f) = elim (dec_lt (rank_of rank n) (rank_of rank x)) [
    | yes p ↦ rw (lt-ltb (rank_of rank n) (rank_of rank x) p)
        (one {w = n} (omega arith) e (λ u i s. elim (ℕ_discrete u n) [ yes q ↦ rw q (omega arith) | no ne ↦ omega (arith, f u (omega arith) s) ]))
    | no p ↦ rw (le-ltb (rank_of rank n) (rank_of rank x) (omega arith))
        (one {w = x} (omega arith) t (λ u i s. elim (ℕ_discrete u n) [ yes q ↦ rw q (omega arith) | no ne ↦ f u (omega arith) s ]))
  ]

  -- WHAT THE SEARCH FINDS
  pub latest-is : (n : ℕ) → Latest active rank n (latest active rank n)
  latest-is zero = none (λ u h. absurd (omega arith))
  latest-is (suc n) = go (which (get_or active n false)) (latest-is n)
    where
      go : (get_or active n false ≡ true) ⊎ (get_or active n false ≡ false) → Latest active rank n (latest active rank n) → Latest active rank (suc n) (latest active rank (suc n))
      go (inl e) ih = rw e (latest-on n (latest active rank n) e ih)
      go (inr e) ih = rw e (latest-off n (latest active rank n) e ih)

  -- AND NOTHING ELSE IS IT
  pub latest-only : Ranks rank → (x y : Option ℕ) → Latest active rank most_voices x → Latest active rank most_voices y → x ≡ y
  latest-only r x y (none f) (none g) = refl
  latest-only r x y (none f) (one {w = w} h t g) = absurd (clash (get_or active w false) t (f w h))
  latest-only r x y (one {w = w} h t g) (none f) = absurd (clash (get_or active w false) t (f w h))
  latest-only r x y (one {w = w} h t f) (one {w = z} i s g) = ap Some (r.apart w z h i (omega (arith, f z i s, g w h t)))

-- ---- every call keeps it

right-first : Right no_voices
unfolding no_voices
right-first = record { long = refl; ranks = ranks-first; newest = none (λ u h. get_or-replicate most_voices u false false h) }

module _ (s : Voices) (r : Right s) (v : ℕ) where
  right-on : Right (sounded_on s v)
  unfolding sounded_on
  right-on = elim (dec_lt v most_voices) [
    | no p ↦ rw (le-ltb v most_voices (omega arith)) r
    | yes h ↦ rw (lt-ltb v most_voices h) (record {
      long = length-set s.active v true ∙ r.long;
      ranks = ranks-on s.rank r.ranks v h;
      newest =
          one h (get_or-set_same s.active v true false (omega (arith, r.long))) (λ u i t. omega (arith, on_same s.rank r.ranks v h));
    })
  ]

  -- another voice's mark is as it was
  still-on : (u : ℕ) → get_or (set s.active v false) u false ≡ true → v < most_voices → (get_or s.active u false ≡ true) × (u ≢ v)
  still-on u t h =
      let ne : u ≢ v = λ e. clash (get_or (set s.active v false) v false) (rw e at t) (get_or-set_same s.active v false false (omega (arith, r.long))) in
      (sym (get_or-set_other s.active v u false false ne) ∙ t, ne)

  newest-stays : (w : Option ℕ) → is_voice w v ≡ false → v < most_voices → Latest s.active s.rank most_voices w → Latest (set s.active v false) s.rank most_voices w
  newest-stays w e h (none f) = none (λ u i. off-still u i (which (get_or (set s.active v false) u false)))
    where
      off-still : (u : ℕ) → u < most_voices → (get_or (set s.active v false) u false ≡ true) ⊎ (get_or (set s.active v false) u false ≡ false)
          → get_or (set s.active v false) u false ≡ false
      off-still u i (inl t) = absurd (clash (get_or s.active u false) (still-on u t h).0 (f u i))
      off-still u i (inr t) = t
  newest-stays w e h (one {w = x} i t f) =
      let ne : x ≢ v = λ p. clash (eqb x v) (eq-eqb x v p) e in
      one i (get_or-set_other s.active v x false false ne ∙ t) (λ u j z. f u j (still-on u z h).0)

  right-ended : Right (ended_of s v)
  unfolding ended_of newest_after
  right-ended = elim (dec_lt v most_voices) [
    | no p ↦ rw (le-ltb v most_voices (omega arith)) r
    | yes h ↦ rw (lt-ltb v most_voices h) (go h (which (is_voice s.newest v)))
  ]
    where
      go : v < most_voices → (is_voice s.newest v ≡ true) ⊎ (is_voice s.newest v ≡ false)
          → Right (record { active = set s.active v false; rank = s.rank; newest = cond (is_voice s.newest v) (latest (set s.active v false) s.rank most_voices) s.newest })
      go h (inl e) = record {
        long = length-set s.active v false ∙ r.long;
        ranks = r.ranks;
        newest = rw e (latest-is (set s.active v false) s.rank most_voices);
      }
      go h (inr e) = record {
        long = length-set s.active v false ∙ r.long;
        ranks = r.ranks;
        newest = rw e (newest-stays s.newest e h r.newest);
      }

pub right-noted : (s : Voices) → Right s → (n : Note) → Right (noted s n)
unfolding released_of
right-noted s r (on v) = right-on s r v
right-noted s r (off v) = r
right-noted s r (ended v) = right-ended s r v

-- AFTER ANY CALLS the ranks are the numbers below that of the voices, each once, and the newest is the active voice that sounded last
pub right-after : (l : List Note) → Right (voices_after l)
unfolding voices_after
right-after [] = right-first
right-after (n ∷ l) = right-noted (voices_after l) (right-after l) n
