-- The rank of a voice that has sounded is the number of voices that sounded since. Assumes nothing.
use mathlib.Core.Path.{◌≡◌, refl, sym, ap, ◌∙◌}
use mathlib.Core.Logic.{◌≢◌, inl}
use mathlib.Core.List.{List, [], ◌∷◌}
use Prim.Native.Nat.{ℕ, zero, suc, ◌+◌, ◌≤◌, ◌<◌}
use native.Mathlib.Decide.{ℕ_discrete, dec_lt}
use native.Mathlib.Omega.{arith}
use borrow.Author.Tests.{lt-ltb, le-ltb}
use Rattle.config.specs.Sizes.{most_voices}
use Rattle.voice.specs.Voices.{rank_of}
use Rattle.voice.specs.Sounded.{stamp, ranks_after, newer, since}
use Rattle.voice.proofs.Ranks.{ranks-after, on_same, on-since, on-before, on-past, stamp-same, stamp-other, stamp-most, stamp-apart, later-lower}

is-newer : (l : List ℕ) (a b : ℕ) → stamp l a < stamp l b → newer l a b ≡ 1
is-newer l a b h = rw (lt-ltb (stamp l a) (stamp l b) h)

not-newer : (l : List ℕ) (a b : ℕ) → stamp l b ≤ stamp l a → newer l a b ≡ 0
not-newer l a b h = rw (le-ltb (stamp l a) (stamp l b) h)

module _ (v : ℕ) (l : List ℕ) where
  -- none sounded since the last
  since-last : (n : ℕ) → since (v ∷ l) v n ≡ 0
  unfolding since
  since-last zero = refl
  since-last (suc n) = omega (arith, since-last n, not-newer (v ∷ l) v n (omega (arith, stamp-same v l, stamp-most (v ∷ l) n)))

  module _ (a : ℕ) (na : a ≢ v) where
    newer-other : (n : ℕ) → n ≢ v → newer (v ∷ l) a n ≡ newer l a n
    newer-other n nn = rw (stamp-other v l a na, stamp-other v l n nn)

    newer-last : newer (v ∷ l) a v ≡ 1
    newer-last = is-newer (v ∷ l) a v (omega (arith, stamp-same v l, stamp-other v l a na, stamp-most l a))

    -- of the voices below v as many as before
    since-below : (n : ℕ) → n ≤ v → since (v ∷ l) a n ≡ since l a n
    unfolding since
    since-below zero h = refl
    since-below (suc n) h = omega (arith, since-below n (omega arith), newer-other n (λ e. omega arith))

    -- v had sounded since a did: as many
    since-already : stamp l a < stamp l v → (n : ℕ) → since (v ∷ l) a n ≡ since l a n
    unfolding since
    since-already p zero = refl
    since-already p (suc n) = omega (arith, since-already p n, same (ℕ_discrete n v))
      where
        same : Dec (n ≡ v) → newer (v ∷ l) a n ≡ newer l a n
        same (yes e) = ap (newer (v ∷ l) a) e ∙ newer-last ∙ sym (is-newer l a v p) ∙ ap (newer l a) (sym e)
        same (no nn) = newer-other n nn

    -- v had not: one more
    since-more : stamp l v ≤ stamp l a → (n : ℕ) → v < n → since (v ∷ l) a n ≡ since l a n + 1
    unfolding since
    since-more p zero h = absurd (omega arith)
    since-more p (suc n) h = go (ℕ_discrete n v) (since-more p n)
      where
        go : Dec (n ≡ v) → (v < n → since (v ∷ l) a n ≡ since l a n + 1) → newer (v ∷ l) a n + since (v ∷ l) a n ≡ newer l a n + since l a n + 1
        go (yes e) ih =
            omega (arith, since-below n (omega arith), ap (newer (v ∷ l) a) e ∙ newer-last, ap (newer l a) e ∙ not-newer l a v p)
        go (no nn) ih = omega (arith, ih (omega arith), newer-other n nn)

-- THE NUMBER OF VOICES SOUNDED SINCE
pub rank-since : (l : List ℕ) (a : ℕ) → a < most_voices → 0 < stamp l a → rank_of (ranks_after l) a ≡ since l a most_voices
unfolding ranks_after
rank-since [] a h p = absurd (omega arith)
rank-since (v ∷ l) a h p = elim (ℕ_discrete a v) [
  | yes e ↦ rw e (on_same (ranks_after l) (ranks-after l) v (omega arith) ∙ sym (since-last v l most_voices))
  | no na ↦
      let q : 0 < stamp l a = omega (arith, stamp-other v l a na) in
      elim (dec_lt v most_voices) [
        | no far ↦ on-past (ranks_after l) (ranks-after l) v (omega arith) a h ∙ rank-since l a h q ∙ sym (since-below v l a na most_voices (omega arith))
        | yes hv ↦ elim (dec_lt (stamp l a) (stamp l v)) [
          | yes s ↦
              let lower = later-lower l v a hv h (inl s) in
              on-before (ranks_after l) (ranks-after l) v a h na (omega arith) ∙ rank-since l a h q ∙ sym (since-already v l a na s most_voices)
          | no s ↦
              let differ : stamp l a ≢ stamp l v = λ e. na (stamp-apart l a v q e) in
              let lower = later-lower l a v h hv (inl (omega (arith, differ))) in
              on-since (ranks_after l) (ranks-after l) v a h na lower
              ∙ ap (λ (x : ℕ). x + 1) (rank-since l a h q)
              ∙ sym (since-more v l a na (omega arith) most_voices hv)
        ]
      ]
]
