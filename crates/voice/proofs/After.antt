-- After any calls: ranks go by the note-ons alone, and the newest is the active voice with the highest of the Rust's numbers. Assumes nothing.
use mathlib.Core.Path.{◌≡◌, refl, sym, ap, ◌∙◌}
use mathlib.Core.Logic.{◌≢◌, inl, inr}
use mathlib.Core.Bool.{Bool, true, false}
use mathlib.Core.List.{List, [], ◌∷◌}
use Prim.Native.Nat.{ℕ, ◌≤◌, ◌<◌}
use native.Mathlib.Decide.{ℕ_discrete, dec_lt}
use native.Mathlib.Omega.{arith}
use lib.ListN.{get_or, set, get_or-replicate}
use lib.Seq.{get_or-set_same, get_or-set_other}
use borrow.Author.Tests.{lt-ltb, le-ltb}
use Rattle.std.specs.Prelude.{Option, Some}
use Rattle.config.specs.Sizes.{most_voices}
use Rattle.voice.specs.Voices.{rank_of, no_voices, ranks_on, sounded_on, released_of, ended_of}
use Rattle.voice.specs.Sounded.{stamp, ranks_after, Later, Latest, none, one, Note, on, off, ended, voices_after, note_ons}
use Rattle.voice.proofs.Ranks.{ranks-after, lower-later, stamp-same, stamp-other, stamp-apart}
use Rattle.voice.proofs.Right.{right-after}

clash : (b : Bool) → b ≡ true → b ≡ false → ⊥
clash b p q = let z : ◌≡◌ {A = ℕ} 0 1 = cc in omega arith

-- RANKS GO BY THE NOTE-ONS
pub rank-after : (l : List Note) → (voices_after l).rank ≡ ranks_after (note_ons l)
unfolding voices_after ranks_after sounded_on released_of ended_of
rank-after [] = refl
rank-after (off v ∷ l) = rank-after l
rank-after (on v ∷ l) = elim (dec_lt v most_voices) [
  | yes h ↦ rw (lt-ltb v most_voices h) (ap (λ (r : List ℕ). ranks_on r v) (rank-after l))
  | no p ↦ rw (le-ltb v most_voices (omega arith)) (rank-after l)
]
rank-after (ended v ∷ l) = elim (dec_lt v most_voices) [
  | yes h ↦ rw (lt-ltb v most_voices h) (rank-after l)
  | no p ↦ rw (le-ltb v most_voices (omega arith)) (rank-after l)
]

-- an active voice has sounded
pub active-sounded : (l : List Note) (u : ℕ) → u < most_voices → get_or (voices_after l).active u false ≡ true → 0 < stamp (note_ons l) u
unfolding voices_after sounded_on released_of ended_of no_voices
active-sounded [] u h t = absurd (clash (get_or no_voices.active u false) t (get_or-replicate most_voices u false false h))
active-sounded (off v ∷ l) u h t = active-sounded l u h t
active-sounded (on v ∷ l) u h t = elim (dec_lt v most_voices) [
  | no p ↦ rw (le-ltb v most_voices (omega arith)) (active-sounded l u h (rw (le-ltb v most_voices (omega arith)) at t))
  | yes i ↦ rw (lt-ltb v most_voices i) (elim (ℕ_discrete u v) [
    | yes e ↦ omega (arith, stamp-same v (note_ons l), ap (stamp (v ∷ note_ons l)) e)
    | no ne ↦
        let was : get_or (voices_after l).active u false ≡ true = sym (get_or-set_other (voices_after l).active v u true false ne) ∙ rw (lt-ltb v most_voices i) at t in
        omega (arith, stamp-other v (note_ons l) u ne, active-sounded l u h was)
  ])
]
active-sounded (ended v ∷ l) u h t = elim (dec_lt v most_voices) [
  | no p ↦ active-sounded l u h (rw (le-ltb v most_voices (omega arith)) at t)
  | yes i ↦
      let t' : get_or (set (voices_after l).active v false) u false ≡ true = rw (lt-ltb v most_voices i) at t in
      elim (ℕ_discrete u v) [
        | yes e ↦
            absurd (clash (get_or (set (voices_after l).active v false) v false) (rw e at t') (get_or-set_same (voices_after l).active v false false (omega (arith, (right-after l).long))))
        | no ne ↦ active-sounded l u h (sym (get_or-set_other (voices_after l).active v u false false ne) ∙ t')
      ]
]

-- THE NEWEST SOUNDED LAST: of the active voices it has the highest of the Rust's numbers; and where there is none, no voice is active
pub newest-last : (l : List Note) (w : ℕ) → (voices_after l).newest ≡ Some w
    → (get_or (voices_after l).active w false ≡ true)
    × ((u : ℕ) → u < most_voices → get_or (voices_after l).active u false ≡ true → u ≢ w → stamp (note_ons l) u < stamp (note_ons l) w)
newest-last l w e = go (voices_after l).newest e (right-after l).newest
  where
    last : (x : ℕ) → x < most_voices → (u : ℕ) → u < most_voices → get_or (voices_after l).active x false ≡ true → u ≢ x
        → rank_of (voices_after l).rank x ≤ rank_of (voices_after l).rank u → stamp (note_ons l) u < stamp (note_ons l) x
    last x i u j t ne p = pick ((lower-later (note_ons l) x u i j).0 lower)
      where
        lower : rank_of (ranks_after (note_ons l)) x < rank_of (ranks_after (note_ons l)) u
        lower = elim (ℕ_discrete (rank_of (ranks_after (note_ons l)) u) (rank_of (ranks_after (note_ons l)) x)) [
          | yes same ↦ absurd (ne ((ranks-after (note_ons l)).apart u x j i same))
          | no differ ↦ omega (arith, rw (rank-after l) at p)
        ]

        pick : Later (note_ons l) x u → stamp (note_ons l) u < stamp (note_ons l) x
        pick (inl q) = q
        pick (inr q) = absurd (ne (sym (stamp-apart (note_ons l) x u (active-sounded l x i t) q.0)))

    go : (n : Option ℕ) → n ≡ Some w → Latest (voices_after l).active (voices_after l).rank most_voices n
        → (get_or (voices_after l).active w false ≡ true)
        × ((u : ℕ) → u < most_voices → get_or (voices_after l).active u false ≡ true → u ≢ w → stamp (note_ons l) u < stamp (note_ons l) w)
    go n q (none f) = absurd (let z : ◌≡◌ {A = ℕ} 0 1 = cc in omega arith)
    go n q (one {w = x} i t f) =
        let same : x ≡ w = cc in
        rw (← same) (t, λ u j s ne. last x i u j t ne (f u j s))
