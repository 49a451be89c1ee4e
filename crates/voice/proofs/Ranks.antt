-- Ranks: a note-on keeps them the numbers below that of the voices, each once, and they order the voices as the Rust's numbers do. Assumes nothing.
use mathlib.Core.Path.{◌≡◌, refl, sym, ap, ◌∙◌}
use mathlib.Core.Logic.{◌≢◌, ◌⊎◌, inl, inr, ◌↔◌}
use mathlib.Core.List.{List, [], ◌∷◌, map}
use Prim.Native.Nat.{ℕ, zero, suc, ◌+◌, ◌-◌, ◌≤◌, ◌<◌}
use native.Mathlib.Decide.{ℕ_discrete, dec_lt}
use native.Mathlib.Omega.{arith}
use lib.ListN.{length, get_or, length-set, length-map}
use lib.Seq.{get_or-set_same, get_or-set_other}
use borrow.Author.Tests.{lt-ltb, le-ltb, eq-eqb, ne_eqb}
use Rattle.config.specs.Sizes.{most_voices}
use Rattle.list.proofs.Elements.{get_or_past}
use Rattle.voice.specs.Voices.{up_from, raised, rank_of, no_voices, ranks_on}
use Rattle.voice.specs.Sounded.{stamp, ranks_after, Later, Has, Ranks}
use Rattle.voice.proofs.Elements.{map_at}

-- ---- before any note

up_from-at : (k n a : ℕ) → a < n → get_or (up_from k n) a 0 ≡ k + a
up_from-at k zero a h = absurd (omega arith)
up_from-at k (suc n) zero h = omega arith
up_from-at k (suc n) (suc a) h = up_from-at (suc k) n a (omega arith) ∙ omega arith

first-at : (a : ℕ) → a < most_voices → rank_of no_voices.rank a ≡ a
unfolding no_voices
first-at a h = up_from-at 0 most_voices a h ∙ omega arith

pub ranks-first : Ranks no_voices.rank
unfolding no_voices
ranks-first = record {
  long = refl;
  below = λ a h. omega (arith, first-at a h);
  apart = λ a b h i e. omega (arith, first-at a h, first-at b i);
  each = λ k h. record { voice = k; inside = h; is = first-at k h };
}

-- ---- a note-on

raised_below : (k x : ℕ) → x < k → raised k x ≡ x + 1
raised_below k x h = rw (lt-ltb x k h)

raised-above : (k x : ℕ) → k ≤ x → raised k x ≡ x
raised-above k x h = rw (le-ltb x k h)

module _ (rank : List ℕ) (r : Ranks rank) (v : ℕ) where
  pub on-length : length (ranks_on rank v) ≡ most_voices
  unfolding ranks_on
  on-length = length-set (map (raised (rank_of rank v)) rank) v _ ∙ length-map rank (raised (rank_of rank v)) ∙ r.long

  -- v itself
  pub on_same : v < most_voices → rank_of (ranks_on rank v) v ≡ 0
  unfolding ranks_on
  on_same h = get_or-set_same (map (raised (rank_of rank v)) rank) v 0 0 (omega (arith, length-map rank (raised (rank_of rank v)), r.long))

  -- another voice, by whether it had sounded since v did
  on-other : (a : ℕ) → a < most_voices → a ≢ v → rank_of (ranks_on rank v) a ≡ raised (rank_of rank v) (rank_of rank a)
  unfolding ranks_on
  on-other a h ne =
      get_or-set_other (map (raised (rank_of rank v)) rank) v a _ 0 ne ∙ map_at (raised (rank_of rank v)) rank a 0 0 (omega (arith, r.long))

  pub on-since : (a : ℕ) → a < most_voices → a ≢ v → rank_of rank a < rank_of rank v → rank_of (ranks_on rank v) a ≡ rank_of rank a + 1
  on-since a h ne l = on-other a h ne ∙ raised_below (rank_of rank v) (rank_of rank a) l

  pub on-before : (a : ℕ) → a < most_voices → a ≢ v → rank_of rank v ≤ rank_of rank a → rank_of (ranks_on rank v) a ≡ rank_of rank a
  on-before a h ne l = on-other a h ne ∙ raised-above (rank_of rank v) (rank_of rank a) l

  -- a voice that there is not changes nothing
  pub on-past : most_voices ≤ v → (a : ℕ) → a < most_voices → rank_of (ranks_on rank v) a ≡ rank_of rank a
  on-past p a h = on-before a h (λ e. omega arith) (omega (arith, get_or_past rank v 0 (omega (arith, r.long))))

  -- two other voices stay in their order
  module _ (a b : ℕ) (ha : a < most_voices) (hb : b < most_voices) (na : a ≢ v) (nb : b ≢ v) where
    kept : v < most_voices → rank_of rank a < rank_of rank b → rank_of (ranks_on rank v) a < rank_of (ranks_on rank v) b
    kept hv l = elim (dec_lt (rank_of rank a) (rank_of rank v)) [
      | yes p ↦ elim (dec_lt (rank_of rank b) (rank_of rank v)) [
        | yes q ↦ omega (arith, on-since a ha na p, on-since b hb nb q)
        | no q ↦ elim (ℕ_discrete (rank_of rank b) (rank_of rank v)) [
          | yes e ↦ absurd (nb (r.apart b v hb hv e))
          | no e ↦ omega (arith, on-since a ha na p, on-before b hb nb (omega arith))
        ]
      ]
      | no p ↦ omega (arith, on-before a ha na (omega arith), on-before b hb nb (omega arith))
    ]

    pub on-kept : rank_of rank a < rank_of rank b → rank_of (ranks_on rank v) a < rank_of (ranks_on rank v) b
    on-kept l = elim (dec_lt v most_voices) [
      | yes hv ↦ kept hv l
      | no p ↦ omega (arith, on-past (omega arith) a ha, on-past (omega arith) b hb)
    ]

  -- v comes before every other
  pub on-first : v < most_voices → (b : ℕ) → b < most_voices → b ≢ v → 0 < rank_of (ranks_on rank v) b
  on-first hv b hb nb = elim (dec_lt (rank_of rank b) (rank_of rank v)) [
    | yes q ↦ omega (arith, on-since b hb nb q)
    | no q ↦ elim (ℕ_discrete (rank_of rank b) (rank_of rank v)) [
      | yes e ↦ absurd (nb (r.apart b v hb hv e))
      | no e ↦ omega (arith, on-before b hb nb (omega arith))
    ]
  ]

  on_below : v < most_voices → (a : ℕ) → a < most_voices → rank_of (ranks_on rank v) a < most_voices
  on_below hv a ha = elim (ℕ_discrete a v) [
    | yes e ↦ rw e (omega (arith, on_same hv))
    | no ne ↦ elim (dec_lt (rank_of rank a) (rank_of rank v)) [
      | yes q ↦ omega (arith, on-since a ha ne q, r.below v hv)
      | no q ↦ omega (arith, on-before a ha ne (omega arith), r.below a ha)
    ]
  ]

  on-apart : v < most_voices → (a b : ℕ) → a < most_voices → b < most_voices → rank_of (ranks_on rank v) a ≡ rank_of (ranks_on rank v) b → a ≡ b
  on-apart hv a b ha hb e = elim (ℕ_discrete a v) [
    | yes p ↦ elim (ℕ_discrete b v) [
      | yes q ↦ p ∙ sym q
      | no nb ↦ absurd (omega (arith, on-first hv b hb nb, on_same hv, ap (rank_of (ranks_on rank v)) p))
    ]
    | no na ↦ elim (ℕ_discrete b v) [
      | yes q ↦ absurd (omega (arith, on-first hv a ha na, on_same hv, ap (rank_of (ranks_on rank v)) q))
      | no nb ↦ elim (dec_lt (rank_of rank a) (rank_of rank b)) [
        | yes l ↦ absurd (omega (arith, on-kept a b ha hb na nb l))
        | no g ↦ elim (dec_lt (rank_of rank b) (rank_of rank a)) [
          | yes l ↦ absurd (omega (arith, on-kept b a hb ha nb na l))
          | no m ↦ r.apart a b ha hb (omega arith)
        ]
      ]
    ]
  ]

  on-each : v < most_voices → (k : ℕ) → k < most_voices → Has (ranks_on rank v) k
  on-each hv k hk = elim (ℕ_discrete k 0) [
    | yes z ↦ record { voice = v; inside = hv; is = on_same hv ∙ sym z }
    | no nz ↦ elim (dec_lt (rank_of rank v) k) [
      | yes g ↦
          let w = r.each k hk in
          record { voice = w.voice; inside = w.inside; is = on-before w.voice w.inside (λ e. omega (arith, w.is, ap (rank_of rank) e)) (omega (arith, w.is)) ∙ w.is }
      | no g ↦
          let w = r.each (k - 1) (omega arith) in
          record {
            voice = w.voice;
            inside = w.inside;
            is = on-since w.voice w.inside (λ e. omega (arith, w.is, ap (rank_of rank) e)) (omega (arith, w.is)) ∙ omega (arith, w.is);
          }
    ]
  ]

  -- A NOTE-ON KEEPS THEM: each number below that of the voices once
  pub ranks-on : v < most_voices → Ranks (ranks_on rank v)
  ranks-on hv = record { long = on-length; below = on_below hv; apart = on-apart hv; each = on-each hv }

  ranks-past : most_voices ≤ v → Ranks (ranks_on rank v)
  ranks-past p = record {
    long = on-length;
    below = λ a h. omega (arith, on-past p a h, r.below a h);
    apart = λ a b h i e. r.apart a b h i (omega (arith, on-past p a h, on-past p b i));
    each = λ k h. let w = r.each k h in record { voice = w.voice; inside = w.inside; is = on-past p w.voice w.inside ∙ w.is };
  }

  pub ranks-any : Ranks (ranks_on rank v)
  ranks-any = elim (dec_lt v most_voices) [ yes h ↦ ranks-on h | no h ↦ ranks-past (omega arith) ]

pub ranks-after : (l : List ℕ) → Ranks (ranks_after l)
unfolding ranks_after
ranks-after [] = ranks-first
ranks-after (v ∷ l) = ranks-any (ranks_after l) (ranks-after l) v

-- ---- the Rust's numbers

pub stamp-same : (v : ℕ) (l : List ℕ) → stamp (v ∷ l) v ≡ length l + 1
stamp-same v l = rw (eq-eqb v v refl)

pub stamp-other : (v : ℕ) (l : List ℕ) (a : ℕ) → a ≢ v → stamp (v ∷ l) a ≡ stamp l a
stamp-other v l a ne = rw (ne_eqb a v ne)

pub stamp-most : (l : List ℕ) (a : ℕ) → stamp l a ≤ length l
stamp-most [] a = omega arith
stamp-most (v ∷ l) a = elim (ℕ_discrete a v) [
  | yes e ↦ rw (eq-eqb a v e) (omega arith)
  | no ne ↦ omega (arith, stamp-other v l a ne, stamp-most l a)
]

-- two voices that have sounded have different numbers
pub stamp-apart : (l : List ℕ) (a b : ℕ) → 0 < stamp l a → stamp l a ≡ stamp l b → a ≡ b
stamp-apart [] a b p e = absurd (omega arith)
stamp-apart (v ∷ l) a b p e = elim (ℕ_discrete a v) [
  | yes q ↦ elim (ℕ_discrete b v) [
    | yes s ↦ q ∙ sym s
    | no nb ↦ absurd (omega (arith, stamp-other v l b nb, stamp-most l b, stamp-same v l, ap (stamp (v ∷ l)) q))
  ]
  | no na ↦ elim (ℕ_discrete b v) [
    | yes s ↦ absurd (omega (arith, stamp-other v l a na, stamp-most l a, stamp-same v l, ap (stamp (v ∷ l)) s))
    | no nb ↦ stamp-apart l a b (omega (arith, stamp-other v l a na)) (sym (stamp-other v l a na) ∙ e ∙ stamp-other v l b nb)
  ]
]

later-other : (v : ℕ) (l : List ℕ) (a b : ℕ) → a ≢ v → b ≢ v → Later (v ∷ l) a b → Later l a b
later-other v l a b na nb (inl p) = inl (omega (arith, stamp-other v l a na, stamp-other v l b nb))
later-other v l a b na nb (inr p) = inr (sym (stamp-other v l a na) ∙ p.0 ∙ stamp-other v l b nb, p.1)

-- WHAT SOUNDED LATER RANKS LOWER; voices that have not sounded rank by number, after all that have
pub later-lower : (l : List ℕ) (a b : ℕ) → a < most_voices → b < most_voices → Later l a b → rank_of (ranks_after l) a < rank_of (ranks_after l) b
unfolding ranks_after
later-lower [] a b ha hb (inl p) = absurd (omega arith)
later-lower [] a b ha hb (inr p) = omega (arith, first-at a ha, first-at b hb, p.1)
later-lower (v ∷ l) a b ha hb p = elim (ℕ_discrete b v) [
  | yes e ↦ absurd (last p e)
  | no nb ↦ elim (ℕ_discrete a v) [
    | yes e ↦
        let f = on-first (ranks_after l) (ranks-after l) v (omega arith) b hb nb in
        omega (arith, f, on_same (ranks_after l) (ranks-after l) v (omega arith), ap (rank_of (ranks_on (ranks_after l) v)) e)
    | no na ↦ on-kept (ranks_after l) (ranks-after l) v a b ha hb na nb (later-lower l a b ha hb (later-other v l a b na nb p))
  ]
]
  where
    -- nothing sounded later than the last
    last : Later (v ∷ l) a b → b ≡ v → ⊥
    last (inl q) e = omega (arith, stamp-most (v ∷ l) a, stamp-same v l, ap (stamp (v ∷ l)) e)
    last (inr q) e =
        let s = stamp-apart (v ∷ l) b a (omega (arith, stamp-same v l, ap (stamp (v ∷ l)) e)) (sym q.0) in
        omega (arith, q.1)

-- one of two voices is the later
later-either : (l : List ℕ) (a b : ℕ) → a ≢ b → Later l a b ⊎ Later l b a
later-either l a b ne = elim (dec_lt (stamp l b) (stamp l a)) [
  | yes p ↦ inl (inl p)
  | no p ↦ elim (dec_lt (stamp l a) (stamp l b)) [
    | yes q ↦ inr (inl q)
    | no q ↦
        let e : stamp l a ≡ stamp l b = omega arith in
        elim (dec_lt a b) [
          | yes s ↦ inl (inr (e, s))
          | no s ↦ inr (inr (sym e, omega (arith, ne)))
        ]
  ]
]

-- LOWER EXACTLY WHERE LATER
pub lower-later : (l : List ℕ) (a b : ℕ) → a < most_voices → b < most_voices → (rank_of (ranks_after l) a < rank_of (ranks_after l) b) ↔ Later l a b
lower-later l a b ha hb = (back, later-lower l a b ha hb)
  where
    back : rank_of (ranks_after l) a < rank_of (ranks_after l) b → Later l a b
    back p = elim (ℕ_discrete a b) [
      | yes e ↦ absurd (omega (arith, ap (rank_of (ranks_after l)) e))
      | no ne ↦ pick (later-either l a b ne)
    ]
      where
        pick : Later l a b ⊎ Later l b a → Later l a b
        pick (inl q) = q
        pick (inr q) = absurd (omega (arith, later-lower l b a hb ha q))
