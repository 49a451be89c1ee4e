-- A part of a list that is filled by a function of the index in the part, and the invariant of a loop that fills it. Assumes nothing.
use mathlib.Core.Path.{◌≡◌, refl, sym, ap, ◌∙◌}
use mathlib.Core.Logic.{◌⊎◌}
use mathlib.Core.List.{List, ◌++◌}
use Prim.Native.Nat.{ℕ, ◌+◌, ◌-◌, ◌≤◌, ◌<◌}
use native.Mathlib.Decide.{dec_lt}
use native.Mathlib.Omega.{arith}
use lib.ListN.{length, get_or, set, drop, replicate, length-set}
use Rattle.list.specs.Fill.{fill}
use Rattle.list.specs.Part.{part, on_part}
use Rattle.list.proofs.Elements.{ext}
use Rattle.list.proofs.Filled.{fill-zero, fill-next, length-fill, fill-above, fill-below, fill_is, fill-replicate}
use Rattle.list.proofs.Parts.{Room, part_length, part_at, on_part-length, on_part-below, on_part-inside, on_part-within, on_part-above, on_part-outside, on_part-self, on_part-set, on_part-front}

module _ {A : Type 0} where
  -- a part filled has room where the part was
  pub room-fill : (m : List A) (a e : ℕ) (f : ℕ → A) (i : ℕ) → a ≤ e → e ≤ length m → Room m a e (fill (part m a e) f i)
  room-fill m a e f i s t =
      record { start = s; end = t; as_long = length-fill (part m a e) f i ∙ part_length m a e t }

  -- the whole filled up to e by a function that gives what stands below a: the part filled
  pub fill-part : (m : List A) (g : ℕ → A) (a e : ℕ) → a ≤ e → e ≤ length m → ((k : ℕ) (d : A) → k < a → g k ≡ get_or m k d)
      → fill m g e ≡ on_part m a e (fill (part m a e) (λ i. g (a + i)) (e - a))
  fill-part m g a e s t below =
      let p = part_length m a e t in
      let h = room-fill m a e (λ i. g (a + i)) (e - a) s t in
      ext (fill m g e) (on_part m a e (fill (part m a e) (λ i. g (a + i)) (e - a))) (length-fill m g e ∙ sym (on_part-length h)) (λ k d q.
      elim (dec_lt k a) [
        | yes b ↦ fill-below m g e k d (omega arith) t ∙ below k d b ∙ sym (on_part-below h k d b)
        | no n ↦ elim (dec_lt k e) [
          | yes b ↦
              let at : k ≡ a + (k - a) = omega arith in
              fill-below m g e k d b t
              ∙ ap g at
              ∙ sym (on_part-within h k d (omega arith) b ∙ fill-below (part m a e) (λ i. g (a + i)) (e - a) (k - a) d (omega arith) (omega arith))
          | no b ↦ fill-above m g e k d (omega arith) ∙ sym (on_part-above h k d (omega arith))
        ]
      ])

  -- a part filled with one value
  pub fill-part-replicate : (m : List A) (a e : ℕ) (x : A) → e ≤ length m → fill (part m a e) (λ k. x) (e - a) ≡ replicate (e - a) x
  fill-part-replicate m a e x t = rw (← part_length m a e t) (fill-replicate (part m a e) x)

  -- up to n one value, as it was beyond
  pub front-replicate : (m : List A) (n : ℕ) (x : A) → on_part m 0 n (replicate n x) ≡ replicate n x ++ drop n m
  front-replicate m n x = on_part-front m (replicate n x) n

  -- a loop's invariant: `out` is `m` with the first i elements from a on given by f
  pub record FilledPart (m : List A) (a e : ℕ) (f : ℕ → A) (i : ℕ) (out : List A) : Type 0 where
    pub start : a ≤ e
    pub end : e ≤ length m
    pub as_long : length out ≡ length m
    pub is : out ≡ on_part m a e (fill (part m a e) f i)

  pub filled-part-none : (m : List A) (a e : ℕ) (f : ℕ → A) → a ≤ e → e ≤ length m → FilledPart m a e f 0 m
  filled-part-none m a e f s t = record { start = s; end = t; as_long = refl; is = rw fill-zero (sym (on_part-self m a e)) }

  -- what stands outside the part
  pub filled-part-outside : {m out : List A} {a e : ℕ} {f : ℕ → A} {i : ℕ} → FilledPart m a e f i out → (k : ℕ) (d : A) → (k < a) ⊎ (e ≤ k)
      → get_or out k d ≡ get_or m k d
  filled-part-outside {m} {out} {a} {e} {f} {i} h k d o =
      rw h.is (on_part-outside (room-fill m a e f i h.start h.end) k d o)

  -- what stands at a + i before its turn
  pub filled-part-read : {m out : List A} {a e : ℕ} {f : ℕ → A} {i : ℕ} (d : A) → FilledPart m a e f i out → i < e - a
      → get_or out (a + i) d ≡ get_or m (a + i) d
  filled-part-read {m} {out} {a} {e} {f} {i} d h b =
      rw h.is
      (on_part-inside (room-fill m a e f i h.start h.end) i d b
      ∙ fill-above (part m a e) f i i d (omega arith)
      ∙ part_at m a e i d b)

  -- the turn
  pub filled-part-more : {m out : List A} {a e : ℕ} {f : ℕ → A} {i : ℕ} {v : A} → FilledPart m a e f i out → i < e - a → v ≡ f i
      → FilledPart m a e f (i + 1) (set out (a + i) v)
  filled-part-more {m} {out} {a} {e} {f} {i} {v} h b w =
      record {
        start = h.start;
        end = h.end;
        as_long = length-set out (a + i) v ∙ h.as_long;
        is =
            ap (λ (o : List A). set o (a + i) v) h.is
            ∙ on_part-set (room-fill m a e f i h.start h.end) i v b
            ∙ rw (fill-next (part m a e) f i, w);
      }

  pub filled-part-all : {m out : List A} {a e : ℕ} {f : ℕ → A} {i : ℕ} → FilledPart m a e f i out → i ≡ e - a
      → out ≡ on_part m a e (fill (part m a e) f (e - a))
  filled-part-all {m} {out} {a} {e} {f} h w = h.is ∙ ap (λ (n : ℕ). on_part m a e (fill (part m a e) f n)) w

  -- where f gives the elements of ys, the part has become ys
  pub filled-part-is : {m out : List A} {a e : ℕ} {f : ℕ → A} {i : ℕ} → FilledPart m a e f i out → i ≡ e - a → (ys : List A)
      → length ys ≡ e - a → ((k : ℕ) (d : A) → k < e - a → f k ≡ get_or ys k d) → out ≡ on_part m a e ys
  filled-part-is {m} {out} {a} {e} {f} {i} h w ys l g =
      let p : length (part m a e) ≡ e - a = part_length m a e h.end in
      let same : fill (part m a e) f (length (part m a e)) ≡ ys =
      fill_is (part m a e) ys f (l ∙ sym p) (λ k d b. g k d (omega arith)) in
      filled-part-all h w ∙ ap (on_part m a e) (ap (fill (part m a e) f) (sym p) ∙ same)
