-- What stands where in a part of a list, and in a list of which a part was replaced. Assumes nothing.
-- The laws of parts are cited together: one file, long as it is.
use mathlib.Core.Path.{◌≡◌, sym, ap, ◌∙◌}
use mathlib.Core.Logic.{◌⊎◌, inl, inr, ⊎_elim}
use mathlib.Core.List.{List, ◌++◌}
use Prim.Native.Nat.{ℕ, ◌+◌, ◌-◌, ◌≤◌, ◌<◌}
use native.Mathlib.Nat.{sub-zero}
use native.Mathlib.Decide.{dec_lt}
use native.Mathlib.Omega.{arith}
use lib.ListN.{length, get_or, take, drop, set, replicate, length-take, length-drop, length-append, take-append-drop, length-replicate, get_or-replicate, get_or-append}
use lib.Seq.{take-length, get_or-take, get_or-drop, get_or-append-add, length-take-le, take_at, drop_at, set-append_left}
use Rattle.list.specs.Part.{part, on_part}
use Rattle.list.proofs.Elements.{ext, set-append-add}

module _ {A : Type 0} where
  -- ys has room in m from a up to e
  pub record Room (m : List A) (a e : ℕ) (ys : List A) : Type 0 where
    pub start : a ≤ e
    pub end : e ≤ length m
    pub as_long : length ys ≡ e - a

  pub part_length : (m : List A) (a e : ℕ) → e ≤ length m → length (part m a e) ≡ e - a
  unfolding part
  part_length m a e h = simp (length-take, length-drop) (omega arith)

  pub part_at : (m : List A) (a e i : ℕ) (d : A) → i < e - a → get_or (part m a e) i d ≡ get_or m (a + i) d
  unfolding part
  part_at m a e i d h = get_or-take (e - a) (drop a m) i d h ∙ get_or-drop a m i d

  pub part-whole : (m : List A) → part m 0 (length m) ≡ m
  unfolding part
  part-whole m = rw sub-zero (take-length m)

  -- a part of one value n times is that value
  pub part-replicate : (n a e : ℕ) (x : A) → e ≤ n → part (replicate n x) a e ≡ replicate (e - a) x
  part-replicate n a e x h =
      let n-long : length (replicate n x) ≡ n = length-replicate n x in
      let long : length (part (replicate n x) a e) ≡ e - a = part_length (replicate n x) a e (omega arith) in
      ext (part (replicate n x) a e) (replicate (e - a) x) (long ∙ sym (length-replicate (e - a) x)) (λ i d k.
      part_at (replicate n x) a e i d (omega arith)
      ∙ get_or-replicate n (a + i) x d (omega arith)
      ∙ sym (get_or-replicate (e - a) i x d (omega arith)))

  -- a part has room for what stands there
  pub room-part : (m : List A) (a e : ℕ) → a ≤ e → e ≤ length m → Room m a e (part m a e)
  room-part m a e s t = record { start = s; end = t; as_long = part_length m a e t }

  -- in another list as long there is as much room
  pub room_as : {m m' ys : List A} {a e : ℕ} → length m' ≡ length m → Room m a e ys → Room m' a e ys
  room_as e h = record { start = h.start; end = omega arith; as_long = h.as_long }

  pub on_part-length : {m ys : List A} {a e : ℕ} → Room m a e ys → length (on_part m a e ys) ≡ length m
  unfolding on_part
  on_part-length {m} {ys} {a} {e} h =
      let s = h.start in
      let t = h.end in
      let l = h.as_long in
      simp (length-append, length-take, length-drop) (omega arith)

  -- before the part: as it was
  pub on_part-below : {m ys : List A} {a e : ℕ} → Room m a e ys → (k : ℕ) (d : A) → k < a → get_or (on_part m a e ys) k d ≡ get_or m k d
  unfolding on_part
  on_part-below {m} {ys} {a} {e} h k d b =
      let l : length (take a m) ≡ a = length-take-le a m (omega arith) in
      get_or-append (take a m) (ys ++ drop (e - a) (drop a m)) d k (omega arith) ∙ get_or-take a m k d b

  -- in the part: what was put there
  pub on_part-inside : {m ys : List A} {a e : ℕ} → Room m a e ys → (i : ℕ) (d : A) → i < e - a → get_or (on_part m a e ys) (a + i) d ≡ get_or ys i d
  unfolding on_part
  on_part-inside {m} {ys} {a} {e} h i d b =
      let l : length (take a m) ≡ a = length-take-le a m (omega arith) in
      ap (λ (n : ℕ). get_or (on_part m a e ys) (n + i) d) (sym l)
      ∙ get_or-append-add (take a m) (ys ++ drop (e - a) (drop a m)) i d
      ∙ get_or-append ys (drop (e - a) (drop a m)) d i (omega arith)

  pub on_part-within : {m ys : List A} {a e : ℕ} → Room m a e ys → (k : ℕ) (d : A) → a ≤ k → k < e → get_or (on_part m a e ys) k d ≡ get_or ys (k - a) d
  on_part-within {m} {ys} {a} {e} h k d s t =
      let at : k ≡ a + (k - a) = omega arith in
      ap (λ (n : ℕ). get_or (on_part m a e ys) n d) at ∙ on_part-inside h (k - a) d (omega arith)

  -- after the part: as it was
  pub on_part-above : {m ys : List A} {a e : ℕ} → Room m a e ys → (k : ℕ) (d : A) → e ≤ k → get_or (on_part m a e ys) k d ≡ get_or m k d
  unfolding on_part
  on_part-above {m} {ys} {a} {e} h k d b =
      let l : length (take a m) ≡ a = length-take-le a m (omega arith) in
      let at : k ≡ length (take a m) + (length ys + (k - e)) = omega arith in
      let back : a + (e - a + (k - e)) ≡ k = omega arith in
      ap (λ (n : ℕ). get_or (on_part m a e ys) n d) at
      ∙ get_or-append-add (take a m) (ys ++ drop (e - a) (drop a m)) (length ys + (k - e)) d
      ∙ get_or-append-add ys (drop (e - a) (drop a m)) (k - e) d
      ∙ get_or-drop (e - a) (drop a m) (k - e) d
      ∙ get_or-drop a m (e - a + (k - e)) d
      ∙ ap (λ (n : ℕ). get_or m n d) back

  -- outside the part: as it was
  pub on_part-outside : {m ys : List A} {a e : ℕ} → Room m a e ys → (k : ℕ) (d : A) → (k < a) ⊎ (e ≤ k) → get_or (on_part m a e ys) k d ≡ get_or m k d
  on_part-outside h k d o = ⊎_elim (on_part-below h k d) (on_part-above h k d) o

  -- what stands at k goes by what stood at k alone
  pub on_part-local : {m ys : List A} {a e : ℕ} → Room m a e ys → (m' : List A) → length m' ≡ length m → (k : ℕ) (d : A) → get_or m' k d ≡ get_or m k d
      → get_or (on_part m' a e ys) k d ≡ get_or (on_part m a e ys) k d
  on_part-local {m} {ys} {a} {e} h m' l k d s =
      let h' : Room m' a e ys = room_as l h in
      elim (dec_lt k a) [
        | yes b ↦ on_part-below h' k d b ∙ s ∙ sym (on_part-below h k d b)
        | no n ↦ elim (dec_lt k e) [
          | yes b ↦ on_part-within h' k d (omega arith) b ∙ sym (on_part-within h k d (omega arith) b)
          | no b ↦ on_part-above h' k d (omega arith) ∙ s ∙ sym (on_part-above h k d (omega arith))
        ]
      ]

  -- the part itself put back: the list
  pub on_part-self : (m : List A) (a e : ℕ) → on_part m a e (part m a e) ≡ m
  unfolding part on_part
  on_part-self m a e = rw (take-append-drop (e - a), take-append-drop)

  -- the part that was put there
  pub part_same : {m ys : List A} {a e : ℕ} → Room m a e ys → part (on_part m a e ys) a e ≡ ys
  unfolding part on_part
  part_same {m} {ys} {a} {e} h =
      ap (take (e - a)) (drop_at (take a m) (ys ++ drop (e - a) (drop a m)) a (length-take-le a m (omega arith)))
      ∙ take_at ys (drop (e - a) (drop a m)) (e - a) h.as_long

  -- a part wholly apart: as it was
  pub part_apart : {m ys : List A} {a e : ℕ} → Room m a e ys → (b f : ℕ) → f ≤ length m → (f ≤ a) ⊎ (e ≤ b) → part (on_part m a e ys) b f ≡ part m b f
  part_apart {m} {ys} {a} {e} h b f t o =
      let n : f ≤ length (on_part m a e ys) = omega (arith, on_part-length h) in
      ext (part (on_part m a e ys) b f) (part m b f) (part_length (on_part m a e ys) b f n ∙ sym (part_length m b f t)) (λ i d k.
      let i< : i < f - b = omega (arith, part_length (on_part m a e ys) b f n) in
      part_at (on_part m a e ys) b f i d i<
      ∙ on_part-outside h (b + i) d (⊎_elim (λ q. inl (omega arith)) (λ q. inr (omega arith)) o)
      ∙ sym (part_at m b f i d i<))

  pub part-before : {m ys : List A} {a e : ℕ} → Room m a e ys → (b f : ℕ) → f ≤ a → part (on_part m a e ys) b f ≡ part m b f
  part-before h b f q = part_apart h b f (omega arith) (inl q)

  pub part-after : {m ys : List A} {a e : ℕ} → Room m a e ys → (b f : ℕ) → f ≤ length m → e ≤ b → part (on_part m a e ys) b f ≡ part m b f
  part-after h b f t q = part_apart h b f t (inr q)

  -- replaced twice: as the second says
  pub on_part-twice : {m ys zs : List A} {a e : ℕ} → Room m a e ys → Room m a e zs → on_part (on_part m a e ys) a e zs ≡ on_part m a e zs
  on_part-twice {m} {ys} {zs} {a} {e} h g =
      let l = on_part-length h in
      let g' : Room (on_part m a e ys) a e zs = room_as l g in
      ext (on_part (on_part m a e ys) a e zs) (on_part m a e zs) (on_part-length g' ∙ l ∙ sym (on_part-length g)) (λ k d q.
      elim (dec_lt k a) [
        | yes b ↦ on_part-below g' k d b ∙ on_part-below h k d b ∙ sym (on_part-below g k d b)
        | no n ↦ elim (dec_lt k e) [
          | yes b ↦ on_part-within g' k d (omega arith) b ∙ sym (on_part-within g k d (omega arith) b)
          | no b ↦ on_part-above g' k d (omega arith) ∙ on_part-above h k d (omega arith) ∙ sym (on_part-above g k d (omega arith))
        ]
      ])

  -- two parts apart: in either order
  pub on_part-comm : {m ys zs : List A} {a e b f : ℕ} → Room m a e ys → Room m b f zs → e ≤ b
      → on_part (on_part m a e ys) b f zs ≡ on_part (on_part m b f zs) a e ys
  on_part-comm {m} {ys} {zs} {a} {e} {b} {f} h g apart =
      let l = on_part-length h in
      let j = on_part-length g in
      let g' : Room (on_part m a e ys) b f zs = room_as l g in
      let h' : Room (on_part m b f zs) a e ys = room_as j h in
      ext (on_part (on_part m a e ys) b f zs) (on_part (on_part m b f zs) a e ys) (on_part-length g' ∙ l ∙ sym (on_part-length h' ∙ j)) (λ k d q.
      elim (dec_lt k b) [
        | yes s ↦ on_part-below g' k d s ∙ sym (on_part-local h (on_part m b f zs) j k d (on_part-below g k d s))
        | no n ↦ on_part-local g (on_part m a e ys) l k d (on_part-above h k d (omega arith)) ∙ sym (on_part-above h' k d (omega arith))
      ])

  -- a part of a part
  pub part-part : (m : List A) (a e b f : ℕ) → a ≤ e → e ≤ length m → f ≤ e - a → part (part m a e) b f ≡ part m (a + b) (a + f)
  part-part m a e b f s t u =
      let l = part_length m a e t in
      let n = part_length (part m a e) b f (omega arith) in
      ext (part (part m a e) b f) (part m (a + b) (a + f)) (omega (arith, part_length m (a + b) (a + f) (omega arith))) (λ i d k.
      let assoc : a + (b + i) ≡ a + b + i = omega arith in
      part_at (part m a e) b f i d (omega arith)
      ∙ part_at m a e (b + i) d (omega arith)
      ∙ ap (λ (x : ℕ). get_or m x d) assoc
      ∙ sym (part_at m (a + b) (a + f) i d (omega arith)))

  -- a part of a part replaced, and the part put back
  pub on_part-on_part : (m : List A) (a e : ℕ) {ys : List A} {b f : ℕ} → a ≤ e → e ≤ length m → Room (part m a e) b f ys
      → on_part m a e (on_part (part m a e) b f ys) ≡ on_part m (a + b) (a + f) ys
  on_part-on_part m a e {ys} {b} {f} s t h =
      let p = part_length m a e t in
      let n = on_part-length h in
      let o : Room m a e (on_part (part m a e) b f ys) = record { start = s; end = t; as_long = n ∙ p } in
      let w : Room m (a + b) (a + f) ys = record { start = omega arith; end = omega arith; as_long = omega arith } in
      ext (on_part m a e (on_part (part m a e) b f ys)) (on_part m (a + b) (a + f) ys) (on_part-length o ∙ sym (on_part-length w)) (λ k d q.
      elim (dec_lt k a) [
        | yes k<a ↦ on_part-below o k d k<a ∙ sym (on_part-below w k d (omega arith))
        | no a≤k ↦ elim (dec_lt k e) [
          | yes k<e ↦
              let at : a + (k - a) ≡ k = omega arith in
              let inner : (k - a < b) ⊎ (f ≤ k - a) → get_or (on_part (part m a e) b f ys) (k - a) d ≡ get_or m k d =
              λ v. on_part-outside h (k - a) d v ∙ part_at m a e (k - a) d (omega arith) ∙ ap (λ (x : ℕ). get_or m x d) at in
              on_part-within o k d (omega arith) k<e
              ∙ elim (dec_lt (k - a) b) [
                | yes u ↦ inner (inl u) ∙ sym (on_part-below w k d (omega arith))
                | no u ↦ elim (dec_lt (k - a) f) [
                  | yes v ↦
                      let same : k - a - b ≡ k - (a + b) = omega arith in
                      on_part-within h (k - a) d (omega arith) v ∙ ap (λ (x : ℕ). get_or ys x d) same ∙ sym (on_part-within w k d (omega arith) (omega arith))
                  | no v ↦ inner (inr (omega arith)) ∙ sym (on_part-above w k d (omega arith))
                ]
              ]
          | no e≤k ↦ on_part-above o k d (omega arith) ∙ sym (on_part-above w k d (omega arith))
        ]
      ])

  -- a part at the front
  pub on_part-front : (m ys : List A) (e : ℕ) → on_part m 0 e ys ≡ ys ++ drop e m
  unfolding on_part
  on_part-front m ys e = rw sub-zero

  -- the whole
  pub on_part-whole : (m ys : List A) → length ys ≡ length m → on_part m 0 (length m) ys ≡ ys
  on_part-whole m ys l =
      let h : Room m 0 (length m) ys = record { start = omega arith; end = omega arith; as_long = omega arith } in
      ext (on_part m 0 (length m) ys) ys (on_part-length h ∙ sym l) (λ k d q.
      let k< : k < length m = omega (arith, on_part-length h) in
      on_part-within h k d (omega arith) k< ∙ ap (λ (x : ℕ). get_or ys x d) (sub-zero k))

  -- a store into the part
  pub on_part-set : {m ys : List A} {a e : ℕ} → Room m a e ys → (i : ℕ) (v : A) → i < e - a → set (on_part m a e ys) (a + i) v ≡ on_part m a e (set ys i v)
  unfolding on_part
  on_part-set {m} {ys} {a} {e} h i v b =
      let l : length (take a m) ≡ a = length-take-le a m (omega arith) in
      ap (λ (n : ℕ). set (on_part m a e ys) (n + i) v) (sym l)
      ∙ set-append-add (take a m) (ys ++ drop (e - a) (drop a m)) i v
      ∙ ap (λ (r : List A). take a m ++ r) (set-append_left ys (drop (e - a) (drop a m)) i v (omega arith))
