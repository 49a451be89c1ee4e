-- Rows of a memory, and planes of rows. Assumes nothing.
use mathlib.Core.Path.{◌≡◌, sym, ap, ◌∙◌}
use mathlib.Core.Logic.{◌≢◌, ◌⊎◌, inl, inr, ⊎_elim}
use mathlib.Core.List.{List}
use Prim.Native.Nat.{ℕ, ◌+◌, ◌-◌, ◌*◌, ◌/◌, ◌%◌, ◌≤◌, ◌<◌}
use native.Mathlib.Nat.{add-mul, mul_assoc, mul-zero, mul-le-mul_right, eq-zero-or-pos, div-add-mod', div-lt_iff_lt-mul, mod-lt}
use native.Mathlib.Decide.{ℕ_discrete, dec_lt}
use native.Mathlib.Omega.{arith}
use lib.ListN.{length, get_or, replicate}
use Rattle.list.specs.Part.{part, on_part}
use Rattle.list.specs.Rows.{in_row, row_at, on_row, plane_row, on_plane_row}
use Rattle.list.proofs.Elements.{ext}
use Rattle.list.proofs.Parts.{Room, part_length, part_at, on_part-length, on_part-inside, on_part-outside, on_part-self, on_part-twice, on_part-comm, part_same, part_apart, part-part, part-replicate, on_part-on_part}

-- ---- numbers

-- row r of n lies inside the n rows; so a row ends where a later one begins or before
pub row_inside : (w : ℕ) {r n : ℕ} → r < n → r * w + w ≤ n * w
row_inside w {r} {n} h =
    let b : r + 1 ≤ n = omega arith in
    omega (arith, add-mul r 1 w, mul-le-mul_right w b)

pub rows_apart : (w : ℕ) {r s : ℕ} → r ≢ s → (r * w + w ≤ s * w) ⊎ (s * w + w ≤ r * w)
rows_apart w {r} {s} h = elim (dec_lt r s) [
  | yes b ↦ inl (row_inside w b)
  | no b ↦ inr (row_inside w (elim (dec_lt s r) [
    | yes c ↦ c
    | no c ↦ absurd (h (omega arith))
  ]))
]

-- a lane of a row lies inside; and so does a row of a plane
pub in_row-below : (w : ℕ) {r n l : ℕ} → r < n → l < w → in_row w r l < n * w
in_row-below w h b = omega (arith, row_inside w h)

-- lane and row are told by the lane's number; and so are row and plane
pub in_row-row : (w : ℕ) {r s l k : ℕ} → l < w → k < w → in_row w r l ≡ in_row w s k → r ≡ s
in_row-row w {r} {s} b c e = elim (ℕ_discrete r s) [
  | yes q ↦ q
  | no q ↦ absurd (⊎_elim (λ h. omega arith) (λ h. omega arith) (rows_apart w q))
]

pub in_row-lane : (w r s : ℕ) {l k : ℕ} → l < w → k < w → in_row w r l ≡ in_row w s k → l ≡ k
in_row-lane w r s b c e = let q : r * w ≡ s * w = ap (λ (x : ℕ). x * w) (in_row-row w b c e) in omega arith

-- other planes, or other rows of a plane: other rows of the memory
pub planes-apart : (n : ℕ) {p q r s : ℕ} → r < n → s < n → (p ≢ q) ⊎ (r ≢ s) → in_row n p r ≢ in_row n q s
planes-apart n {p} {q} b c o e = ⊎_elim (λ h. h (in_row-row n b c e)) (λ h. h (in_row-lane n p q b c e)) o

module _ {A : Type 0} where
  -- ---- rows

  -- ys has room as row r of width w
  pub record RowRoom (m : List A) (w r : ℕ) (ys : List A) : Type 0 where
    pub inside : r * w + w ≤ length m
    pub as_long : length ys ≡ w

  pub room_of_row : {m ys : List A} {w r : ℕ} → RowRoom m w r ys → Room m (r * w) (r * w + w) ys
  room_of_row h = record { start = omega arith; end = h.inside; as_long = omega arith }

  -- of a memory of n rows
  pub row_room : {m ys : List A} {w r n : ℕ} → r < n → n * w ≤ length m → length ys ≡ w → RowRoom m w r ys
  row_room {m} {ys} {w} b t l = record { inside = omega (arith, row_inside w b); as_long = l }

  -- in another memory as long there is as much room
  pub row-room-as : {m m' ys : List A} {w r : ℕ} → length m' ≡ length m → RowRoom m w r ys → RowRoom m' w r ys
  row-room-as e h = record { inside = omega arith; as_long = h.as_long }

  pub row-length : (m : List A) (w r : ℕ) → r * w + w ≤ length m → length (row_at m w r) ≡ w
  unfolding row_at
  row-length m w r h = part_length m (r * w) (r * w + w) h ∙ omega arith

  pub row-at : (m : List A) (w r l : ℕ) (d : A) → l < w → get_or (row_at m w r) l d ≡ get_or m (in_row w r l) d
  unfolding row_at
  row-at m w r l d h = part_at m (r * w) (r * w + w) l d (omega arith)

  -- a row of a memory of one value
  pub row-replicate : (k w r : ℕ) (x : A) → r * w + w ≤ k → row_at (replicate k x) w r ≡ replicate w x
  unfolding row_at
  row-replicate k w r x h =
      let wide : r * w + w - r * w ≡ w = omega arith in
      part-replicate k (r * w) (r * w + w) x h ∙ ap (λ (n : ℕ). replicate n x) wide

  pub on_row-length : {m ys : List A} {w r : ℕ} → RowRoom m w r ys → length (on_row m w r ys) ≡ length m
  unfolding on_row
  on_row-length h = on_part-length (room_of_row h)

  -- a lane of the row that was put there, and of another row
  pub on_row-at : {m ys : List A} {w r : ℕ} → RowRoom m w r ys → (l : ℕ) (d : A) → l < w → get_or (on_row m w r ys) (in_row w r l) d ≡ get_or ys l d
  unfolding on_row
  on_row-at h l d b = on_part-inside (room_of_row h) l d (omega arith)

  pub on_row-at-other : {m ys : List A} {w r : ℕ} → RowRoom m w r ys → (s l : ℕ) (d : A) → r ≢ s → l < w
      → get_or (on_row m w r ys) (in_row w s l) d ≡ get_or m (in_row w s l) d
  unfolding on_row
  on_row-at-other {m} {ys} {w} {r} h s l d ne b =
      on_part-outside (room_of_row h) (in_row w s l) d (⊎_elim (λ q. inr (omega arith)) (λ q. inl (omega arith)) (rows_apart w ne))

  -- the row that was put there, and another row
  pub on_row-same : {m ys : List A} {w r : ℕ} → RowRoom m w r ys → row_at (on_row m w r ys) w r ≡ ys
  unfolding on_row row_at
  on_row-same h = part_same (room_of_row h)

  pub on_row-other : {m ys : List A} {w r : ℕ} → RowRoom m w r ys → (s : ℕ) → r ≢ s → s * w + w ≤ length m → row_at (on_row m w r ys) w s ≡ row_at m w s
  unfolding on_row row_at
  on_row-other {m} {ys} {w} {r} h s ne t =
      part_apart (room_of_row h) (s * w) (s * w + w) t (⊎_elim inr inl (rows_apart w ne))

  pub on_row-self : (m : List A) (w r : ℕ) → on_row m w r (row_at m w r) ≡ m
  unfolding on_row row_at
  on_row-self m w r = on_part-self m (r * w) (r * w + w)

  pub on_row-twice : {m ys zs : List A} {w r : ℕ} → RowRoom m w r ys → RowRoom m w r zs → on_row (on_row m w r ys) w r zs ≡ on_row m w r zs
  unfolding on_row
  on_row-twice h g = on_part-twice (room_of_row h) (room_of_row g)

  pub on_row-comm : {m ys zs : List A} {w r s : ℕ} → RowRoom m w r ys → RowRoom m w s zs → r ≢ s
      → on_row (on_row m w r ys) w s zs ≡ on_row (on_row m w s zs) w r ys
  unfolding on_row
  on_row-comm {w = w} h g ne =
      ⊎_elim
      (λ q. on_part-comm (room_of_row h) (room_of_row g) q)
      (λ q. sym (on_part-comm (room_of_row g) (room_of_row h) q))
      (rows_apart w ne)

  -- ---- rows at an offset, and planes

  -- row r of the part from a up to e
  pub row-of-part : (m : List A) (a e w r : ℕ) → a ≤ e → e ≤ length m → r * w + w ≤ e - a
      → row_at (part m a e) w r ≡ part m (a + r * w) (a + r * w + w)
  unfolding row_at
  row-of-part m a e w r s t u =
      let assoc : a + (r * w + w) ≡ a + r * w + w = omega arith in
      part-part m a e (r * w) (r * w + w) s t u ∙ ap (part m (a + r * w)) assoc

  pub on_row-of-part : (m : List A) (a e : ℕ) {ys : List A} {w r : ℕ} → a ≤ e → e ≤ length m → RowRoom (part m a e) w r ys
      → on_part m a e (on_row (part m a e) w r ys) ≡ on_part m (a + r * w) (a + r * w + w) ys
  unfolding on_row
  on_row-of-part m a e {ys} {w} {r} s t h =
      let assoc : a + (r * w + w) ≡ a + r * w + w = omega arith in
      on_part-on_part m a e s t (room_of_row h) ∙ ap (λ (x : ℕ). on_part m (a + r * w) x ys) assoc

  -- a plane of n rows is a row of n * w lanes, and its rows are the memory's
  pub row-of-plane : (m : List A) (n w p r : ℕ) → r < n → p * (n * w) + n * w ≤ length m → row_at (row_at m (n * w) p) w r ≡ plane_row m n w p r
  unfolding row_at
  row-of-plane m n w p r b t =
      let from : p * (n * w) + r * w ≡ (p * n + r) * w = omega (arith, add-mul (p * n) r w, mul_assoc p n w) in
      row-of-part m (p * (n * w)) (p * (n * w) + n * w) w r (omega arith) t (omega (arith, row_inside w b))
      ∙ ap (λ (x : ℕ). part m x (x + w)) from

  pub on_row-of-plane : (m ys : List A) (n w p r : ℕ) → r < n → p * (n * w) + n * w ≤ length m → length ys ≡ w
      → on_row m (n * w) p (on_row (row_at m (n * w) p) w r ys) ≡ on_plane_row m n w p r ys
  unfolding row_at on_row
  on_row-of-plane m ys n w p r b t l =
      let from : p * (n * w) + r * w ≡ (p * n + r) * w = omega (arith, add-mul (p * n) r w, mul_assoc p n w) in
      let room : RowRoom (part m (p * (n * w)) (p * (n * w) + n * w)) w r ys =
      record { inside = omega (arith, row_inside w b, part_length m (p * (n * w)) (p * (n * w) + n * w) t); as_long = l } in
      on_row-of-part m (p * (n * w)) (p * (n * w) + n * w) (omega arith) t room ∙ ap (λ (x : ℕ). on_part m x (x + w) ys) from

  -- ---- a memory is told by its rows

  pub rows_ext : (m₁ m₂ : List A) (n w : ℕ) → length m₁ ≡ n * w → length m₂ ≡ n * w → ((r : ℕ) → r < n → row_at m₁ w r ≡ row_at m₂ w r) → m₁ ≡ m₂
  rows_ext m₁ m₂ n w e₁ e₂ h = ext m₁ m₂ (e₁ ∙ sym e₂) (λ k d b.
      ⊎_elim
      (λ (z : w ≡ 0). absurd (omega (arith, ap (λ (x : ℕ). n * x) z, mul-zero n)))
      (λ (pos : 0 < w).
      let at : in_row w (k / w) (k % w) ≡ k = div-add-mod' k w in
      let r< : k / w < n = (div-lt_iff_lt-mul pos).1 (omega arith) in
      let l< : k % w < w = mod-lt k pos in
      ap (λ (x : ℕ). get_or m₁ x d) (sym at)
      ∙ sym (row-at m₁ w (k / w) (k % w) d l<)
      ∙ ap (λ (row : List A). get_or row (k % w) d) (h (k / w) r<)
      ∙ row-at m₂ w (k / w) (k % w) d l<
      ∙ ap (λ (x : ℕ). get_or m₂ x d) at)
      (eq-zero-or-pos w))
