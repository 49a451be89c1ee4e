-- A memory as rows of w lanes one after the other, and as planes of n such rows. Definitions only. A plane of n rows of
-- w lanes is a row of n * w lanes; row r of plane p is row `in_row n p r` of the memory. So a memory in which each of
-- some things has n rows, and after b rows each of some other things m rows, has the k-th row of the first kind's p-th
-- at `in_row n p k` and of the second kind's q-th at `b + in_row m q k`.
use Rattle.std.specs.Prelude.{◌≡◌, refl, List, [], ◌∷◌, ℕ, ◌+◌, ◌*◌}
use Rattle.list.specs.Part.{part, on_part}

-- the number of the l-th of row r, rows of w: a lane's in the memory, or a row's in a memory of planes
abbrev pub in_row : ℕ → ℕ → ℕ → ℕ
in_row w r l = r * w + l

-- lane l of row r of plane p, planes of n rows of w lanes
abbrev pub lane_at : ℕ → ℕ → ℕ → ℕ → ℕ → ℕ
lane_at n w p r l = in_row w (in_row n p r) l

module _ {A : Type 0} where
  -- row r of width w, and the memory with that row replaced
  unfoldable pub row_at : List A → ℕ → ℕ → List A
  row_at m w r = part m (r * w) (r * w + w)

  unfoldable pub on_row : List A → ℕ → ℕ → List A → List A
  on_row m w r ys = on_part m (r * w) (r * w + w) ys

  -- row r of plane p, planes of n rows of width w, and the memory with that row replaced
  abbrev pub plane_row : List A → ℕ → ℕ → ℕ → ℕ → List A
  plane_row m n w p r = row_at m w (in_row n p r)

  abbrev pub on_plane_row : List A → ℕ → ℕ → ℕ → ℕ → List A → List A
  on_plane_row m n w p r ys = on_row m w (in_row n p r) ys

second-row : row_at {A = ℕ} (1 ∷ 2 ∷ 3 ∷ 4 ∷ 5 ∷ 6 ∷ []) 2 1 ≡ 3 ∷ 4 ∷ []
unfolding row_at part
second-row = refl

on-second-row : on_row {A = ℕ} (1 ∷ 2 ∷ 3 ∷ 4 ∷ 5 ∷ 6 ∷ []) 2 1 (8 ∷ 9 ∷ []) ≡ 1 ∷ 2 ∷ 8 ∷ 9 ∷ 5 ∷ 6 ∷ []
unfolding on_row on_part
on-second-row = refl

-- planes of 2 rows of 2 lanes: row 0 of plane 1
row-of-second-plane : plane_row {A = ℕ} (1 ∷ 2 ∷ 3 ∷ 4 ∷ 5 ∷ 6 ∷ 7 ∷ 8 ∷ []) 2 2 1 0 ≡ 5 ∷ 6 ∷ []
unfolding row_at part
row-of-second-plane = refl

-- planes of 3 rows of 16 lanes: lane 5 of row 2 of plane 4
a-lane : lane_at 3 16 4 2 5 ≡ 229
a-lane = refl
