-- What glides do (document 01, Chunk and value; engine.rs 701-754). Assumes nothing.
use mathlib.Core.Path.{◌≡◌, refl, ap}
use mathlib.Core.Bool.{Bool, true, false, cond, ◌&&◌, ◌||◌}
use mathlib.Core.List.{List, [], ◌∷◌}
use Prim.Native.Nat.{ℕ}
use native.Mathlib.Omega.{arith}
use lib.Ieee.{Float, le}
use lib.ListN.{length}
use Rattle.std.specs.List.{list_any}
use Rattle.number.specs.Number.{zero32, times, nearest32}
use Rattle.voice.specs.declared.Glide.{Glide}
use Rattle.voice.specs.declared.Legato.{Legato}
use Rattle.voice.specs.declared.Notes.{Notes}
use Rattle.voice.specs.Joined.{joined}
use Rattle.voice.specs.Notes.{stopped, glides_to, set_value, set_lane, moving, arrives, moved, moved_value, moved_glide, moved_lane, any_moving, advanced}

-- a glide whose step is 0 stands still, also one whose step is 0 because seconds times rate overflowed: it never moves and never arrives
pub zero-stands : (g : Glide) → g.step ≡ zero32 → moving g ≡ false
unfolding moving le
zero-stands g e = rw e

pub stopped-stands : (g : Glide) → moving (stopped g) ≡ false
stopped-stands g = zero-stands (stopped g) refl

module _ (frames x : Float) (g : Glide) where
  pub still-value : moving g ≡ false → moved_value frames x g ≡ x
  unfolding moved_value
  still-value e = rw e

  pub still-glide : moving g ≡ false → moved_glide frames x g ≡ g
  unfolding moved_glide
  still-glide e = rw e

  -- what arrives is exactly at its target, and stands there
  pub arrives-there : moving g ≡ true → arrives x g (times g.step frames) ≡ true → (moved_value frames x g ≡ g.target) × (moved_glide frames x g ≡ stopped g)
  unfolding moved_value moved_glide moved
  arrives-there m a = (rw (m, a), rw (m, a))

  -- what does not arrive keeps its glide
  pub on-its-way : arrives x g (times g.step frames) ≡ false → moved_glide frames x g ≡ g
  unfolding moved_glide
  on-its-way a = rw a (and-false (moving g))
    where
      and-false : (b : Bool) → cond (b && false) (stopped g) g ≡ g
      and-false true = refl
      and-false false = refl

-- a held lane is written wherever the value changes: set, or moved
pub lane-set : (x target lane : Float) (legato : Legato) → glides_to x target legato ≡ true → (set_value x target legato ≡ x) × (set_lane x target legato lane ≡ lane)
unfolding set_value set_lane
lane-set x target lane legato e = (rw e, rw e)

pub lane-moved : (frames x lane : Float) (g : Glide) → moving g ≡ false → (moved_value frames x g ≡ x) × (moved_lane g (moved_value frames x g) lane ≡ lane)
unfolding moved_lane
lane-moved frames x lane g e = (still-value frames x g e, rw e)

-- ---- where no glide moves

or-false-l : (a b : Bool) → (a || b) ≡ false → a ≡ false
or-false-l true b h = h
or-false-l false b h = refl

or-false-r : (a b : Bool) → (a || b) ≡ false → b ≡ false
or-false-r true b h = cc
or-false-r false b h = h

still-values : (frames : Float) (xs : List Float) (gs : List Glide) → length xs ≡ length gs → any_moving gs ≡ false → joined (moved_value frames) xs gs ≡ xs
unfolding joined any_moving
still-values frames [] gs e h = refl
still-values frames (x ∷ xs) [] e h = absurd (omega arith)
still-values frames (x ∷ xs) (g ∷ gs) e h =
    let here = still-value frames x g (or-false-l (moving g) (any_moving gs) h) in
    let rest = still-values frames xs gs (omega arith) (or-false-r (moving g) (any_moving gs) h) in
    rw (here, rest)

still-glides : (frames : Float) (xs : List Float) (gs : List Glide) → length xs ≡ length gs → any_moving gs ≡ false → joined (moved_glide frames) xs gs ≡ gs
unfolding joined any_moving
still-glides frames [] [] e h = refl
still-glides frames [] (g ∷ gs) e h = absurd (omega arith)
still-glides frames (x ∷ xs) [] e h = absurd (omega arith)
still-glides frames (x ∷ xs) (g ∷ gs) e h =
    let here = still-glide frames x g (or-false-l (moving g) (any_moving gs) h) in
    let rest = still-glides frames xs gs (omega arith) (or-false-r (moving g) (any_moving gs) h) in
    rw (here, rest)

-- nothing is to be done
pub advanced-still : (s : Notes) (frames : ℕ) → length s.value ≡ length s.glide → any_moving s.glide ≡ false → advanced s frames ≡ s
unfolding advanced
advanced-still s frames e h =
    rw (still-values (nearest32 frames) s.value s.glide e h, still-glides (nearest32 frames) s.value s.glide e h)

-- a search for a glide that moves
pub any_moving_any : (gs : List Glide) → list_any moving gs ≡ any_moving gs
unfolding any_moving
any_moving_any [] = refl
any_moving_any (g ∷ gs) = ap (λ r. moving g || r) (any_moving_any gs)
