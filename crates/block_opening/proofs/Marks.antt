-- What opens a block, over the parts of a state. Assumes nothing.
use mathlib.Core.Path.{◌≡◌, refl, ◌∙◌}
use Prim.Native.Nat.{ℕ, zero, suc, ◌+◌, ◌*◌, ◌≤◌, ◌<◌, min}
use mathlib.Core.Bool.{Bool, true, false, cond, ◌||◌}
use mathlib.Core.List.{List, [], ◌∷◌}
use native.Mathlib.Numerals.{add-one}
use native.Mathlib.Nat.{mul_comm, le_of_suc-le-suc, not-suc-le-zero}
use native.Mathlib.Omega.{arith}
use lib.ListN.{length, get_or, set}
use lib.Seq.{set-get_or}
use lib.Ieee.{Float, nan}
use Rattle.config.specs.Sizes.{most_voices}
use Rattle.number.specs.Number.{one32, over, min32, nearest32}
use Rattle.voice.specs.declared.Voices.{Voices}
use Rattle.voice.specs.declared.Glide.{Glide}
use Rattle.voice.specs.declared.Notes.{Notes}
use Rattle.voice.specs.Voices.{active_count}
use Rattle.voice.specs.Notes.{moving, unread, any_moving}
use Rattle.list.proofs.Rows.{in_row-below}
use Rattle.state.specs.declared.Kind.{Kind}
use Rattle.state.specs.declared.State.{State}
use Rattle.state.specs.declared.SourceMark.{SourceMark}
use Rattle.model.specs.World.{is_load, held_by, load_by}
use Rattle.model.specs.Counts.{stride_of, engine_sources}
use Rattle.model.specs.Process.{load_of, moved_held}
use Rattle.block_opening.specs.Marks.{load_in, kind_in, load_lane, load_if, held_if, moved_if}

pub load-of-state : (st : State) → load_in st.voices st.config.voices st.limit ≡ load_of st
unfolding load_in
load-of-state st = refl

pub load-by-marks : (st : State) (x : Float) (n : ℕ) (m : List Float) → load_if st.mark x n m ≡ load_by st x n m
unfolding load_if load_by
load-by-marks st x zero m = refl
load-by-marks st x (suc n) m = rw (load-by-marks st x n m)

pub load-none : (mark : List SourceMark) (x : Float) (m : List Float) → load_if mark x 0 m ≡ m
unfolding load_if
load-none mark x m = refl

-- a number that is stored where the test passes, and else stored back
pub stored : (t : Bool) (m : List Float) (i : ℕ) (d x : Float) → set m i (cond t x (get_or m i d)) ≡ cond t (set m i x) m
stored true m i d x = refl
stored false m i d x = set-get_or m i d

-- the turn of source i
pub load-more : (mark : List SourceMark) (x : Float) (m out : List Float) (i : ℕ) (d v : Float) → out ≡ load_if mark x i m
    → v ≡ load_lane (kind_in mark i) x (get_or out i d) → set out i v ≡ load_if mark x (i + 1) m
unfolding load_if
load-more mark x m out i d v e w = rw w (stored (is_load (kind_in mark i)) out i d x ∙ rw (add-one, e))

-- the load, step by step
pub load-steps : (voices : Voices) (n limit held active : ℕ) (many most r : Float) → held ≡ min n most_voices → active ≡ active_count voices held
    → many ≡ nearest32 active → most ≡ nearest32 limit → r ≡ min32 (over many most) one32 → r ≡ load_in voices n limit
unfolding load_in
load-steps voices n limit held active many most r e f g h k = k ∙ rw (g, h, f, e)

-- ---- held numbers

pub held-by-marks : (st : State) (p : Kind → Bool) (lane : ℕ) (x : Float) (n : ℕ) (m : List Float)
    → held_if st.mark p (stride_of st) lane x n m ≡ held_by st p lane x n m
unfolding held_if held_by
held-by-marks st p lane x zero m = refl
held-by-marks st p lane x (suc n) m = rw (held-by-marks st p lane x n m)

pub moved-by-marks : (st : State) (p : Kind → Bool) (old new : Notes) (n : ℕ) (m : List Float)
    → moved_if st.mark p (stride_of st) (engine_sources st) old.glide new.value n m ≡ moved_held st p old new n m
unfolding moved_if moved_held
moved-by-marks st p old new zero m = refl
moved-by-marks st p old new (suc n) m = rw (moved-by-marks st p old new n m, held-by-marks)

pub held_none : (mark : List SourceMark) (p : Kind → Bool) (stride lane : ℕ) (x : Float) (m : List Float) → held_if mark p stride lane x 0 m ≡ m
unfolding held_if
held_none mark p stride lane x m = refl

-- the turn of source i
pub held_more : (mark : List SourceMark) (p : Kind → Bool) (stride lane : ℕ) (x : Float) (m out : List Float) (i k : ℕ) (d v : Float)
    → out ≡ held_if mark p stride lane x i m → k ≡ i * stride + lane → v ≡ cond (p (kind_in mark i)) x (get_or out k d)
    → set out k v ≡ held_if mark p stride lane x (i + 1) m
unfolding held_if
held_more mark p stride lane x m out i k d v e f w = rw w (stored (p (kind_in mark i)) out k d x ∙ rw (add-one, e, f))

pub moved_none : (mark : List SourceMark) (p : Kind → Bool) (stride sources : ℕ) (glide : List Glide) (value : List Float) (m : List Float)
    → moved_if mark p stride sources glide value 0 m ≡ m
unfolding moved_if
moved_none mark p stride sources glide value m = refl

-- the turn of voice v
pub moved_more : (mark : List SourceMark) (p : Kind → Bool) (stride sources : ℕ) (glide : List Glide) (value m out next : List Float) (v : ℕ)
    → out ≡ moved_if mark p stride sources glide value v m
    → next ≡ cond (moving (get_or glide v unread)) (held_if mark p stride v (get_or value v nan) sources out) out
    → next ≡ moved_if mark p stride sources glide value (v + 1) m
unfolding moved_if
moved_more mark p stride sources glide value m out next v e w = w ∙ rw (add-one, e)

-- a lane of a source lies inside
pub place_inside : (stride : ℕ) {i sources lane n : ℕ} → i < sources → lane < stride → stride * sources ≤ n → i * stride + lane < n
place_inside stride {i} {sources} h b t = omega (arith, in_row-below stride h b, mul_comm stride sources)

-- ---- where no glide moves

or_left : (a b : Bool) → (a || b) ≡ false → a ≡ false
or_left true b h = h
or_left false b h = refl

or_right : (a b : Bool) → (a || b) ≡ false → b ≡ false
or_right true b h = cc
or_right false b h = h

still-at : (gs : List Glide) (v : ℕ) (d : Glide) → v < length gs → any_moving gs ≡ false → moving (get_or gs v d) ≡ false
unfolding any_moving
still-at [] v d b h = absurd (not-suc-le-zero b)
still-at (g ∷ gs) zero d b h = or_left (moving g) (any_moving gs) h
still-at (g ∷ gs) (suc v) d b h = still-at gs v d (le_of_suc-le-suc b) (or_right (moving g) (any_moving gs) h)

pub moved-still : (mark : List SourceMark) (p : Kind → Bool) (stride sources : ℕ) (glide : List Glide) (value m : List Float) (n : ℕ)
    → n ≤ length glide → any_moving glide ≡ false → moved_if mark p stride sources glide value n m ≡ m
unfolding moved_if
moved-still mark p stride sources glide value m zero b h = refl
moved-still mark p stride sources glide value m (suc n) b h =
    rw (still-at glide n unread b h, moved-still mark p stride sources glide value m n (omega arith) h)
