-- A turn of `places`: placing d takes it out of the unplaced. Assumes nothing.
use mathlib.Core.Path.{◌≡◌, refl, sym, ap, ◌∙◌}
use mathlib.Core.Bool.{Bool, true, false, not}
use mathlib.Core.List.{List, [], ◌∷◌, ◌++◌, append-nil}
use Prim.Native.Nat.{ℕ, zero, suc, ◌+◌, ◌-◌, ◌≤◌, ◌<◌}
use native.Mathlib.Omega.{arith}
use native.Mathlib.Numerals.{add-one}
use lib.ListN.{length, get_or, set, take, drop, replicate}
use lib.Seq.{get_or-set_same, get_or-set_other, take-suc-set, append_snoc, drop-cons, drop-set-lt}
use Rattle.feed.specs.Numbers.{In, remove, first_or, up_from}
use Rattle.feed.specs.Order.{free, next, greedy, order}
use Rattle.feed.specs.Marks.{unplaced}
use Rattle.feed.proofs.Count.{hit_same, length-remove, length-up_from, up_from-bound, up_from-ascending}
use Rattle.feed.proofs.Keep.{keep-from, keep_all, keep-remove}
use Rattle.feed.proofs.Next.{next-in, free-from}

pub unplaced-bound : (p : List Bool) (n d : ℕ) → In d (unplaced p 0 n) → d < n
unplaced-bound p n d m = omega (arith, up_from-bound d 0 n (keep-from (λ a. not (get_or p a false)) d (up_from 0 n) m).0)

-- the first free one where it is below n, else the first unplaced: the next
module _ (feeds : ℕ → ℕ → Bool) (p : List Bool) (n r : ℕ) (is : r ≡ first_or n (free feeds (unplaced p 0 n))) where
  pub next-free-one : r < n → r ≡ next feeds (unplaced p 0 n)
  next-free-one h = go (free feeds (unplaced p 0 n)) is
    where
      go : (l : List ℕ) → r ≡ first_or n l → r ≡ first_or (first_or 0 (unplaced p 0 n)) l
      go [] e = absurd (omega arith)
      go (x ∷ l) e = e

  pub next-lowest : n ≤ r → first_or 0 (unplaced p 0 n) ≡ next feeds (unplaced p 0 n)
  next-lowest h = go (free feeds (unplaced p 0 n)) refl
    where
      go : (l : List ℕ) → free feeds (unplaced p 0 n) ≡ l → first_or 0 (unplaced p 0 n) ≡ first_or (first_or 0 (unplaced p 0 n)) l
      go [] e = refl
      go (x ∷ l) e =
          let m : In x (free feeds (unplaced p 0 n)) = rw e (omega (arith, hit_same x)) in
          absurd (omega (arith, is ∙ ap (first_or n) e, unplaced-bound p n x (free-from feeds (unplaced p 0 n) x m).0))

-- nothing is placed yet
get_or-none : (n i : ℕ) → get_or (replicate n false) i false ≡ false
get_or-none zero i = refl
get_or-none (suc n) zero = refl
get_or-none (suc n) (suc i) = get_or-none n i

pub unplaced-start : (w n : ℕ) → unplaced (replicate w false) 0 n ≡ up_from 0 n
unplaced-start w n = keep_all (λ a. not (get_or (replicate w false) a false)) (up_from 0 n) (λ b m. ap not (get_or-none w b))

pub unplaced-set : (p : List Bool) (n d : ℕ) → d < length p → In d (unplaced p 0 n) → unplaced (set p d true) 0 n ≡ remove d (unplaced p 0 n)
unplaced-set p n d h m =
    keep-remove (λ a. not (get_or p a false)) (λ a. not (get_or (set p d true) a false)) d (up_from 0 n) (up_from-ascending 0 n)
    (keep-from (λ a. not (get_or p a false)) d (up_from 0 n) m).1 (ap not (get_or-set_same p d true false h)) (λ a ne. ap not (get_or-set_other p d a true false ne))

module _ (feeds : ℕ → ℕ → Bool) (p : List Bool) (out whole : List ℕ) (n k d : ℕ) (lt : k < n) (room : n ≤ length p) (here : k < length out)
    (is : d ≡ next feeds (unplaced p 0 n)) (many : length (unplaced p 0 n) ≡ n - k) where
  inside : In d (unplaced p 0 n)
  inside = rw is (next-in feeds (unplaced p 0 n) (omega arith))

  pub place-below : d < n
  place-below = unplaced-bound p n d inside

  pub turn-length : length (unplaced (set p d true) 0 n) ≡ n - (k + 1)
  turn-length = rw (unplaced-set p n d (omega (arith, place-below)) inside) (omega (arith, length-remove d (unplaced p 0 n) inside))

  pub turn : take k out ++ greedy feeds (n - k) (unplaced p 0 n) ≡ whole
      → take (k + 1) (set out k d) ++ greedy feeds (n - (k + 1)) (unplaced (set p d true) 0 n) ≡ whole
  turn so_far =
      let e : n - k ≡ suc (n - (k + 1)) = omega arith in
      let at-d : take k out ++ (d ∷ greedy feeds (n - (k + 1)) (remove d (unplaced p 0 n))) ≡ whole = rw is (rw e at so_far) in
      rw (unplaced-set p n d (omega (arith, place-below)) inside, add-one, take-suc-set out k d here, append_snoc) (rw add-one at at-d)

-- before the first turn, and after the last
pub start : (feeds : ℕ → ℕ → Bool) (w n : ℕ) → greedy feeds n (unplaced (replicate w false) 0 n) ≡ order feeds (up_from 0 n)
unfolding order
start feeds w n = rw (unplaced-start w n, length-up_from 0 n)

pub finish : (feeds : ℕ → ℕ → Bool) (out us whole : List ℕ) (n k : ℕ) → k ≤ n → n ≤ k → take k out ++ greedy feeds (n - k) us ≡ whole → take n out ≡ whole
finish feeds out us whole n k l g so_far =
    let e : k ≡ n = omega arith in
    let z : n - k ≡ 0 = omega arith in
    rw (← e) (sym (append-nil (take k out)) ∙ rw z at so_far)

-- what no turn has written yet is 0
pub zeros-turn : (out : List ℕ) (w k d : ℕ) → k < w → length out ≡ w → drop k out ≡ replicate (w - k) 0 → drop (k + 1) (set out k d) ≡ replicate (w - (k + 1)) 0
zeros-turn out w k d h len zeros =
    let m : w - k ≡ suc (w - (k + 1)) = omega arith in
    let split : get_or out k 0 ∷ drop (suc k) out ≡ 0 ∷ replicate (w - (k + 1)) 0 = sym (drop-cons out k 0 (omega arith)) ∙ rw m at zeros in
    let rest : drop (suc k) out ≡ replicate (w - (k + 1)) 0 = cc in
    let kept : drop (k + 1) (set out k d) ≡ drop (suc k) out = rw add-one (drop-set-lt (suc k) out k d (omega arith)) in
    kept ∙ rest
