-- What adding does: each row where it applies, what is known of an entry that is accepted, and what the registry then holds. Assumes nothing.
use mathlib.Core.Path.{◌≡◌, refl, sym}
use mathlib.Core.Bool.{Bool, true, false, cond}
use mathlib.Core.List.{[], ◌∷◌, ◌++◌}
use Prim.Native.Nat.{ℕ, ◌+◌, ◌<◌}
use native.Mathlib.Nat.{min-eq_left}
use native.Mathlib.Numerals.{add-one}
use native.Mathlib.Omega.{arith}
use borrow.Author.Tests.{leb-false, eq-eqb, ne_eqb}
use lib.Dec.{leb}
use lib.Ieee.{Float, nan, inf, fin, lt, is_nan}
use Rattle.std.specs.Prelude.{is_some, Err}
use lib.ListN.{length}
use lib.Seq.{take-suc-set}
use Rattle.refusal.specs.Judge.{◌when◌, judged}
use Rattle.refusal.specs.Refusal.{number_of}
use Rattle.refusal.specs.declared.Refusal.{Refusal}
use Rattle.refusal.proofs.Laws.{number-above}
use Rattle.config.specs.Sizes.{most_destinations}
use Rattle.state.specs.declared.Dest.{Dest}
use Rattle.state.specs.declared.Destinations.{Destinations}
use Rattle.state.specs.Registry.{dest_count}
use Rattle.dest.specs.Entries.{registered, find_target, find_dest}
use Rattle.dest.specs.Adding.{bad_bounds, bad_slot, add_code, appended, added_said, add_dest}

-- ---- bounds: a NaN is below nothing, and nothing is below it

pub bounds-bad : (lo hi : Float) → lt lo hi ≡ false → bad_bounds lo hi ≡ true
unfolding bad_bounds lt is_nan
bounds-bad nan hi e = refl
bounds-bad (inf s) nan e = refl
bounds-bad (inf s) (inf t) e = rw e
bounds-bad (inf s) (fin t m k) e = rw e
bounds-bad (fin s n j) nan e = refl
bounds-bad (fin s n j) (inf t) e = rw e
bounds-bad (fin s n j) (fin t m k) e = rw e

pub bounds-good : (lo hi : Float) → lt lo hi ≡ true → bad_bounds lo hi ≡ false
unfolding bad_bounds lt is_nan
bounds-good nan hi e = sym e
bounds-good (inf s) nan e = sym e
bounds-good (inf s) (inf t) e = rw e
bounds-good (inf s) (fin t m k) e = rw e
bounds-good (fin s n j) nan e = sym e
bounds-good (fin s n j) (inf t) e = rw e
bounds-good (fin s n j) (fin t m k) e = rw e

-- ---- the rows, in order

module _ (ds : Destinations) (d : Dest) where
  pub code-9 : is_some (find_dest ds d.target) ≡ true → add_code ds d ≡ 9
  unfolding add_code find_dest judged
  code-9 a = rw a

  pub code-10 : is_some (find_dest ds d.target) ≡ false → bad_bounds d.min d.max ≡ true → add_code ds d ≡ 10
  unfolding add_code find_dest judged
  code-10 a b = rw (a, b)

  pub code-11 : is_some (find_dest ds d.target) ≡ false → bad_bounds d.min d.max ≡ false → bad_slot d.feed ≡ true → add_code ds d ≡ 11
  unfolding add_code find_dest judged
  code-11 a b e = rw (a, b, e)

  pub code-rest : is_some (find_dest ds d.target) ≡ false → bad_bounds d.min d.max ≡ false → bad_slot d.feed ≡ false → add_code ds d ≡ judged (12 when leb most_destinations (dest_count ds) ∷ [])
  unfolding add_code find_dest judged
  code-rest a b e = rw (a, b, e)

-- ---- what is known of an entry that is accepted

pub record Accepted (ds : Destinations) (d : Dest) : Type 0 where
  pub unused : is_some (find_dest ds d.target) ≡ false
  pub bounds : bad_bounds d.min d.max ≡ false
  pub slot : bad_slot d.feed ≡ false
  pub room : dest_count ds < most_destinations

none-applies : (p q r s : Bool) → ◌≡◌ {A = ℕ} (cond p 9 (cond q 10 (cond r 11 (cond s 12 0)))) 0 → (p ≡ false) × (q ≡ false) × (r ≡ false) × (s ≡ false)
none-applies false false false false h = (refl, refl, refl, refl)
none-applies false false false true h = absurd (omega arith)
none-applies false false true s h = absurd (omega arith)
none-applies false true r s h = absurd (omega arith)
none-applies true q r s h = absurd (omega arith)

pub accepted : (ds : Destinations) (d : Dest) → add_code ds d ≡ 0 → Accepted ds d
unfolding add_code find_dest judged
accepted ds d h =
    let f = none-applies (is_some (find_target d.target (registered ds))) (bad_bounds d.min d.max) (bad_slot d.feed) (leb most_destinations (dest_count ds)) h in
    record { unused = f.0; bounds = f.1; slot = f.2; room = leb-false most_destinations (dest_count ds) f.3 }

-- ---- the answer

pub add-accepted : (ds : Destinations) (d : Dest) → add_code ds d ≡ 0 → add_dest ds d ≡ record { code = 0; id = dest_count ds; dests = appended ds d }
unfolding add_dest
add-accepted ds d h = rw (eq-eqb (add_code ds d) 0 h)

-- a refusal leaves the registry
pub add-refused : (ds : Destinations) (d : Dest) (n : ℕ) → n ≡ add_code ds d → (n ≡ 0 → ⊥) → add_dest ds d ≡ record { code = n; id = 0; dests = ds }
unfolding add_dest
add-refused ds d n e h = rw (sym e, ne_eqb n 0 h)

-- as a Result says it
pub add-refused-by : (ds : Destinations) (d : Dest) (r : Refusal) → number_of r ≡ add_code ds d → add_dest ds d ≡ added_said ds (Err r)
unfolding add_dest
add-refused-by ds d r e = rw (ne_eqb (add_code ds d) 0 (λ z. omega (arith, number-above r)), e)

-- ---- the registry after an entry is accepted

module _ (ds : Destinations) (d : Dest) (long : length ds.entry ≡ most_destinations) (room : dest_count ds < most_destinations) where
  pub appended-count : dest_count (appended ds d) ≡ dest_count ds + 1
  unfolding appended
  appended-count = min-eq_left (omega arith)

  -- the entries are as before, and the new one follows
  pub appended-registered : registered (appended ds d) ≡ registered ds ++ (d ∷ [])
  unfolding registered appended
  appended-registered = rw (appended-count, add-one) (take-suc-set ds.entry (dest_count ds) d (omega arith))
