-- Where the rows are in order, what they say is the lowest number that applies. Assumes nothing.
use mathlib.Core.Path.{◌≡◌, refl}
use mathlib.Core.Logic.{⊎_elim}
use mathlib.Core.List.Memᴰ
use mathlib.Core.List.{List, [], ◌∷◌, Memᴰ}
use Prim.Native.Nat.{ℕ}
use lib.Dec.{T}
use Rattle.refusal.specs.Judge.{Row, judged, numbered, ascends}
use Rattle.refusal.proofs.Laws.{and_left, and_right, judged-applies, judged-accepted, judged-lowest}
use Rattle.reply.specs.Reply.{in_order, listed, within, ordered, Lowest}

-- a row among them has one of the numbers
within-at : (ks : List ℕ) (rows : List Row) → T (within ks rows) → (r : Row) → Memᴰ r rows → T (listed r.number ks)
within-at ks [] h r m = absurd (Memᴰ.not-nil m)
within-at ks (x ∷ xs) h r m =
    ⊎_elim
    (λ q. rw q (and_left (listed x.number ks) (within ks xs) h))
    (within-at ks xs (and_right (listed x.number ks) (within ks xs) h) r)
    (Memᴰ.cases_cons m)

lowest : (ks : List ℕ) (rows : List Row) → T (in_order rows) → T (within ks rows) → Lowest ks rows (judged rows)
lowest ks rows order own =
    record {
      least = judged-lowest rows (and_right (numbered rows) (ascends rows) order);
      applies = judged-applies rows (judged rows) refl;
      accepted = judged-accepted rows (and_left (numbered rows) (ascends rows) order);
      own = λ ne. let f = judged-applies rows (judged rows) refl ne in rw f.2 at (within-at ks rows own f.0 f.1);
    }

-- THE LAW: one computed test of a call's rows makes its number, which is what the rows say, the lowest
pub lowest-of : (ks : List ℕ) (rows : List Row) (n : ℕ) → n ≡ judged rows → T (ordered ks rows) → Lowest ks rows n
lowest-of ks rows n e h = rw e (lowest ks rows (and_left (in_order rows) (within ks rows) h) (and_right (in_order rows) (within ks rows) h))
