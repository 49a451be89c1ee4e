-- Counting the lines of a text byte by byte. Assumes nothing.
use Rattle.std.proofs.Common.{◌≡◌, ℕ, ◌+◌, cond, eqb, List, length, get_or, refl, ap, ◌∙◌, add-one, arith}
use Rattle.trace_output_show.specs.Feeds.{feeds_to, feeds_of}

pub feeds-none : (s : List ℕ) → 0 ≡ feeds_to s 0
unfolding feeds_to
feeds-none s = refl

-- one byte more
pub feeds-more : (s : List ℕ) (i n r : ℕ) → n ≡ feeds_to s i → r ≡ cond (eqb (get_or s i 0) 10) 1 0 → n + r ≡ feeds_to s (i + 1)
unfolding feeds_to
feeds-more s i n r e f = rw add-one (omega (arith, e, f))

-- every byte
pub feeds-all : (s : List ℕ) (i n : ℕ) → n ≡ feeds_to s i → i ≡ length s → n ≡ feeds_of s
unfolding feeds_of
feeds-all s i n e h = e ∙ ap (feeds_to s) h
