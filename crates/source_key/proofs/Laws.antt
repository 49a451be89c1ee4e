-- Laws that proofs cite in place of the definitions' text. Assumes nothing.
use mathlib.Core.Path.{◌≡◌}
use mathlib.Core.List.{List}
use Prim.Native.Nat.{ℕ, ◌+◌, ◌/◌, ◌%◌, ◌≤◌, ◌<◌}
use native.Mathlib.Numerals.{add-one}
use lib.ListN.{length, get_or, drop, drop_of_length-le}
use lib.Seq.{drop-cons}
use borrow.Author.Tests.{lt-ltb, le-ltb}
use Rattle.source_key.specs.declared.Text.{Text}
use Rattle.source_key.specs.Text.{put_byte, put_all, decimal}

-- ---- what is left of a word from i on

pub put-from : (t : Text) (w : List ℕ) (i : ℕ) → i < length w → put_all t (drop i w) ≡ put_all (put_byte t (get_or w i 0)) (drop (i + 1) w)
unfolding put_all
put-from t w i h = rw (add-one, drop-cons w i 0 h)

pub put-past : (t : Text) (w : List ℕ) (i : ℕ) → length w ≤ i → put_all t (drop i w) ≡ t
unfolding put_all
put-past t w i h = rw (drop_of_length-le w h)

-- ---- one, two and three digits

one-digit : (t : Text) (n : ℕ) → n < 10 → put_all t (decimal n) ≡ put_byte t (48 + n)
unfolding put_all decimal
one-digit t n h = rw (lt-ltb n 10 h)

two_digits : (t : Text) (n : ℕ) → 10 ≤ n → n < 100 → put_all t (decimal n) ≡ put_byte (put_byte t (48 + n / 10)) (48 + n % 10)
unfolding put_all decimal
two_digits t n l h = rw (le-ltb n 10 l, lt-ltb n 100 h)

three-digits : (t : Text) (n : ℕ) → 10 ≤ n → 100 ≤ n → put_all t (decimal n) ≡ put_byte (put_byte (put_byte t (48 + n / 100)) (48 + n / 10 % 10)) (48 + n % 10)
unfolding put_all decimal
three-digits t n l h = rw (le-ltb n 10 l, le-ltb n 100 h)

-- as code writes them, digit by digit
pub wrote_one : (t r : Text) (n d : ℕ) → n < 10 → d ≡ 48 + n → r ≡ put_byte t d → r ≡ put_all t (decimal n)
wrote_one t r n d h e q = cc (one-digit t n h)

pub wrote-two : (t u r : Text) (n d e : ℕ) → 10 ≤ n → n < 100 → d ≡ 48 + n / 10 → u ≡ put_byte t d → e ≡ 48 + n % 10 → r ≡ put_byte u e → r ≡ put_all t (decimal n)
wrote-two t u r n d e l h ed eu ee er = cc (two_digits t n l h)

pub wrote-three : (t u v r : Text) (n d e f : ℕ) → 10 ≤ n → 100 ≤ n → d ≡ 48 + n / 100 → u ≡ put_byte t d → e ≡ 48 + n / 10 % 10 → v ≡ put_byte u e → f ≡ 48 + n % 10 → r ≡ put_byte v f
    → r ≡ put_all t (decimal n)
wrote-three t u v r n d e f l h ed eu ee ev ef er = cc (three-digits t n l h)
