use mathlib.Core.Path.{◌≡◌, refl}
use mathlib.Core.List.{List}
use Prim.Native.Nat.{ℕ, ◌+◌, ◌*◌, ◌%◌, ◌^◌}
use native.Mathlib.Numerals.{add-one}
use native.Mathlib.Omega.{arith}
use lib.ListN.{get_or}
use borrow.Author.Rules.{rules}
use Rattle.hex_words.specs.Hex.{hex_at, digit_of}
use Rattle.hex_words.proofs.hex.Goals as goal

hex-next : (s : List ℕ) (at i : ℕ) → hex_at s at (i + 1) ≡ hex_at s at i % 2 ^ 60 * 16 + digit_of (get_or s (at + i) 0)
unfolding hex_at
hex-next s at i = rw add-one

hex-none : (s : List ℕ) (at : ℕ) → 0 ≡ hex_at s at 0
unfolding hex_at
hex-none s at = refl

pub loop-i-init : goal.loop-i-init
loop-i-init c = (search rules, hex-none _ _)

pub loop-i-preserved : goal.loop-i-preserved
loop-i-preserved c =
    let l = c.loop-i in
    let a = c.args in
    let e : c.byte.result ≡ get_or a.s.now (a.at + l.i) 0 = c.byte.ensures in
    let d : c.digit.result ≡ digit_of c.byte.result = c.digit.ensures.0 in
    (omega arith, cc (hex-next a.s.now a.at l.i, l.invariant.1))

pub returns : goal.returns
returns c =
    let e : c.loop-i.i ≡ c.args.n = omega arith in
    cc
