-- `compile_candidates::look` meets its contract: each return has passed the tests before it.
use mathlib.Core.Path.{◌≡◌, sym, ◌∙◌}
use mathlib.Core.Bool.{true, false}
use Prim.Native.Nat.{◌≤◌, ◌<◌}
use native.Mathlib.Omega.{arith}
use borrow.Author.Tests.{lt-ltb, le-ltb}
use Rattle.state.specs.Registry.{known_source, dest_count, dest_place}
use Rattle.model.specs.Wiring.{aux_known}
use Rattle.compile_candidates.proofs.Bytes.{known-byte}
use Rattle.compile_candidates.proofs.look.Goals as goal

pub returns-then-not-known : goal.returns-then-not-known
returns-then-not-known c =
    let a = c.args in
    let unknown : known_source a.sources a.i ≡ false = sym c.known_source-known.ensures ∙ c.if-not-known.true in
    rw unknown

pub returns-then-not-known_aux : goal.returns-then-not-known_aux
returns-then-not-known_aux c =
    rw (sym c.known_source-known.ensures ∙ c.if-not-known.false, sym c.aux_known-known_aux.ensures ∙ c.if-not-known_aux.true)

pub returns-then-dest_count-d : goal.returns-then-dest_count-d
returns-then-dest_count-d c =
    let a = c.args in
    let h : dest_count a.dests ≤ dest_place a.dests a.target = omega (arith, c.dest_place-d.ensures, c.dest_count.ensures) in
    rw (
      sym c.known_source-known.ensures ∙ c.if-not-known.false,
      sym c.aux_known-known_aux.ensures ∙ c.if-not-known_aux.false,
      le-ltb _ _ h,
    )

pub overflow_cast-source : goal.overflow_cast-source
overflow_cast-source c =
    let a = c.args in
    omega (arith, known-byte a.sources a.i (sym c.known_source-known.ensures ∙ c.if-not-known.false))

pub returns : goal.returns
returns c =
    let a = c.args in
    let d = c.dest_place-d.ensures in
    let known : aux_known a.sources a.aux ≡ true = sym c.aux_known-known_aux.ensures ∙ c.if-not-known_aux.false in
    let h : dest_place a.dests a.target < dest_count a.dests = omega (arith, d, c.dest_count.ensures) in
    rw (sym c.known_source-known.ensures ∙ c.if-not-known.false, known, lt-ltb _ _ h, c.aux_of.ensures known, d)
