-- `engine_reads::latest_all` meets its contract.
use mathlib.Core.Path.{sym, ap, ◌∙◌}
use Prim.Native.Nat.{ℕ, ◌*◌}
use borrow.Author.Tests.{ltb-false}
use lib.Dec.{ltb}
use lib.ListN.{length}
use Rattle.feed.specs.Numbers.{up_from}
use Rattle.list.specs.Part.{on_part}
use Rattle.model.specs.Outputs.{Written, latest_rows}
use Rattle.engine_reads.proofs.Latests.{all_short, all-no-room, all-written}
use Rattle.engine_reads.proofs.latest_all.Goals as goal

pub returns-then-short : goal.returns-then-short
returns-then-short c =
    let a = c.args in
    let m = all_short a.state a.values.now a.audio.now a.voices a.out.now (sym c.short.ensures ∙ c.if-short.true) in
    (ap (λ (x : Written). x.code) m, ap (λ (x : Written). x.out) m)

pub returns-then-out_short : goal.returns-then-out_short
returns-then-out_short c =
    let a = c.args in
    let room = ap (λ (k : ℕ). ltb (length a.out.now) (a.voices * k)) c.dest_count-dests.ensures in
    let m = all-no-room a.state a.values.now a.audio.now a.voices a.out.now (sym c.short.ensures ∙ c.if-short.false) (sym (c.out_short.ensures ∙ room) ∙ c.if-out_short.true) in
    (ap (λ (x : Written). x.code) m, ap (λ (x : Written). x.out) m)

pub write_rows-requires : goal.write_rows-requires
write_rows-requires c = ltb-false _ _ (sym c.out_short.ensures ∙ c.if-out_short.false)

pub returns : goal.returns
returns c =
    let a = c.args in
    let k = c.dest_count-dests.ensures in
    let room = ap (λ (k : ℕ). ltb (length a.out.now) (a.voices * k)) k in
    let m = all-written a.state a.values.now a.audio.now a.voices a.out.now (sym c.short.ensures ∙ c.if-short.false) (sym (c.out_short.ensures ∙ room) ∙ c.if-out_short.false) in
    let rows = ap (λ (k : ℕ). on_part a.out.now 0 (a.voices * k) (latest_rows a.state a.values.now a.audio.now a.voices (up_from 0 k))) k in
    (ap (λ (x : Written). x.code) m, c.write_rows.ensures ∙ rows ∙ ap (λ (x : Written). x.out) m)
