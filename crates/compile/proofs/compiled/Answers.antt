-- `compile::compiled` meets its contract: the steps, put together.
use mathlib.Core.Path.{◌≡◌, refl, ap, ◌∙◌}
use mathlib.Core.List.{List, map}
use lib.ListN.{length}
use lib.Ieee.{of_bits}
use Rattle.config.specs.Sizes.{slots}
use Rattle.state.specs.declared.Wiring.{Wiring}
use Rattle.model.specs.Plans.{compiled}
use Rattle.compile.proofs.Assembled.{Steps, candidates-are, control-are, order-is, plans-are, routes-are, skips-are}
use borrow.Author.Rules.{rules}
use Rattle.compile.proofs.compiled.Goals as goal

pub returns : goal.returns
unfolding compiled of_bits
returns c =
    let a = c.args in
    let w : Wiring = record { matrix = a.matrix; sources = a.sources; dests = a.dests; config = a.config } in
    let long : length a.matrix.slot ≡ slots = search rules in
    let cs = c.candidates-candidates.result.items in
    let us = c.used_dests-used.result.items in
    let rs = c.readers-readers.result.items in
    let o = c.plan_order-planned in
    let steps : Steps w c.verdicts-verdict.result cs us rs o.result.control c.numbers-listed.result.items c.plans-plans.result.items c.routes-routes.result.items c.skips-left_out.result.items =
    record {
      judges = c.verdicts-verdict.ensures;
      takes = c.candidates-candidates.ensures;
      uses = c.used_dests-used.ensures;
      reads = rw c.deref.ensures.0 at c.readers-readers.ensures;
      rates = o.ensures.control;
      orders = c.numbers-listed.ensures ∙ (rw c.deref-2.ensures.0 at o.ensures.order);
      plans = rw c.deref-3.ensures.0 at c.plans-plans.ensures;
      routes = rw c.deref-4.ensures.0 at c.routes-routes.ensures;
      skips = c.skips-left_out.ensures;
    } in
    rw (
      c.source_count.ensures,
      c.dest_count.ensures,
      c.len.ensures.value,
      order-is w steps,
      control-are w steps,
      c.len-2.ensures.value,
      candidates-are w steps,
      c.padded.ensures,
      c.no_plan.ensures,
      plans-are w steps,
      c.padded-2.ensures,
      c.no_route.ensures,
      routes-are w steps long,
      c.gains.ensures,
      c.names_table.ensures,
      c.len-3.ensures.value,
      c.padded-3.ensures,
      c.no_skip.ensures,
      skips-are w steps,
    ) refl
