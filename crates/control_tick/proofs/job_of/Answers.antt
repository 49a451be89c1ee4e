-- `control_tick::job_of` meets its contract.
use borrow.Author.Rules.{rules}
use mathlib.Core.Path.{◌≡◌}
use native.Mathlib.Omega.{arith}
use lib.ListN.{length}
use Rattle.list.proofs.Elements.{get_or-inside, length-mapped}
use Rattle.state_filled.specs.Filled.{no_plan}
use Rattle.plan_sum.proofs.Simple.{none_of}
use Rattle.control_tick.proofs.Turned.{job-made}
use Rattle.control_tick.proofs.job_of.Goals as goal

pub returns : goal.returns
returns c =
    let a = c.args in
    let fits = c.requires.0 in
    let long : length a.plan ≡ 64 = search (rules, length-mapped) in (
      job-made a.plan a.d a.routes a.scene a.signals a.chunks a.plans c.some_simple-simple.result (get_or-inside a.plan a.d _ no_plan (omega (arith, c.requires))),
      record { stride = fits.stride; chunks = fits.chunks; plans = fits.plans; simple = λ e. none_of a.routes a.simples _ _ c.requires.2 (c.some_simple-simple.ensures e) },
      c.requires.1,
    )
