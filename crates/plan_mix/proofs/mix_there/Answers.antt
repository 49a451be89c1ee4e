-- `plan_mix::mix_there` meets its contract.
use mathlib.Core.Path.{sym, ap, ◌∙◌}
use Prim.Native.Nat.{◌+◌}
use Rattle.model.specs.Counts.{at}
use Rattle.plan_sum.specs.declared.Ground.{Ground}
use Rattle.plan_sum.specs.Ground.{view_by}
use Rattle.plan_sum.proofs.Found.{route-is, plain-is, stands, viewed, amount-shown, output-shown}
use Rattle.plan_sum.proofs.Steps.{other-added}
use Rattle.plan_mix.proofs.Routes.{both-off, other-rests, viewed-here, new-there}
use Rattle.plan_mix.proofs.mix_there.Goals as goal

pub mix_moving-requires : goal.mix_moving-requires
mix_moving-requires c = let p = c.requires in let v = c.view_for-view.ensures in (v.1, p.6, p.4, p.5, p.1, p.2, λ h. rw v.0 (p.3 h))

pub returns-then-moves_in : goal.returns-then-moves_in
returns-then-moves_in c = let m = c.mix_moving.ensures in (
  m.0,
  m.1,
  m.2,
  λ t f s x w k o ch re h q e.
      let a = c.args in
      let v = c.view_for-view.ensures.0 ∙ ap (λ (g : Ground). view_by g a.j a.route a.source a.aux) ch.ground in
      let is = route-is a.j k.job h ch.route in
      let voice = k.job.mix.voice ∙ sym (ap (λ (g : Ground). g.voice) ch.ground) in
      let pl = plain-is a.route k.job (c.is_plain-plain.ensures t w ch.ground k.job.scene q) in
      let id = c.idle-idle.ensures t (amount-shown w a.j a.route k.job.scene v) (output-shown w a.j a.route k.job.scene v) in
      let off = both-off c.is_plain-plain.result c.idle-idle.result c.moves_in.ensures c.if-moves_in.true in
      let y = stands a.j a.source a.aux k v ch.past in (
        λ l u. other-added t f s y.by x a.j l (at a.sums.now l) voice is pl off.0 id off.1 y.value ((m.3 t f y.by re (viewed a.j k o v q e y)).0 l u),
        new-there t x f s a.j (w.plan.first + a.j) a.route c.mix_moving.new.new ch.past (λ g. (m.3 t f s re (viewed-here a.j k o v q e g)).1 x voice is (sym pl ∙ off.0) (sym id ∙ off.1)),
      ),
)

pub returns : goal.returns
returns c = let m = c.new_slow.ensures in (
  m.0,
  c.requires.5,
  m.1,
  λ t f s x w k o ch re h q e.
      let a = c.args in
      let v = c.view_for-view.ensures.0 ∙ ap (λ (g : Ground). view_by g a.j a.route a.source a.aux) ch.ground in
      let is = route-is a.j k.job h ch.route in
      let voice = k.job.mix.voice ∙ sym (ap (λ (g : Ground). g.voice) ch.ground) in
      let pl = plain-is a.route k.job (c.is_plain-plain.ensures t w ch.ground k.job.scene q) in
      let id = c.idle-idle.ensures t (amount-shown w a.j a.route k.job.scene v) (output-shown w a.j a.route k.job.scene v) in (
        λ l u. other-rests t f s x a.j l (at a.sums.now l) c.is_plain-plain.result c.idle-idle.result is pl id c.moves_in.ensures c.if-moves_in.false,
        new-there t x f s a.j (w.plan.first + a.j) a.route c.new_slow.new.new ch.past (λ g. m.2 t f s x re (viewed-here a.j k o v q e g) voice is pl id),
      ),
)
