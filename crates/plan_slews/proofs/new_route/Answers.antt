-- `plan_slews::new_route` meets its contract.
use Rattle.plan_slews.proofs.News.{new-length, new-before, is-new}
use Rattle.plan_slews.proofs.new_route.Goals as goal

pub returns : goal.returns
returns c = let a = c.args in
    let src = c.source_row-source in
    let aux = c.aux_row-aux in
    let one = c.put_row in
    let two = c.put_row-2 in (
      new-length a.new.now one.new.values two.new.values a.j src.result aux.result c.requires.1 c.requires.2 one.ensures two.ensures,
      new-before a.new.now one.new.values two.new.values a.j src.result aux.result c.requires.1 c.requires.2 one.ensures two.ensures,
      λ t x f s v q k.
          is-new a.new.now one.new.values two.new.values a.j src.result aux.result c.requires.1 c.requires.2 one.ensures two.ensures t x f s a.route
          v.reads.stride c.requires.0.sized.stride (src.ensures t x f s a.j v q k) (aux.ensures t x f s a.j v q k),
    )
