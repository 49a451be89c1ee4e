-- `Voices::active_count` meets its contract.
use mathlib.Core.Path.{◌≡◌, ap}
use lib.ListN.{length}
use Rattle.config.specs.Sizes.{most_voices}
use Rattle.voice.proofs.Counted.{take_held}
use Rattle.voice.specs.Voices.{count_on, active_count}
use borrow.Author.Rules.{rules}
use Rattle.voice.proofs.Voices.active_count.Goals as goal

pub returns : goal.returns
unfolding active_count
returns c =
    let a = c.args in
    let long : length a.self.active ≡ most_voices = search rules in
    rw c.count_on.ensures (rw c.min.ensures (ap count_on (take_held a.self.active a.n long)))
