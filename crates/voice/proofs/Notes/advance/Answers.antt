-- `Notes::advance` meets its contract. Where no glide moves, nothing does.
use mathlib.Core.Path.{◌≡◌, sym, ◌∙◌}
use lib.ListN.{length}
use Rattle.list.proofs.Elements.{length-mapped}
use Rattle.config.specs.Sizes.{most_voices}
use Rattle.voice.proofs.Glides.{advanced-still}
use Rattle.voice.specs.Notes.{advanced}
use borrow.Author.Rules.{rules}
use Rattle.voice.proofs.Notes.advance.Goals as goal

pub returns-then-not-any_moving : goal.returns-then-not-any_moving
returns-then-not-any_moving c =
    let a = c.args in
    let long : length a.self.value ≡ most_voices = search (rules, length-mapped) in
    let as_long : length a.self.glide ≡ most_voices = search (rules, length-mapped) in
    sym (advanced-still a.self a.frames (long ∙ sym as_long) (sym c.any_moving.ensures ∙ c.if-not-any_moving.true))

pub returns : goal.returns
unfolding advanced
returns c = rw (c.moved_glides.ensures, c.moved_values.ensures, c.nearest_u64_to_f32-many.ensures)
