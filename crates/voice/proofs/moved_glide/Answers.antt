-- `voice::moved_glide` meets its contract.
use mathlib.Core.Path.{sym}
use Rattle.voice.specs.Notes.{moved_glide}
use Rattle.voice.proofs.moved_glide.Goals.{else-is_moving-via-then-is_moving+else-arrives, else-is_moving-via-else-is_moving}
use Rattle.voice.proofs.moved_glide.Goals as goal

pub returns-then-arrives : goal.returns-then-arrives
unfolding moved_glide
returns-then-arrives c = simp (sym c.is_moving.ensures, c.if-is_moving.true, sym c.arrives.ensures, c.if-arrives.true) c.stopped.ensures

pub returns : goal.returns
unfolding moved_glide
returns c =
    elim c.else-is_moving.branch [
      | else-is_moving-via-then-is_moving+else-arrives w ↦ simp (sym c.is_moving.ensures, w.if-is_moving.true, sym w.arrives.ensures, w.if-arrives.false)
      | else-is_moving-via-else-is_moving w ↦ simp (sym c.is_moving.ensures, w.if-is_moving.false)
    ]
