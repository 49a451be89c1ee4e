-- `voice::legato_time` meets its contract.
use lib.Ieee.{of_bits}
use Rattle.voice.specs.Notes.{legato_time}
use Rattle.voice.proofs.legato_time.Goals.{else-legato-via-then-legato+then-glide+else-seconds, else-legato-via-then-legato+else-glide, else-legato-via-else-legato}
use Rattle.voice.proofs.legato_time.Goals as goal

pub returns-then-seconds : goal.returns-then-seconds
unfolding legato_time of_bits
returns-then-seconds c = simp (c.if-legato.true, c.if-glide.true, c.if-seconds.true)

pub returns-else-legato : goal.returns-else-legato
unfolding legato_time of_bits
returns-else-legato c =
    elim c.else-legato.branch [
      | else-legato-via-then-legato+then-glide+else-seconds w ↦ simp (w.if-legato.true, w.if-glide.true, w.if-seconds.false)
      | else-legato-via-then-legato+else-glide w ↦ simp (w.if-legato.true, w.if-glide.false)
      | else-legato-via-else-legato w ↦ simp (w.if-legato.false)
    ]
