-- `trace_output_show::digits` meets its contract. Assumes nothing.
use Rattle.trace_output_show.specs.Glyphs.{glyphs_of}
use Rattle.trace_output_show.proofs.digits.Goals as goal

pub returns : goal.returns
unfolding glyphs_of
returns c =
    rw (c.glyph-8.ensures, c.glyph-7.ensures, c.glyph-6.ensures, c.glyph-5.ensures, c.glyph-4.ensures, c.glyph-3.ensures, c.glyph-2.ensures, c.glyph.ensures)
