-- `refine_words::lines::put_opening` meets its contract: four lines, one after the other. Assumes nothing.
use mathlib.Core.Path.{refl}
use native.Mathlib.Omega.{arith}
use Rattle.refine_words.specs.Line.{end_line, passes_line}
use Rattle.refine_words.proofs.Texts.{put_as, put-opened}
use Rattle.refine_words.proofs.lines.put_opening.Goals as goal

pub returns : goal.returns
unfolding end_line passes_line
returns c =
    put-opened _ _ _ _ _ _ c.requires (put_as refl (omega arith) c.put_number_line-after_end.ensures) c.put_cut-after_cut.ensures
    c.put_loads-after_loads.ensures (put_as refl (omega arith) c.put_number_line.ensures)
