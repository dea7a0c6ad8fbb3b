-- `refine_words::lines::put_number_line` meets its contract: the line of one number. Assumes nothing.
use mathlib.Core.Path.{ap}
use mathlib.Core.List.{[], ◌∷◌}
use Prim.Native.Nat.{ℕ}
use native.Mathlib.Omega.{arith}
use Rattle.refine_words.specs.Text.{line}
use Rattle.refine_words.proofs.Texts.{put_as}
use Rattle.refine_words.proofs.lines.put_number_line.Goals as goal

pub returns : goal.returns
returns c =
    put_as (ap (λ (x : ℕ). line c.args.word.now (x ∷ [])) c.from.ensures) (omega arith) c.put_line.ensures
