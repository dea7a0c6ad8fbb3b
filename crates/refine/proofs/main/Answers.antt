-- `refine::main` is safe: what it reads and what it writes are within its arrays.
use Rattle.refine_text.proofs.Handed.{printed-within}
use Rattle.refine.proofs.main.Goals as goal

pub slice_bounds-output-end : goal.slice_bounds-output-end
slice_bounds-output-end c = printed-within c.refine_text-length.ensures
