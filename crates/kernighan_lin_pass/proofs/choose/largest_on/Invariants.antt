-- What the loop of `kernighan_lin_pass::choose::largest_on` keeps: the place and the gain held are those of the best vertex passed.
use Rattle.kernighan_lin_pass.proofs.Choices.{SoFar}
use Rattle.kernighan_lin_pass.proofs.choose.largest_on.Given as goal

abbrev pub invariant-loop-v : goal.invariant-loop-v
invariant-loop-v l = SoFar l.first l.side l.labels l.gains l.locks l.v l.at l.most
