-- `bits::find` ends: the number of the last bit falls.
use Rattle.bits.proofs.+find.Given as goal

abbrev pub decreases-find : goal.decreases-find
decreases-find l = l.last
