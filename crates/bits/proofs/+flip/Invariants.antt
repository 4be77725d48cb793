-- `bits::flip` ends: the number of the last bit falls.
use Rattle.bits.proofs.+flip.Given as goal

abbrev pub decreases-flip : goal.decreases-flip
decreases-flip l = l.last
