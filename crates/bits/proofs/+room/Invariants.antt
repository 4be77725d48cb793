-- `bits::room` ends: the number of the last bit falls.
use Rattle.bits.proofs.+room.Given as goal

abbrev pub decreases-room : goal.decreases-room
decreases-room l = l.last
