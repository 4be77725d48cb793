-- `places::scan_up` meets its contract.
use Rattle.std.proofs.Common.{◌-◌, ◌≤◌, length}
use Rattle.places.proofs.Searches.{NoneBelow}
use Rattle.places.proofs.scan_up.Given as goal

abbrev pub invariant-loop-i : goal.invariant-loop-i
invariant-loop-i l = (l.i ≤ length l.starts) × NoneBelow l.starts l.tags l.last l.more l.mask l.i

abbrev pub decreases-loop-i : goal.decreases-loop-i
decreases-loop-i l = length l.starts - l.i
