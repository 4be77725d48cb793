-- `places::scan_down` meets its contract.
use Rattle.std.proofs.Common.{◌≤◌, length}
use Rattle.places.proofs.Searches.{NoneFrom}
use Rattle.places.proofs.scan_down.Given as goal

abbrev pub invariant-loop-i : goal.invariant-loop-i
invariant-loop-i l = (l.i ≤ length l.starts) × NoneFrom l.starts l.tags l.last l.more l.mask l.i

abbrev pub decreases-loop-i : goal.decreases-loop-i
decreases-loop-i l = l.i
