-- `places::Row::skip_up` meets its contract.
use Rattle.places.specs.Places.{Narrow}
use Rattle.places.proofs.Row.skip_up.Given as goal

abbrev pub invariant-loop-i : goal.invariant-loop-i
invariant-loop-i l = Narrow l.self.starts.now l.self.tags.now l.more l.from l.i
