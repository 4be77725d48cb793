-- `places::Row::skip_down` meets its contract.
use Rattle.places.specs.Places.{Narrow}
use Rattle.places.proofs.Row.skip_down.Given as goal

abbrev pub invariant-loop-i : goal.invariant-loop-i
invariant-loop-i l = Narrow l.self.starts.now l.self.tags.now l.more l.i l.from
