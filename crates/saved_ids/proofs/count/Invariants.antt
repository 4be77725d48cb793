-- `saved_ids::count` meets its contract. The invariant: k counts those passed that are not granted.
use Rattle.saved_ids.proofs.WriteLaws.{Counted}
use Rattle.saved_ids.proofs.count.Given as goal

abbrev pub invariant-loop-i : goal.invariant-loop-i
invariant-loop-i l = Counted l.mem l.low l.n l.i l.k
