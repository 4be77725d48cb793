-- `picture::paint` meets its contract: cell by cell (`Painting`).
use Rattle.picture.proofs.Painting.{Painting}
use Rattle.picture.proofs.paint.Given as goal

abbrev pub invariant-loop-i : goal.invariant-loop-i
invariant-loop-i l = Painting l.initial.bar l.base l.last l.start l.end l.granted l.bar l.off l.i
