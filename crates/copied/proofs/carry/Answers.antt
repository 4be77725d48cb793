-- `copied::carry` meets its contract: what stands at a is passed by or asked for.
use Rattle.std.proofs.Common.{refl}
use Rattle.copied.proofs.CarryLaws.{nowhere, turned, passed, placed}
use Rattle.copied.proofs.carry.Goals as goal
use Rattle.copied.proofs.carry.Goals.{then-stands-ne0, else-stands-ne0}

pub returns-in_default : goal.returns-in_default
returns-in_default c = nowhere _ _ _ _ _ c.in_default.ensures

pub returns-then-stands-a : goal.returns-then-stands-a
returns-then-stands-a c = turned _ _ _ _ _ c.in-Ok.ensures c.if-stands-a.true

pub returns : goal.returns
returns c =
    let b = c in
    elim c.if-stands-ne0.branch [
      | then-stands-ne0 w ↦ rw w.dst-is (placed _ _ _ _ _ b.in-Ok.ensures _ refl w.if-stands-ne0.true w.place.ensures)
      | else-stands-ne0 w ↦ rw w.dst-is (passed _ _ _ _ _ b.in-Ok.ensures refl w.if-stands-ne0.false)
    ]
