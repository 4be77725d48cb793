-- `copied::measure` meets its contract: a header with no range, or of a pool turned round, is no pool's.
use Rattle.std.proofs.Common.{arith}
use Rattle.copied.proofs.CarryLaws.{row_some}
use Rattle.copied.proofs.measure.Goals as goal
use Rattle.copied.proofs.measure.Goals.{then-count-eq0-via-then-count-eq0, then-count-eq0-via-else-count-eq0+then-end-base}

pub returns-then-count-eq0 : goal.returns-then-count-eq0
returns-then-count-eq0 c = λ p h.
    elim c.then-count-eq0.branch [
      | then-count-eq0-via-then-count-eq0 w ↦ omega (arith, c.count-count.ensures p h, w.if-count-eq0.true, row_some p h.valid)
      | then-count-eq0-via-else-count-eq0+then-end-base w ↦ omega (arith, c.end-end.ensures p h, c.base-base.ensures p h, h.valid.sound.some, w.if-end-base.true)
    ]
