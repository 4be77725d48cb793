-- `table::askable` meets its contract.
use native.Mathlib.Omega.{arith}
use Rattle.ranges.specs.Align.{PowerOfTwo}
use Rattle.ranges.proofs.Powers.{proved, refuted}
use Rattle.table.specs.Contract.{Askable}
use Rattle.table.proofs.Asking.{askable_told}
use Rattle.table.proofs.askable.Goals.{then-size-eq0-via-then-size-eq0, then-size-eq0-via-else-size-eq0+then-not-is_power_of_two}
use Rattle.table.proofs.askable.Goals as goal

pub returns-then-size-eq0 : goal.returns-then-size-eq0
unfolding Askable
returns-then-size-eq0 c =
    elim c.then-size-eq0.branch [
      | then-size-eq0-via-then-size-eq0 w ↦ λ s. omega (arith, s.0)
      | then-size-eq0-via-else-size-eq0+then-not-is_power_of_two w ↦ λ s. refuted w.is_power_of_two.result (PowerOfTwo c.args.align) w.if-not-is_power_of_two.true w.is_power_of_two.ensures s.1
    ]

pub returns : goal.returns
returns c =
    let a = c.args in
    rw c.ok_or.ensures.value (askable_told a.mem.now a.size a.align (omega arith, proved c.is_power_of_two.result (PowerOfTwo a.align) c.if-not-is_power_of_two.false c.is_power_of_two.ensures) c.header.result c.header.ensures)
