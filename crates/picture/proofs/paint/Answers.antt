-- `picture::paint` meets its contract: cell by cell (`Painting`).
use Prim.Native.Nat.{ℕ, suc, ◌+◌, ◌-◌, ◌/◌, ◌%◌, ◌≤◌}
use mathlib.Core.Path.{◌≡◌}
use native.Mathlib.Omega.{arith}
use lib.ListN.{length}
use Rattle.picture.specs.Bar.{before, size_of}
use Rattle.picture.proofs.Cells.{before_suc, before_most}
use Rattle.picture.proofs.Painting.{painting_start, painting_step, painting_end}
use Rattle.picture.proofs.paint.Goals as goal

-- a cell ends in the pool
reach : (total cells i off : ℕ) → off ≡ before total cells i → suc i ≤ cells → off + size_of (total / cells) (total % cells) i ≤ total
reach total cells i off e h = omega (arith, before_suc total cells i, before_most total cells (suc i) h)

pub loop-i-init : goal.loop-i-init
loop-i-init c = painting_start _ _ _ _ _ _

pub touch-requires-clause-size_bound : goal.touch-requires-clause-size_bound
touch-requires-clause-size_bound c =
    let a = c.args in
    let f = reach (a.last - a.base + 1) (length a.bar.now) c.loop-i.i c.loop-i.off c.loop-i.invariant.count (omega (arith, c.loop-i-test.true, c.loop-i.invariant.long)) in
    omega (arith, f, c.cell_size-size.ensures, c.ranges)

pub overflow_add-off : goal.overflow_add-off
overflow_add-off c = let a = c.args in let f = reach (a.last - a.base + 1) (length a.bar.now) c.loop-i.i c.loop-i.off c.loop-i.invariant.count (omega (arith, c.loop-i-test.true, c.loop-i.invariant.long)) in record { fits = omega (arith, f, c.cell_size-size.ensures) }

pub loop-i-preserved : goal.loop-i-preserved
loop-i-preserved c = painting_step _ _ _ _ _ _ _ _ _ _ _ (omega (arith, c.loop-i.invariant.long)) c.cell_size-size.ensures c.touch.ensures c.loop-i.invariant

pub returns : goal.returns
returns c = painting_end _ _ _ _ _ _ _ _ _ (omega (arith, c.if-last-base.false), omega (arith, c.if-last-base-2.false)) (omega (arith, c.loop-i-test.false, c.loop-i.invariant.long)) c.loop-i.invariant
