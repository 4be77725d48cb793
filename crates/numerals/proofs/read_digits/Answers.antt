-- `numerals::read_digits` meets its contract: the sum is that of a number, and what it and the bytes that are left mean is what all of them mean.
use mathlib.Core.Path.{◌∙◌}
use native.Mathlib.Omega.{arith}
use Rattle.numerals.proofs.Reading.{reading_skip, reading_digit}
use Rattle.numerals.proofs.read_digits.Goals.{then-s-i-ne95+in_ok-d, else-s-i-ne95}
use Rattle.numerals.proofs.read_digits.Goals as goal

pub loop-i-preserved : goal.loop-i-preserved
loop-i-preserved c =
    let a = c.args in
    let l = c.loop-i in
    elim c.if-s-i-ne95.branch [
      | then-s-i-ne95+in_ok-d w ↦ reading_digit a.s.now a.from a.base l.sum l.i c.loop-i-test.true l.invariant w.in_ok-d.d w.digit-then-s-i-ne95.result c.if-s-i-ne95.sum w.if-s-i-ne95.true (omega arith) w.in_ok-d.ensures.ok_part w.digit-then-s-i-ne95.ensures (w.sum-is ∙ w.with_digit-sum.ensures)
      | else-s-i-ne95 w ↦ reading_skip a.s.now a.from a.base l.sum l.i c.loop-i-test.true l.invariant c.if-s-i-ne95.sum w.if-s-i-ne95.false w.sum-is
    ]
