-- `numerals::read_digits` meets its contract: the sum is that of a number, and what it and the bytes that are left mean is what all of them mean.
use Rattle.numerals.proofs.Reading.{Reading}
use Rattle.numerals.proofs.read_digits.Given as goal

abbrev pub invariant-loop-i : goal.invariant-loop-i
invariant-loop-i l = Reading l.s l.from l.base l.sum l.i
