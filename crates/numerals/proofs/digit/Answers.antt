-- `numerals::digit` meets its contract: what `to_digit` answers is the digit.
use native.Mathlib.Omega.{arith}
use Rattle.numerals.proofs.Reading.{digit_found}
use Rattle.numerals.proofs.digit.Goals as goal

pub returns : goal.returns
returns c = digit_found c.args.c c.args.base c.to_digit.result (omega arith) c.to_digit.ensures.value
