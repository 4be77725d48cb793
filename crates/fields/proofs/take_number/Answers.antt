-- `fields::take_number` meets its contract: a word starts before it ends, and ends in the line.
use native.Mathlib.Omega.{arith}
use Rattle.text.proofs.Scans.{word_order, word_within}
use Rattle.fields.proofs.take_number.Goals as goal

pub number_in-requires : goal.number_in-requires
number_in-requires c = omega (arith, word_order c.args.s.now c.args.at, word_within c.args.s.now c.args.at, c.start.ensures, c.end.ensures)
