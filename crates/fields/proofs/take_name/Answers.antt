-- `fields::take_name` meets its contract: a word starts before it ends.
use native.Mathlib.Omega.{arith}
use Rattle.text.proofs.Scans.{word_order}
use Rattle.fields.proofs.take_name.Goals as goal

pub overflow_sub-len : goal.overflow_sub-len
overflow_sub-len c = omega (arith, word_order c.args.s.now c.args.at, c.start-a.ensures, c.end-e.ensures)
