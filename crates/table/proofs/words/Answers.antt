-- `table::words` meets its contract.
use native.Mathlib.Omega.{arith}
use Rattle.table.proofs.Making.{words_zero, words_many, words_for_lem, ceil}
use Rattle.table.proofs.words.Goals.{then-limit-eq0-via-then-limit-eq0, then-limit-eq0-via-else-limit-eq0+then-limit-gt4096}
use Rattle.table.proofs.words.Goals as goal

pub returns-then-limit-eq0 : goal.returns-then-limit-eq0
returns-then-limit-eq0 c =
    elim c.then-limit-eq0.branch [
      | then-limit-eq0-via-then-limit-eq0 w ↦ words_zero c.args.limit w.if-limit-eq0.true
      | then-limit-eq0-via-else-limit-eq0+then-limit-gt4096 w ↦ words_many c.args.limit w.if-limit-gt4096.true
    ]

pub returns : goal.returns
returns c = rw (ceil c.args.limit c.div_ceil.result c.div_ceil.ensures) (words_for_lem c.args.limit (omega arith) (omega arith))
