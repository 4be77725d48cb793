-- `table::lowest` meets its contract.
use native.Mathlib.Omega.{arith}
use Rattle.std.proofs.lemmas.Result.{err_from_is_err_and}
use Rattle.ranges.proofs.Powers.{power_pos}
use Rattle.table.proofs.Asking.{asked, low_refused, low_told}
use Rattle.table.proofs.lowest.Goals as goal

pub returns-in_err-nb : goal.returns-in_err-nb
returns-in_err-nb c =
    let a = c.args in
    let p = err_from_is_err_and c.from_residual.result c.from_residual.ensures.1 in
    rw (p.1, p.2) (low_refused a.mem.now a.size a.align _ c.in_err-nb.ensures)

pub overflow_sub-size : goal.overflow_sub-size
overflow_sub-size c = let a = c.args in let k = asked a.mem.now a.size a.align _ c.in_ok-nb.ensures in omega (arith, k.0.0, power_pos a.align k.0.1)

pub overflow_sub-align : goal.overflow_sub-align
overflow_sub-align c = let a = c.args in let k = asked a.mem.now a.size a.align _ c.in_ok-nb.ensures in omega (arith, k.0.0, power_pos a.align k.0.1)

pub search_up-requires : goal.search_up-requires
search_up-requires c = let a = c.args in let k = asked a.mem.now a.size a.align _ c.in_ok-nb.ensures in (k.1, k.2)

pub returns : goal.returns
returns c =
    let a = c.args in
    rw c.ok_or.ensures.value (low_told a.mem.now a.size a.align (asked a.mem.now a.size a.align _ c.in_ok-nb.ensures).0 c.search_up.result c.search_up.ensures)
