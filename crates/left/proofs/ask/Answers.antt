-- `left::ask` meets its contract: each end by the calls that led there, for every pool that the block holds.
use Rattle.std.proofs.lemmas.Result.{err_from_is_err_and}
use Rattle.std.proofs.Common.{arith}
use Rattle.left.proofs.AskLaws.{ask_starts, ask_nowhere, ask_refused, ask_on, ask_known}
use Rattle.left.proofs.ask.Goals as goal

pub loop-stands-init : goal.loop-stands-init
loop-stands-init c = ask_starts _ _ c.base-a.ensures

pub returns-in_default : goal.returns-in_default
returns-in_default c = ask_nowhere _ _ _ _ c.loop-stands.invariant _ c.in_default.ensures

pub returns-in_err-left : goal.returns-in_err-left
returns-in_err-left c =
    let b = c in
    let p = err_from_is_err_and c.from_residual.result c.from_residual.ensures.1 in
    rw (p.1, p.2) (ask_refused _ _ _ _ b.loop-stands.invariant _ b.in-Ok.ensures _ c.in_err-left.ensures)

pub returns-then-last-stands : goal.returns-then-last-stands
returns-then-last-stands c =
    let b = c in
    ask_known _ _ _ _ b.loop-stands.invariant _ b.in-Ok.ensures _ c.in_ok-left.ensures _ b.end-last.ensures (omega arith)

pub loop-stands-preserved : goal.loop-stands-preserved
loop-stands-preserved c =
    let b = c in
    ask_on _ _ _ _ b.loop-stands.invariant _ b.in-Ok.ensures _ c.in_ok-left.ensures _ b.end-last.ensures (omega arith)
