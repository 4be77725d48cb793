-- `copied_ids::copy` meets its contract: each end by the tests and calls that led there.
use Rattle.std.proofs.Common.{◌≡◌, Some, None, Err, rules, arith}
use Rattle.std.proofs.lemmas.Grind.{common_steps}
use Rattle.ranges.specs.declared.Error.{Error}
use Rattle.copied_ids.proofs.CopyLaws.{copy_none, copy_cut, copy_short, copy_done}
use Rattle.copied_ids.proofs.copy.Goals as goal

pub returns-in_err-interval : goal.returns-in_err-interval
returns-in_err-interval c =
    let e : c.from_residual.result ≡ Err Error.NoState = grind (arith, common_steps) in
    let n : c.bounds.result ≡ None = search rules in
    rw e (copy_none _ _ _ c.bounds.ensures n)

pub returns-then-src-n : goal.returns-then-src-n
returns-then-src-n c =
    let s : c.bounds.result ≡ Some c.in_ok-interval.interval = search rules in
    copy_cut _ _ _ c.bounds.ensures _ _ s c.words_needed-n.ensures c.if-src-n.true

pub returns-then-dst-n : goal.returns-then-dst-n
returns-then-dst-n c =
    let s : c.bounds.result ≡ Some c.in_ok-interval.interval = search rules in
    copy_short _ _ _ c.bounds.ensures _ _ s c.words_needed-n.ensures c.if-dst-n.true

pub returns : goal.returns
returns c =
    let s : c.bounds.result ≡ Some c.in_ok-interval.interval = search rules in
    copy_done _ _ _ c.bounds.ensures _ _ s c.words_needed-n.ensures c.if-dst-n.false _ c.put.ensures.long c.put.ensures.begins
