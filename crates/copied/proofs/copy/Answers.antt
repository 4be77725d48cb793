-- `copied::copy` meets its contract: each end by the tests and calls that led there.
use Rattle.copied.proofs.DoneLaws.{copy_none, copy_limit, copy_short, copy_unfit, copy_done}
use Rattle.copied.proofs.copy.Goals as goal

pub returns-in_default : goal.returns-in_default
returns-in_default c = copy_none _ _ _ c.in_default.ensures

pub returns-then-limit : goal.returns-then-limit
returns-then-limit c = copy_limit _ _ _ _ c.limit.ensures c.if-limit.true

pub returns-then-dst-words : goal.returns-then-dst-words
returns-then-dst-words c = copy_short _ _ _ _ c.limit.ensures _ c.words.ensures c.if-dst-words.true

pub returns-in_default-new : goal.returns-in_default-new
returns-in_default-new c =
    let b = c in
    copy_unfit _ _ _ _ b.limit.ensures _ b.words.ensures _ b.in-Some.ensures b.if-dst-words.false _ _ c.in_default-new.ensures

pub returns : goal.returns
returns c =
    let d = c in
    let b = d in
    copy_done _ _ _ _ b.limit.ensures _ b.words.ensures _ b.in-Some.ensures b.if-dst-words.false _ d.in-Ok.ensures b.if-limit.false _ c.fill.ensures
