-- `places::scan_up` meets its contract.
use Rattle.std.proofs.Common.{◌+◌, sym, arith}
use Rattle.places.proofs.Searches.{none_below_start, none_below_next, up_found, up_none, up_uneven}
use Rattle.places.proofs.Skips.{below_more}
use Rattle.places.proofs.scan_up.Goals as goal

pub returns-then-tags-n : goal.returns-then-tags-n
returns-then-tags-n c = let a = c.args in up_uneven a.starts.now a.tags.now a.last a.more a.mask (λ e. c.if-tags-n.true (sym e))

pub loop-i-init : goal.loop-i-init
loop-i-init c = let a = c.args in let s = c.skip_up-i.ensures in (s.1, below_more a.starts.now a.tags.now a.more a.last a.mask 0 _ (none_below_start a.starts.now a.tags.now a.last a.more a.mask) s.2)

pub returns-in-Some : goal.returns-in-Some
returns-in-Some c = let a = c.args in let l = c.loop-i in up_found a.starts.now a.tags.now a.last a.more a.mask l.i (omega arith) l.invariant.1 c.low_at.ensures c.in-Some.is

pub loop-i-preserved : goal.loop-i-preserved
loop-i-preserved c = let a = c.args in let l = c.loop-i in let s = c.skip_up-i-in-loop-i.ensures in (s.1, below_more a.starts.now a.tags.now a.more a.last a.mask (l.i + 1) _ (none_below_next a.starts.now a.tags.now a.last a.more a.mask l.i l.invariant.1 c.low_at.ensures c.in_default.is) s.2)

pub returns : goal.returns
returns c = let a = c.args in let l = c.loop-i in up_none a.starts.now a.tags.now a.last a.more a.mask l.i (omega arith) l.invariant.1
