-- `places::scan_down` meets its contract.
use Rattle.std.proofs.Common.{◌≡◌, ◌+◌, ◌-◌, length, sym, arith}
use Rattle.places.proofs.Searches.{none_from_start, none_from_next, down_found, down_none, down_uneven}
use Rattle.places.proofs.Skips.{from_more}
use Rattle.places.proofs.scan_down.Goals as goal

pub returns-then-tags-n : goal.returns-then-tags-n
returns-then-tags-n c = let a = c.args in down_uneven a.starts.now a.tags.now a.last a.more a.mask (λ e. c.if-tags-n.true (sym e))

pub loop-i-init : goal.loop-i-init
loop-i-init c = let a = c.args in (omega arith, none_from_start a.starts.now a.tags.now a.last a.more a.mask (length a.starts.now) (omega arith))

pub returns-in-Some : goal.returns-in-Some
returns-in-Some c = let a = c.args in let l = c.loop-i in let e : l.i - 1 + 1 ≡ l.i = omega arith in down_found a.starts.now a.tags.now a.last a.more a.mask (l.i - 1) (omega arith) (rw e l.invariant.1) c.high_at.ensures c.in-Some.is

pub loop-i-preserved : goal.loop-i-preserved
loop-i-preserved c = let a = c.args in let l = c.loop-i in let s = c.skip_down-i.ensures in (omega (arith, s.0), from_more a.starts.now a.tags.now a.more a.last a.mask (l.i - 1) _ (none_from_next a.starts.now a.tags.now a.last a.more a.mask l.i (l.i - 1) (omega arith) l.invariant.1 c.high_at.ensures c.in_default.is) s.1)

pub returns : goal.returns
returns c = let a = c.args in let l = c.loop-i in down_none a.starts.now a.tags.now a.last a.more a.mask l.i (omega arith) l.invariant.1
