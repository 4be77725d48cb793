-- `places::fits_low` meets its contract.
use Rattle.std.proofs.Common.{◌+◌, ◌%◌, ◌<◌, mod-lt, arith}
use Rattle.places.specs.Places.{FitsLow}
use Rattle.places.proofs.Windows.{over_mod, low_here, low_next, low_none}
use Rattle.places.proofs.fits_low.Goals as goal

pub returns-then-over-eq0 : goal.returns-then-over-eq0
unfolding FitsLow
returns-then-over-eq0 c = λ p. let a = c.args in low_here a.s (a.e + 1) (a.more + 1) (a.mask + 1) (omega (arith, over_mod a.s a.mask p)) (omega (arith, c.in_ok-spare.ensures, c.in_ok-checked_sub.ensures))

pub returns-then-pad-spare : goal.returns-then-pad-spare
unfolding FitsLow
returns-then-pad-spare c =
    λ p.
    let a = c.args in
    let o = over_mod a.s a.mask p in
    let l : a.s % (a.mask + 1) < a.mask + 1 = mod-lt a.s (omega arith) in
    low_next a.s (a.e + 1) (a.more + 1) (a.mask + 1) _ (omega arith) l (λ z. omega (arith, c.if-over-eq0.false)) (omega (arith, c.in_ok-spare.ensures, c.in_ok-checked_sub.ensures))

pub returns : goal.returns
unfolding FitsLow
returns c =
    λ p.
    let a = c.args in
    let o = over_mod a.s a.mask p in
    let l : a.s % (a.mask + 1) < a.mask + 1 = mod-lt a.s (omega arith) in
    low_none a.s (a.e + 1) (a.more + 1) (a.mask + 1) (λ z. omega (arith, c.if-over-eq0.false)) (omega (arith, c.in_ok-spare.ensures, c.in_ok-checked_sub.ensures))
