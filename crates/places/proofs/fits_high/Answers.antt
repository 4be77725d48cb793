-- `places::fits_high` meets its contract.
use Rattle.std.proofs.Common.{◌+◌, arith}
use lib.Bits.{and_le_l}
use Rattle.places.specs.Places.{FitsHigh}
use Rattle.places.proofs.Windows.{over_mod, high_some, high_none}
use Rattle.places.proofs.fits_high.Goals as goal

pub returns-then-spare-over : goal.returns-then-spare-over
unfolding FitsHigh
returns-then-spare-over c =
    λ p.
    let a = c.args in
    let top = a.s + c.in_ok-spare.spare in
    high_none a.s (a.e + 1) (a.more + 1) (a.mask + 1) top (omega arith) (omega (arith, c.in_ok-spare.ensures, c.in_ok-checked_sub.ensures)) (omega (arith, over_mod top a.mask p, and_le_l top a.mask))

pub returns : goal.returns
unfolding FitsHigh
returns c =
    λ p.
    let a = c.args in
    let top = a.s + c.in_ok-spare.spare in
    let o = over_mod top a.mask p in
    rw o (high_some a.s (a.e + 1) (a.more + 1) (a.mask + 1) top (omega arith) (omega (arith, c.in_ok-spare.ensures, c.in_ok-checked_sub.ensures)) (omega arith))
