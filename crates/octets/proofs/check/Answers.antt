-- `octets::check` meets its contract. The invariant: c is the check of the words passed.
use Rattle.std.proofs.Common.{arith, refl, add-one}
use Rattle.octets.specs.Octets.{check}
use Rattle.octets.proofs.check.Goals as goal

pub loop-i-init : goal.loop-i-init
unfolding check
loop-i-init c = (omega arith, refl)

pub loop-i-preserved : goal.loop-i-preserved
unfolding check
loop-i-preserved c =
    let l = c.loop-i in
    let g = c.get.ensures (omega arith) in
    (l.invariant.0, rw (add-one, ← l.invariant.1, ← g) (omega arith))
