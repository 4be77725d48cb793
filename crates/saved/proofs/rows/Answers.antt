-- `saved::rows` meets its contract. The invariant: the ranges passed are written (`Walked`).
use Rattle.std.proofs.Common.{refl, ◌∙◌, arith}
use Rattle.saved.proofs.WriteLaws.{walked_start, walked_step, walked_end}
use Rattle.saved.proofs.rows.Goals as goal

pub loop-i-init : goal.loop-i-init
loop-i-init c = (λ j h. refl, λ p h e n. walked_start p _ _ h.valid e)

pub loop-i-preserved : goal.loop-i-preserved
loop-i-preserved c =
    let l = c.loop-i in
    let k = c.carry-a.ensures in
    (λ j h. k.behind j (omega arith) ∙ l.invariant.0 j h, λ p h e n. walked_step p _ _ _ _ _ _ h (l.invariant.1 p h e n) (omega (arith, n)) k)

pub returns : goal.returns
returns c =
    let l = c.loop-i in
    record { long = l.auto.bs; behind = l.invariant.0; row = λ p h e n. walked_end p _ _ _ (l.invariant.1 p h e n) (omega (arith, n)) }
