-- `saved_ids::count` meets its contract. The invariant: k counts those passed that are not granted.
use Rattle.std.proofs.Common.{refl, ap, arith, ◌∙◌}
use Rattle.saved_ids.proofs.WriteLaws.{counted_held, counted_free}
use Rattle.saved_ids.specs.Format.{unheld}
use Rattle.saved_ids.proofs.count.Goals as goal
use Rattle.saved_ids.proofs.count.Goals.{then-not-is_allocated, else-not-is_allocated}

pub loop-i-init : goal.loop-i-init
unfolding unheld
loop-i-init c = (omega arith, λ s h p. refl)

pub overflow_add-k : goal.overflow_add-k
overflow_add-k c = omega (arith, c.loop-i.invariant.0)

pub loop-i-preserved : goal.loop-i-preserved
loop-i-preserved c =
    let l = c.loop-i in
    let t = c.is_allocated in
    elim c.if-not-is_allocated.branch [
      | then-not-is_allocated w ↦ rw w.k-is (counted_free _ _ _ l.i _ _ t.ensures w.if-not-is_allocated.true (omega arith) l.invariant)
      | else-not-is_allocated w ↦ rw w.k-is (counted_held _ _ _ l.i _ _ t.ensures w.if-not-is_allocated.false l.invariant)
    ]

pub returns : goal.returns
returns c =
    let l = c.loop-i in
    record { small = omega arith; right = λ s h p. l.invariant.1 s h p ∙ ap (unheld s.granted c.args.low) (omega arith) }
