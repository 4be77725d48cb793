-- `saved_ids::list` meets its contract. The invariant: the free ones among those passed are written (`Listed`).
use Rattle.std.proofs.Common.{ℕ, refl, ◌∙◌, subst, arith}
use Rattle.saved_ids.proofs.WriteLaws.{Listed, listed_start, listed_step, listed_end}
use Rattle.saved_ids.proofs.list.Goals as goal

pub loop-i-init : goal.loop-i-init
loop-i-init c = (λ x h. refl, λ s h p q. listed_start s _)

pub loop-i-preserved : goal.loop-i-preserved
loop-i-preserved c =
    let l = c.loop-i in
    let d = c.note-j.ensures in
    (λ x h. d.behind x h ∙ l.invariant.0 x h, λ s h p q. listed_step s _ _ _ _ _ l.i l.j _ _ h p q (omega arith) d (l.invariant.1 s h p q))

pub returns : goal.returns
returns c =
    let l = c.loop-i in
    record { long = l.auto.bs; behind = l.invariant.0; right = λ s h p q. listed_end s _ _ l.j _ _ p q (subst (λ (x : ℕ). Listed s x l.j l.bs) (omega arith) (l.invariant.1 s h p q)) }
