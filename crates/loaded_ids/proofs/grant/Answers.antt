-- `loaded_ids::grant` meets its contract. The invariant: the i lowest ids are granted (`Full`).
use Rattle.std.proofs.Common.{ℕ, ◌+◌, subst, arith}
use Rattle.loaded_ids.proofs.StepLaws.{granted_start, granted_step}
use Rattle.loaded_ids.specs.Steps.{Full}
use Rattle.ids.specs.State.{fresh}
use Rattle.loaded_ids.proofs.grant.Goals as goal

pub loop-init : goal.loop-init
loop-init c = λ low high o r h. (fresh low high, granted_start low high o, h)

pub loop-preserved : goal.loop-preserved
loop-preserved c =
    let l = c.loop in
    λ low high o r h. let q = l.invariant low high o r h in granted_step q.0 low high l.counter q.1 (omega arith) _ _ _ q.2 c.allocate.ensures

pub returns : goal.returns
returns c = let l = c.loop in λ low high o r h. let q = l.invariant low high o r h in (q.0, subst (λ (x : ℕ). Full q.0 low high (low + x)) (omega arith) q.1, q.2)
