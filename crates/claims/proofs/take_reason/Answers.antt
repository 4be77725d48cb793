-- `claims::take_reason` meets its contract: the reasons that are left decide.
use mathlib.Core.Path.{sym, ◌∙◌}
use native.Mathlib.Omega.{arith}
use Rattle.claims.proofs.Reasons.{all_reasons, of_all, first_step}
use Rattle.claims.proofs.take_reason.Goals as goal

pub loop-reason-init : goal.loop-reason-init
loop-reason-init c = of_all c.args.s.now c.args.at

pub loop-reason-preserved : goal.loop-reason-preserved
loop-reason-preserved c =
    let a = c.args in
    sym (first_step a.s.now a.at c.loop-reason.reason-index all_reasons _ (omega arith) (sym c.reason_is.ensures ∙ c.if-reason_is.false)) ∙ c.loop-reason.invariant
