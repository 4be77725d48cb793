-- `saved_ids::save` meets its contract: the freed ids are written, then the frame around them.
use Rattle.std.proofs.Common.{refl, arith}
use Rattle.saved_ids.proofs.WriteLaws.{written, measures_some, not_measured}
use Rattle.saved_ids.specs.Contract.{Saves}
use Rattle.saved_ids.proofs.save.Goals as goal

pub returns-in_err-ids : goal.returns-in_err-ids
returns-in_err-ids c = not_measured _ _ _ _ _ c.measure.ensures c.in_err-ids.ensures.value c.from_residual.ensures.1

pub returns-then-bs-freed : goal.returns-then-bs-freed
unfolding Saves
returns-then-bs-freed c = (refl, λ s h v. let d = measures_some _ _ _ c.measure.ensures c.in_ok-ids.ensures.ok_part in omega (arith, c.if-bs-freed.true, (d.right s h v).3))

pub returns : goal.returns
returns c = written _ _ _ _ _ _ _ _ (omega arith) (measures_some _ _ _ c.measure.ensures c.in_ok-ids.ensures.ok_part) c.list.ensures c.seal.ensures
