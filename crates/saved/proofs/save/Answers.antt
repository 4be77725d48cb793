-- `saved::save` meets its contract: the ranges are written, then the frame around them.
use Rattle.std.proofs.Common.{refl, arith}
use Rattle.saved.proofs.WriteLaws.{not_numbered, written}
use Rattle.saved.specs.Contract.{Saves}
use Rattle.saved.proofs.save.Goals as goal

pub returns-in_err-n : goal.returns-in_err-n
returns-in_err-n c = not_numbered _ _ _ _ _ c.range_count.ensures c.in_err-n.ensures.value c.from_residual.ensures.1

pub returns-then-bs-n : goal.returns-then-bs-n
unfolding Saves
returns-then-bs-n c = let d = rw c.in_ok-n.ensures.ok_part at c.range_count.ensures in (refl, λ p h. omega (arith, d.1 p h, c.if-bs-n.true))

pub returns : goal.returns
returns c =
    let d = rw c.in_ok-n.ensures.ok_part at c.range_count.ensures in
    written _ _ _ _ _ _ _ _ (omega arith) d.1 c.base-base.ensures c.end.ensures c.limit.ensures c.rows.ensures c.seal.ensures
