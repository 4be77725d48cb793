-- `copied::fill` meets its contract. The invariant: the copy has just the granted ones among the ranges passed (`Filled`).
use Rattle.std.proofs.Common.{refl, ◌∙◌, arith}
use Rattle.copied.proofs.CarryLaws.{carries_some}
use Rattle.copied.proofs.CopyLaws.{filled_start, filled_step, filled_end}
use Rattle.copied.proofs.fill.Goals as goal

pub loop-i-init : goal.loop-i-init
loop-i-init c = (omega arith, refl, λ q h. (q, h), λ p limit h b k l e. filled_start p limit _ _ h.valid b e)

pub loop-i-preserved : goal.loop-i-preserved
loop-i-preserved c =
    let l = c.loop-i in
    let k = c.carry-a in (
      omega arith,
      k.auto.dst ∙ l.invariant.1,
      λ q h. carries_some _ _ _ _ _ (l.invariant.2 q h).0 (l.invariant.2 q h).1 k.ensures,
      λ p limit h b n r e. filled_step p limit _ _ _ _ h (omega (arith, h.valid.room)) (l.invariant.3 p limit h b n r e) (omega (arith, n)) _ _ k.ensures,
    )

pub shape_of-dst : goal.shape_of-dst
shape_of-dst c = c.loop-i.invariant.1

pub returns : goal.returns
returns c =
    let l = c.loop-i in
    record {
      some = l.invariant.2;
      all = λ p limit h b k r e. filled_end p limit _ _ _ (omega (arith, k)) (l.invariant.3 p limit h b k r e);
    }
