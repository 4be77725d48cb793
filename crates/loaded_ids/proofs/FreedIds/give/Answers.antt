-- `loaded_ids::FreedIds::give` meets its contract. The invariant: the first i freed ids are given back (`Given`).
use Rattle.std.proofs.Common.{ℕ, subst, arith}
use Rattle.loaded_ids.proofs.StepLaws.{given_start, given_step}
use Rattle.loaded_ids.specs.Steps.{Given}
use Rattle.octets.specs.Octets.{word}
use Rattle.loaded_ids.proofs.FreedIds.give.Goals as goal

pub loop-i-init : goal.loop-i-init
loop-i-init c = λ s low high next f g h. (s, given_start _ low high next s f, h)

pub loop-i-preserved : goal.loop-i-preserved
loop-i-preserved c =
    let l = c.loop-i in
    let e = c.get.ensures (omega arith) in
    λ s low high next f g h. let q = l.invariant s low high next f g h in given_step _ low high next _ l.i _ q.0 q.1 g (omega arith) e _ _ _ q.2 c.free.ensures

pub returns : goal.returns
returns c = let l = c.loop-i in λ s low high next f g h. let q = l.invariant s low high next f g h in (q.0, subst (λ (x : ℕ). Given (word c.args.self.now.bs.now) low high next x q.0) (omega arith) q.1, q.2)
