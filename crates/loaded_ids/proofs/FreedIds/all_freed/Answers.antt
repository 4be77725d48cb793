-- `loaded_ids::FreedIds::all_freed` meets its contract. The invariant: the ids passed are as they are to be.
use Rattle.std.proofs.Common.{arith}
use Rattle.frame.proofs.Passed.{handed}
use Rattle.octets.specs.Octets.{word}
use Rattle.loaded_ids.proofs.LoadLaws.{good_more, tests_fine, wrong_one}
use Rattle.loaded_ids.specs.Steps.{AllGood, Tests}
use Rattle.loaded_ids.proofs.FreedIds.all_freed.Goals as goal

pub loop-i-init : goal.loop-i-init
loop-i-init c = λ j l. absurd (omega arith)

pub returns-in_err-freed : goal.returns-in_err-freed
returns-in_err-freed c =
    let w = word c.args.self.now.bs.now in
    handed (λ r. Tests w r (AllGood w c.args.self.now.low c.args.self.now.next c.args.self.now.k)) _ _ c.from_residual.ensures.1 (wrong_one _ _ _ _ c.loop-i.i _ (omega arith) c.in_err-freed.ensures)

pub loop-i-preserved : goal.loop-i-preserved
loop-i-preserved c = good_more _ _ _ _ c.loop-i.i c.loop-i.invariant (tests_fine _ _ c.in_ok-freed.ensures)

pub returns : goal.returns
unfolding Tests
returns c = λ i l. c.loop-i.invariant i (omega arith)
