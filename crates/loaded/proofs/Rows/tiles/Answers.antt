-- `loaded::Rows::tiles` meets its contract. The invariant: the ranges passed are as they are to be.
use Rattle.std.proofs.Common.{arith}
use Rattle.frame.proofs.Passed.{handed}
use Rattle.octets.specs.Octets.{word}
use Rattle.loaded.proofs.LoadLaws.{tests_fine, wrong_one}
use Rattle.loaded.proofs.RowLaws.{good_more}
use Rattle.loaded.specs.Steps.{AllGood, Tests}
use Rattle.loaded.proofs.Rows.tiles.Goals as goal

pub loop-i-init : goal.loop-i-init
loop-i-init c = λ j more l e. absurd (omega arith)

pub returns-in_err-tile : goal.returns-in_err-tile
returns-in_err-tile c =
    let w = word c.args.self.now.bs.now in
    handed (λ r. Tests w r (AllGood w c.args.self.now.last 7 c.args.self.now.n)) _ _ c.from_residual.ensures.1 (wrong_one _ _ _ c.loop-i.i _ (omega arith) c.in_err-tile.ensures)

pub loop-i-preserved : goal.loop-i-preserved
loop-i-preserved c = good_more _ _ _ c.loop-i.i c.loop-i.invariant (tests_fine _ _ c.in_ok-tile.ensures)

pub returns : goal.returns
unfolding Tests
returns c = λ i more e. c.loop-i.invariant i more (omega arith) e
