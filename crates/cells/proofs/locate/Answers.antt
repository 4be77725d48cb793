-- `cells::locate` meets its contract.
use Rattle.cells.specs.Cells.{Locates}
use Rattle.cells.proofs.Strides.{two_passed, passed_located}
use Rattle.cells.proofs.locate.Goals as goal

pub returns : goal.returns
unfolding Locates
returns c =
    let s = c.args in
    passed_located s.starts.now s.a _ (two_passed _ _ _ 8 c.pass-near.result c.min-to.result _ c.pass-near.ensures c.min-to.ensures c.pass.ensures)
