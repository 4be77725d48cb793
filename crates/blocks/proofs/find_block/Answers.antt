-- `blocks::find_block` meets its contract.
use Rattle.cells.proofs.Strides.{two_passed}
use Rattle.blocks.proofs.find_block.Goals as goal

pub returns : goal.returns
returns c = two_passed _ _ _ 8 c.pass-near.result c.min-to.result _ c.pass-near.ensures c.min-to.ensures c.pass.ensures
