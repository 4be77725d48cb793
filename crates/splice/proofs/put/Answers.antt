-- `splice::put` meets its contract.
use Rattle.splice.proofs.Cells.{put_spliced}
use Rattle.splice.proofs.put.Goals as goal

pub returns : goal.returns
returns c = let a = c.args in put_spliced a.mem.now c.requires.0 a.b c.requires.1 a.i a.s a.t c.requires.2
