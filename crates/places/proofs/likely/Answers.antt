-- `places::likely` meets its contract.
use Rattle.std.proofs.Common.{arith}
use Rattle.places.proofs.Skips.{far}
use Rattle.places.proofs.likely.Goals as goal

pub returns : goal.returns
returns c = let a = c.args in far a.s a.next a.t (omega arith) (omega arith)
