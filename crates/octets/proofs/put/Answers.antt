-- `octets::put` meets its contract: the eight bytes of word i are set.
use Rattle.std.proofs.Common.{◌∙◌, arith}
use Rattle.octets.proofs.Little.{bytes_put}
use Rattle.octets.proofs.put.Goals as goal

pub returns-then-i-bs : goal.returns-then-i-bs
returns-then-i-bs c = bytes_put c.args.bs.now c.args.i c.args.x _ _ c.if-i-bs.true c.ranges.x.fits (omega arith) (c.copy_from_slice.ensures.after ∙ c.to_le_bytes.ensures)
