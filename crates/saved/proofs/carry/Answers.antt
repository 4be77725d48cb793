-- `saved::carry` meets its contract: what stands at the address is written, or nothing stands there.
use Rattle.std.proofs.Common.{refl, arith}
use Rattle.saved.proofs.WriteLaws.{nowhere, put_tile}
use Rattle.saved.proofs.carry.Goals as goal

pub returns-in_default : goal.returns-in_default
returns-in_default c = nowhere _ _ _ _ _ _ c.at.ensures c.in_default.not-Ok

pub returns : goal.returns
returns c = put_tile _ _ _ _ c.args.a c.args.i _ _ c.in-Ok.ensures (omega arith) c.put.ensures c.put-2.ensures refl
