-- `blocks::locate_in` meets its contract.
use native.Mathlib.Omega.{arith}
use Prim.Native.Nat.{◌+◌, ◌-◌, ◌*◌}
use Rattle.blocks.specs.Blocks.{size_at}
use Rattle.blocks.proofs.Parts.{part_lent}
use Rattle.blocks.proofs.locate_in.Goals as goal

pub returns : goal.returns
returns c = let st = c in let a = st.args in rw (part_lent a.mem.now (137 + a.b * 129) (size_at a.b a.mem.now) (137 + a.b * 129 + c.size_of-n.result - (137 + a.b * 129)) (omega (arith, c.size_of-n.ensures))) at c.locate.ensures
