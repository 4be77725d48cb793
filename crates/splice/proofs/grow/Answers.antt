-- `splice::grow` meets its contract.
use native.Mathlib.Omega.{arith}
use Prim.Native.Nat.{◌+◌, ◌*◌}
use mathlib.Core.Path.{refl}
use Rattle.blocks.specs.Blocks.{size_at}
use Rattle.splice.specs.Splice.{Widened}
use Rattle.splice.proofs.Cells.{grow_grown}
use Rattle.splice.proofs.grow.Goals as goal

pub returns : goal.returns
returns c = let st = c in let a = st.args in let e = c.size_of-n.ensures in
    let o : Widened a.mem.now c.widen.new.mem (137 + a.b * 129) (size_at a.b a.mem.now) a.i a.by = rw e at c.widen.ensures in
    grow_grown a.mem.now st.requires.0 a.b st.requires.1 c.widen.new.mem a.i a.by _ _ st.requires.2 st.requires.3 o (omega (arith, e)) refl
