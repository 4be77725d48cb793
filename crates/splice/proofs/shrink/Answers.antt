-- `splice::shrink` meets its contract.
use native.Mathlib.Omega.{arith}
use Prim.Native.Nat.{◌+◌, ◌-◌, ◌*◌}
use Rattle.blocks.specs.Blocks.{size_at}
use Rattle.splice.specs.Splice.{Narrowed}
use Rattle.splice.proofs.Cells.{shrink_spliced}
use Rattle.splice.proofs.shrink.Goals as goal

pub returns : goal.returns
returns c = let st = c in let a = st.args in let e = c.size_of-n.ensures in
    let o : Narrowed a.mem.now c.narrow.new.mem (137 + a.b * 129) (size_at a.b a.mem.now - a.by) a.i a.by = rw e at c.narrow.ensures in
    shrink_spliced a.mem.now st.requires.0 a.b st.requires.1 c.narrow.new.mem a.i a.by _ _ st.requires.2 o (omega (arith, e)) c.saturating_sub-all.ensures
