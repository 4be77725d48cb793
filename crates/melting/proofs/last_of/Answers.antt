-- `melting::last_of` meets its contract.
use native.Mathlib.Omega.{arith}
use Prim.Native.Nat.{◌+◌}
use Rattle.blocks.specs.Blocks.{past_at}
use Rattle.blocks.proofs.Parts.{start_past}
use Rattle.melting.proofs.Inner.{start_any}
use Rattle.melting.proofs.last_of.Goals as goal

pub returns-then-k-size_of : goal.returns-then-k-size_of
returns-then-k-size_of c =
    let st = c in
    let m = st.args.mem.now in
    omega (arith, start_any m st.requires.0 st.args.b (omega arith) (st.args.j + 1) (omega (arith, c.size_of.ensures)) (past_at st.args.b m), c.start_of.ensures, c.saturating_sub.ensures)

pub returns : goal.returns
returns c =
    let st = c in
    let m = st.args.mem.now in
    omega (arith, start_past m st.requires.0 st.args.b (omega arith) (st.args.j + 1) (past_at st.args.b m) (omega (arith, c.size_of.ensures)), c.end_of_block.ensures)
