-- `blocks::find` meets its contract.
use Rattle.blocks.proofs.Finding.{find_first, find_none, find_in}
use Rattle.blocks.proofs.find.Goals as goal

pub returns-then-a-mem : goal.returns-then-a-mem
returns-then-a-mem c = let st = c in find_first st.args.mem.now st.args.a c.if-a-mem.true

pub returns-in_err-i : goal.returns-in_err-i
returns-in_err-i c = let st = c in let a = st.args in rw c.from_residual.ensures (find_none a.mem.now st.requires.0 a.a a.nb st.requires.1 c.find_block-b.result c.find_block-b.ensures c.in_err-i.ensures)

pub returns : goal.returns
returns c = let st = c in let a = st.args in find_in a.mem.now st.requires.0 a.a a.nb st.requires.1 c.find_block-b.result c.find_block-b.ensures _ c.in_ok-i.ensures
