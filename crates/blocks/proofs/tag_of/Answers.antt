-- `blocks::tag_of` meets its contract.
use native.Mathlib.Omega.{arith}
use mathlib.Core.Path.{sym}
use Rattle.blocks.proofs.Parts.{fits, tag_at}
use Rattle.blocks.proofs.tag_of.Goals as goal

pub overflow_add-result-2 : goal.overflow_add-result-2
overflow_add-result-2 c = let st = c in let a = st.args in let m = a.mem.now in omega (arith, fits m a.b, st.requires.0.used, st.requires.0.few, st.requires.0.long)

pub offset_bounds-mem-b : goal.offset_bounds-mem-b
offset_bounds-mem-b c = let st = c in let a = st.args in let m = a.mem.now in omega (arith, fits m a.b, st.requires.0.used, st.requires.0.few, st.requires.0.long)

pub bounds-mem-b : goal.bounds-mem-b
bounds-mem-b c = let st = c in let a = st.args in let m = a.mem.now in omega (arith, fits m a.b, st.requires.0.used, st.requires.0.few, st.requires.0.long)

pub returns : goal.returns
returns c = let st = c in let a = st.args in let m = a.mem.now in sym (tag_at m st.requires.0 a.b st.requires.1 a.i 0 st.requires.2)
