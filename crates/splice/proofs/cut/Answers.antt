-- `splice::cut` meets its contract.
use Rattle.splice.proofs.Carves.{cut_ready, raise_ready, cut_done, cut_raised, cut_full}
use Rattle.splice.proofs.cut.Goals as goal

pub raise-requires : goal.raise-requires
raise-requires c = let st = c in let a = st.args in raise_ready a.mem.now c.carve.new.mem a.b a.i a.a a.size a.tag st.requires.0 st.requires.2 a.nb st.requires.1 c.carve.ensures c.if-not-carve.false

pub returns-then-e-s : goal.returns-then-e-s
returns-then-e-s c = let st = c in let a = st.args in cut_raised a.mem.now c.carve.new.mem a.b a.i a.a a.size a.tag st.requires.0 st.requires.2 a.nb st.requires.1 c.carve.ensures c.if-not-carve.false c.raise.new.mem c.raise.ensures

pub finish-requires : goal.finish-requires
finish-requires c = let st = c in let a = st.args in cut_ready a.mem.now c.carve.new.mem a.b a.i a.a a.size a.tag st.requires.0 st.requires.2 a.nb st.requires.1 c.carve.ensures c.if-not-carve.false

pub returns-else-e-s : goal.returns-else-e-s
returns-else-e-s c = let st = c in let a = st.args in cut_done a.mem.now c.carve.new.mem a.b a.i a.a a.size a.tag st.requires.0 st.requires.2 a.nb st.requires.1 c.carve.ensures c.if-not-carve.false c.finish.new.mem c.finish.ensures

pub returns-then-not-carve : goal.returns-then-not-carve
returns-then-not-carve c = let st = c in let a = st.args in cut_full a.mem.now c.carve.new.mem a.b a.i a.a a.size a.tag c.carve.ensures c.if-not-carve.true
