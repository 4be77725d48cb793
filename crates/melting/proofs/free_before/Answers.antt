-- `melting::free_before` meets its contract.
use native.Mathlib.Omega.{arith}
use borrow.Author.Tests.{eq-eqb}
use Rattle.melting.specs.Melting.{FreeBefore}
use Rattle.melting.proofs.Gives.{by_test, here_free, here_granted, none_before, empty_before, there_free, there_granted}
use Rattle.melting.proofs.free_before.Goals as goal

pub returns-then-i-gt0 : goal.returns-then-i-gt0
returns-then-i-gt0 c = let st = c in let a = st.args in let m = a.mem.now in by_test _ (FreeBefore m a.b a.i) (here_free m st.requires.0 a.b st.requires.1 a.i st.requires.2 (omega arith)) (here_granted m st.requires.0 a.b st.requires.1 a.i st.requires.2 (omega arith))

pub returns-then-b-eq0 : goal.returns-then-b-eq0
returns-then-b-eq0 c = let st = c in let a = st.args in let m = a.mem.now in none_before m st.requires.0 a.b st.requires.1 a.i st.requires.2 (omega arith) c.if-b-eq0.true

pub returns-then-n-ne0 : goal.returns-then-n-ne0
returns-then-n-ne0 c = let st = c in let a = st.args in let m = a.mem.now in by_test _ (FreeBefore m a.b a.i) (there_free m st.requires.0 a.b st.requires.1 a.i st.requires.2 (omega arith) (omega arith) c.size_of-n.result c.size_of-n.ensures (omega arith)) (there_granted m st.requires.0 a.b st.requires.1 a.i st.requires.2 (omega arith) (omega arith) c.size_of-n.result c.size_of-n.ensures (omega arith))

pub returns-else-n-ne0 : goal.returns-else-n-ne0
returns-else-n-ne0 c = let st = c in let a = st.args in let m = a.mem.now in rw (eq-eqb c.size_of-n.result 0 c.if-n-ne0.false) (empty_before m st.requires.0 a.b st.requires.1 a.i st.requires.2 (omega arith) (omega (arith, c.size_of-n.ensures)))
