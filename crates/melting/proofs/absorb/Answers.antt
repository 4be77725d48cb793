-- `melting::absorb` meets its contract.
use native.Mathlib.Omega.{arith}
use Rattle.melting.proofs.Gones.{granted_here, none_behind, empty_behind, granted_there, absorb_here, absorb_there}
use Rattle.melting.proofs.absorb.Goals.{then-nb-c-via-then-nb-c, then-nb-c-via-else-nb-c+then-mem-c-ne0, then-nb-c-via-else-nb-c+else-mem-c-ne0+then-size_of-eq0}
use Rattle.melting.proofs.absorb.Goals as goal

pub returns-then-mem-b-eq0 : goal.returns-then-mem-b-eq0
returns-then-mem-b-eq0 c = let st = c in let a = st.args in let m = a.mem.now in let e = c.size_of.ensures in absorb_here m st.requires.0 a.nb a.b a.i st.requires.1 st.requires.2 st.requires.3 c.shrink.new.mem (omega (arith, e)) c.if-mem-b-eq0.true c.shrink.ensures

pub returns-else-mem-b-eq0 : goal.returns-else-mem-b-eq0
returns-else-mem-b-eq0 c = let st = c in let a = st.args in let m = a.mem.now in let e = c.size_of.ensures in granted_here m st.requires.0 a.nb a.b a.i st.requires.1 st.requires.2 st.requires.3 (omega (arith, e)) c.if-mem-b-eq0.false

pub returns-then-nb-c : goal.returns-then-nb-c
returns-then-nb-c c =
    let st = c in
    let a = st.args in
    let m = a.mem.now in
    let e = c.size_of.ensures in
    elim c.then-nb-c.branch [
      | then-nb-c-via-then-nb-c w ↦ none_behind m st.requires.0 a.nb a.b a.i st.requires.1 st.requires.2 st.requires.3 (omega (arith, e)) (omega arith)
      | then-nb-c-via-else-nb-c+then-mem-c-ne0 w ↦ granted_there m st.requires.0 a.nb a.b a.i st.requires.1 st.requires.2 st.requires.3 (omega (arith, e)) (omega arith) w.if-mem-c-ne0.true
      | then-nb-c-via-else-nb-c+else-mem-c-ne0+then-size_of-eq0 w ↦ empty_behind m st.requires.0 a.nb a.b a.i st.requires.1 st.requires.2 st.requires.3 (omega (arith, e)) (omega arith) (omega (arith, w.size_of-else-mem-c-ne0.ensures))
    ]

pub returns : goal.returns
returns c = let st = c in let a = st.args in let m = a.mem.now in let e = c.size_of.ensures in absorb_there m st.requires.0 a.nb a.b a.i st.requires.1 st.requires.2 st.requires.3 c.shrink-2.new.mem (omega (arith, e)) (omega arith) (omega (arith, c.size_of-else-mem-c-ne0.ensures)) c.if-mem-c-ne0.false c.shrink-2.ensures
