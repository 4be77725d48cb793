-- `spread::trim` meets its contract.
use native.Mathlib.Omega.{arith}
use Rattle.spread.proofs.Bounds.{trim_none, trim_more, trim_next}
use Rattle.spread.proofs.trim.Goals as goal

pub loop-b-init : goal.loop-b-init
loop-b-init c = let st = c in trim_none st.args.mem.now st.args.lo

pub tighten-requires : goal.tighten-requires
tighten-requires c = let st = c in let a = st.args in let l = c.loop-b in trim_next a.mem.now l.mem a.nb a.lo l.b st.requires.0 st.requires.1 (omega arith) l.invariant

pub loop-b-preserved : goal.loop-b-preserved
loop-b-preserved c = let st = c in let a = st.args in let l = c.loop-b in trim_more a.mem.now l.mem c.tighten.new.mem a.lo l.b st.requires.0 (omega (arith, st.requires.1)) l.invariant c.tighten.ensures (omega arith)

pub shape_of-mem : goal.shape_of-mem
shape_of-mem c = c.loop-b.invariant.same.len
