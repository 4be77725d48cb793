-- `blocks::search_down` meets its contract.
use native.Mathlib.Omega.{arith}
use Rattle.places.specs.Places.{SearchDown}
use Rattle.blocks.proofs.Searches.{down_first, down_next, down_found, down_last}
use Rattle.blocks.proofs.search_down.Goals as goal

pub loop-b-init : goal.loop-b-init
loop-b-init c = let st = c in let a = st.args in λ r p. down_first a.mem.now r a.nb st.requires.1 _ _

pub returns-in-Some : goal.returns-in-Some
unfolding SearchDown
returns-in-Some c = let st = c in let a = st.args in let l = c.loop-b in λ r e p. down_found a.mem.now r l.b (omega arith) (omega (arith, st.requires.1)) a.more a.mask p (l.invariant r p) c.look_down.ensures c.in-Some.is

pub loop-b-preserved : goal.loop-b-preserved
loop-b-preserved c = let st = c in let a = st.args in let l = c.loop-b in λ r p. down_next a.mem.now r l.b (omega arith) (omega (arith, st.requires.1)) a.more a.mask p (l.invariant r p) c.look_down.ensures c.in_default.is

pub returns : goal.returns
unfolding SearchDown
returns c = let st = c in let a = st.args in let l = c.loop-b in λ r e p. down_last a.mem.now l.b (omega arith) a.more a.mask (l.invariant r p)
