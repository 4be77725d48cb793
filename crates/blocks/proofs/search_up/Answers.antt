-- `blocks::search_up` meets its contract.
use native.Mathlib.Omega.{arith}
use Rattle.places.specs.Places.{SearchUp}
use Rattle.blocks.proofs.Searches.{up_first, up_next, up_found, up_last}
use Rattle.blocks.proofs.search_up.Goals as goal

pub loop-b-init : goal.loop-b-init
loop-b-init c = let st = c in λ r p. up_first st.args.mem.now _ _

pub returns-in-Some : goal.returns-in-Some
unfolding SearchUp
returns-in-Some c = let st = c in let a = st.args in let l = c.loop-b in λ r e p. up_found a.mem.now r l.b (omega (arith, st.requires.1)) a.more a.mask p (l.invariant r p) c.look_up.ensures c.in-Some.is

pub loop-b-preserved : goal.loop-b-preserved
loop-b-preserved c = let st = c in let a = st.args in let l = c.loop-b in λ r p. up_next a.mem.now r l.b (omega (arith, st.requires.1)) a.more a.mask p (l.invariant r p) c.look_up.ensures c.in_default.is

pub returns : goal.returns
unfolding SearchUp
returns c = let st = c in let a = st.args in let l = c.loop-b in λ r e p. up_last a.mem.now r l.b (omega (arith, st.requires.1)) (omega (arith, st.requires.1)) a.more a.mask (l.invariant r p)
