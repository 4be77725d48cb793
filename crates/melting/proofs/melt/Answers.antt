-- `melting::melt` meets its contract.
use native.Mathlib.Omega.{arith}
use mathlib.Core.Path.{sym, ◌∙◌}
use Rattle.melting.proofs.Gones.{melt_done}
use Rattle.melting.proofs.melt.Goals as goal

pub give-requires : goal.give-requires
give-requires c = let st = c in let a = st.args in let m = a.mem.now in let e = c.absorb-hi.ensures in (e.sound, st.requires.1 ∙ sym e.blocks, e.from, omega (arith, e.to, st.requires.1), e.tile)

pub returns : goal.returns
returns c = let st = c in let a = st.args in let m = a.mem.now in melt_done m c.absorb-hi.new.mem c.give.new.mem a.b a.i c.absorb-hi.result st.requires.0 (omega (arith, st.requires.1)) st.requires.3 c.absorb-hi.ensures c.give.ensures
