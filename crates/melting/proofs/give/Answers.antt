-- `melting::give` meets its contract.
use native.Mathlib.Omega.{arith}
use mathlib.Core.List.{[], ◌∷◌}
use Rattle.melting.proofs.Gives.{give_ready, given_up, given_free}
use Rattle.melting.proofs.give.Goals.{then-free_before, else-free_before}
use Rattle.melting.proofs.give.Goals as goal

pub finish-requires : goal.finish-requires
finish-requires c =
    let st = c in
    let a = st.args in
    let m = a.mem.now in
    elim c.if-free_before.branch [
      | then-free_before w ↦ rw w.mem-is (give_ready m w.shrink.new.mem st.requires.0 a.nb a.b a.i 1 c.lowest.result a.hi st.requires.1 st.requires.2 st.requires.3 (omega (arith, st.requires.4)) [] [] (omega arith) w.shrink.ensures c.lowest.ensures.0)
      | else-free_before w ↦ rw w.mem-is (give_ready m w.put.new.mem st.requires.0 a.nb a.b a.i 1 c.lowest.result a.hi st.requires.1 st.requires.2 st.requires.3 (omega (arith, st.requires.4)) (_ ∷ []) (0 ∷ []) (omega arith) w.put.ensures c.lowest.ensures.0)
    ]

pub returns : goal.returns
returns c =
    let st = c in
    let a = st.args in
    let m = a.mem.now in
    let l = c.lowest.ensures in
    elim c.if-free_before.branch [
      | then-free_before w ↦ given_up m st.requires.0 a.nb a.b a.i c.lowest.result a.hi st.requires.1 st.requires.2 st.requires.3 st.requires.4 l.0 l.1 l.2 c.free_before.result c.free_before.ensures w.shrink.new.mem c.finish.new.mem (rw w.mem-is at c.finish.ensures) w.if-free_before.true w.shrink.ensures
      | else-free_before w ↦ given_free m st.requires.0 a.nb a.b a.i c.lowest.result a.hi st.requires.1 st.requires.2 st.requires.3 st.requires.4 l.0 l.1 l.2 c.free_before.result c.free_before.ensures w.put.new.mem c.finish.new.mem (rw w.mem-is at c.finish.ensures) w.if-free_before.false _ w.start_of-s.ensures w.put.ensures
    ]
