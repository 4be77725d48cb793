-- `splice::carve` meets its contract.
use native.Mathlib.Omega.{arith}
use Prim.Native.Nat.{◌+◌, ◌-◌}
use Rattle.splice.proofs.Carves.{carve_whole, carve_before, carve_after, carve_both, full_both, full_before, full_after, grown_ready, put_ready}
use Rattle.splice.proofs.carve.Goals as goal

pub returns-then-left-lt2 : goal.returns-then-left-lt2
returns-then-left-lt2 c = let st = c in let a = st.args in let m = a.mem.now in let w = st.requires.2 in let h = w.there.block in let t = w.there.tile in let n = st.requires.0.count in let e = c.end_of-e.ensures in let f = w.to in let k = w.some in full_both m a.b a.i a.a a.size a.tag st.requires.0 w (omega (arith, c.start_of-s.ensures)) (omega (arith, e, k)) (omega arith)

pub grow-requires : goal.grow-requires
grow-requires c = let st = c in let a = st.args in let m = a.mem.now in let w = st.requires.2 in let h = w.there.block in let t = w.there.tile in let n = st.requires.0.count in (st.requires.0, h, omega (arith, t), omega (arith, st.requires.3), omega (arith, n))

pub put-requires : goal.put-requires
put-requires c = let st = c in let a = st.args in let m = a.mem.now in let w = st.requires.2 in let h = w.there.block in let t = w.there.tile in let n = st.requires.0.count in let g = grown_ready m c.grow.new.mem a.b (a.i + 1) st.requires.0 h 2 (omega (arith, n)) c.grow.ensures in (g.0, g.1, omega (arith, g.2, t))

pub put-requires-then-z-e : goal.put-requires-then-z-e
put-requires-then-z-e c = let st = c in let a = st.args in let m = a.mem.now in let w = st.requires.2 in let h = w.there.block in let t = w.there.tile in let n = st.requires.0.count in let g = grown_ready m c.grow.new.mem a.b (a.i + 1) st.requires.0 h 2 (omega (arith, n)) c.grow.ensures in let p = put_ready c.grow.new.mem c.put.new.mem a.b (a.i + 1) g.0 g.1 _ _ c.put.ensures in (p.0, p.1, omega (arith, g.2, p.2, t))

pub returns-else-left-lt2 : goal.returns-else-left-lt2
returns-else-left-lt2 c = let st = c in let a = st.args in let m = a.mem.now in let w = st.requires.2 in let h = w.there.block in let t = w.there.tile in let n = st.requires.0.count in let e = c.end_of-e.ensures in let f = w.to in let k = w.some in carve_both m a.b a.i a.a a.size a.tag st.requires.0 w c.grow.new.mem c.put.new.mem c.put-then-z-e.new.mem (a.a + (a.size - 1) + 1) (omega (arith, k)) (omega (arith, c.start_of-s.ensures)) (omega (arith, e, k)) (omega (arith, n)) c.grow.ensures c.put.ensures c.put-then-z-e.ensures

pub returns-then-left-lt1 : goal.returns-then-left-lt1
returns-then-left-lt1 c = let st = c in let a = st.args in let m = a.mem.now in let w = st.requires.2 in let h = w.there.block in let t = w.there.tile in let n = st.requires.0.count in let e = c.end_of-e.ensures in let f = w.to in let k = w.some in full_before m a.b a.i a.a a.size a.tag st.requires.0 w (omega (arith, c.start_of-s.ensures)) (omega (arith, e, k)) (omega arith)

pub grow-requires-else-z-e : goal.grow-requires-else-z-e
grow-requires-else-z-e c = let st = c in let a = st.args in let m = a.mem.now in let w = st.requires.2 in let h = w.there.block in let t = w.there.tile in let n = st.requires.0.count in (st.requires.0, h, omega (arith, t), omega (arith, st.requires.3), omega (arith, n))

pub put-requires-else-z-e : goal.put-requires-else-z-e
put-requires-else-z-e c = let st = c in let a = st.args in let m = a.mem.now in let w = st.requires.2 in let h = w.there.block in let t = w.there.tile in let n = st.requires.0.count in let g = grown_ready m c.grow-else-z-e.new.mem a.b (a.i + 1) st.requires.0 h 1 (omega (arith, n)) c.grow-else-z-e.ensures in (g.0, g.1, omega (arith, g.2, t))

pub returns-else-left-lt1 : goal.returns-else-left-lt1
returns-else-left-lt1 c = let st = c in let a = st.args in let m = a.mem.now in let w = st.requires.2 in let h = w.there.block in let t = w.there.tile in let n = st.requires.0.count in let e = c.end_of-e.ensures in let f = w.to in let k = w.some in carve_before m a.b a.i a.a a.size a.tag st.requires.0 w c.grow-else-z-e.new.mem c.put-else-z-e.new.mem (omega (arith, c.start_of-s.ensures)) (omega (arith, e, k)) (omega (arith, n)) c.grow-else-z-e.ensures c.put-else-z-e.ensures

pub returns-then-left-lt1-2 : goal.returns-then-left-lt1-2
returns-then-left-lt1-2 c = let st = c in let a = st.args in let m = a.mem.now in let w = st.requires.2 in let h = w.there.block in let t = w.there.tile in let n = st.requires.0.count in let e = c.end_of-e.ensures in let f = w.to in let k = w.some in full_after m a.b a.i a.a a.size a.tag st.requires.0 w (omega (arith, c.start_of-s.ensures)) (omega (arith, e, k)) (omega arith)

pub put-requires-then-z-e-2 : goal.put-requires-then-z-e-2
put-requires-then-z-e-2 c = let st = c in let a = st.args in let m = a.mem.now in let w = st.requires.2 in let h = w.there.block in let t = w.there.tile in let n = st.requires.0.count in (st.requires.0, h, t)

pub grow-requires-then-z-e-2 : goal.grow-requires-then-z-e-2
grow-requires-then-z-e-2 c = let st = c in let a = st.args in let m = a.mem.now in let w = st.requires.2 in let h = w.there.block in let t = w.there.tile in let n = st.requires.0.count in let p = put_ready m c.put-then-z-e-2.new.mem a.b a.i st.requires.0 h _ _ c.put-then-z-e-2.ensures in (p.0, p.1, omega (arith, p.2, t), omega (arith, p.2, st.requires.3), omega (arith, n, p.3, p.4))

pub put-requires-then-z-e-2-2 : goal.put-requires-then-z-e-2-2
put-requires-then-z-e-2-2 c = let st = c in let a = st.args in let m = a.mem.now in let w = st.requires.2 in let h = w.there.block in let t = w.there.tile in let n = st.requires.0.count in let p = put_ready m c.put-then-z-e-2.new.mem a.b a.i st.requires.0 h _ _ c.put-then-z-e-2.ensures in let g = grown_ready c.put-then-z-e-2.new.mem c.grow-then-z-e-2.new.mem a.b (a.i + 1) p.0 p.1 1 (omega (arith, n, p.3, p.4)) c.grow-then-z-e-2.ensures in (g.0, g.1, omega (arith, g.2, p.2, t))

pub returns-else-left-lt1-2 : goal.returns-else-left-lt1-2
returns-else-left-lt1-2 c = let st = c in let a = st.args in let m = a.mem.now in let w = st.requires.2 in let h = w.there.block in let t = w.there.tile in let n = st.requires.0.count in let e = c.end_of-e.ensures in let f = w.to in let k = w.some in carve_after m a.b a.i a.a a.size a.tag st.requires.0 w c.put-then-z-e-2.new.mem c.grow-then-z-e-2.new.mem c.put-then-z-e-2-2.new.mem (a.a + (a.size - 1) + 1) (omega (arith, k)) (omega (arith, c.start_of-s.ensures)) (omega (arith, e, k)) (omega (arith, n)) c.put-then-z-e-2.ensures c.grow-then-z-e-2.ensures c.put-then-z-e-2-2.ensures

pub put-requires-else-z-e-2 : goal.put-requires-else-z-e-2
put-requires-else-z-e-2 c = let st = c in let a = st.args in let m = a.mem.now in let w = st.requires.2 in let h = w.there.block in let t = w.there.tile in let n = st.requires.0.count in (st.requires.0, h, t)

pub returns-else-z-e-2 : goal.returns-else-z-e-2
returns-else-z-e-2 c = let st = c in let a = st.args in let m = a.mem.now in let w = st.requires.2 in let h = w.there.block in let t = w.there.tile in let n = st.requires.0.count in let e = c.end_of-e.ensures in let f = w.to in let k = w.some in carve_whole m a.b a.i a.a a.size a.tag st.requires.0 w c.put-else-z-e-2.new.mem (omega (arith, c.start_of-s.ensures)) (omega (arith, e, k)) n c.put-else-z-e-2.ensures
