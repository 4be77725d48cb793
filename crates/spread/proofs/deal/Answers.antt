-- `spread::deal` meets its contract.
use native.Mathlib.Omega.{arith}
use Prim.Native.Nat.{◌≤◌}
use Rattle.spread.specs.Spread.{Gathered, Dealt}
use Rattle.blocks.specs.Blocks.{room_of, blocks_of, count_of}
use Rattle.spread.proofs.Spreads.{dealt_laid}
use Rattle.spread.proofs.deal.Goals as goal

pub gather-requires : goal.gather-requires
gather-requires c = let st = c in (st.requires.0, st.requires.1, st.requires.2, st.requires.4)

pub scatter-requires : goal.scatter-requires
scatter-requires c = let st = c in let s = st.requires.0 in let e = c.gather.ensures.same.len in (st.requires.5, omega (arith, s.count, s.limit, st.requires.1, st.requires.3), omega (arith, s.few, st.requires.1), omega (arith, s.long, e, st.requires.1))

pub shape_of-mem : goal.shape_of-mem
shape_of-mem c = let d = c.scatter.ensures.0.len in let e = c.gather.ensures.same.len in omega (arith, d, e)

pub returns : goal.returns
returns c = let st = c in let a = st.args in let m = a.mem.now in let m₁ = c.gather.new.mem in let m₂ = c.scatter.new.mem in
    let g : Gathered m m₁ (room_of m) (blocks_of m) (count_of m) = rw (st.requires.1, st.requires.2) at c.gather.ensures in
    let d : Dealt m₁ m₂ (room_of m) (blocks_of m₂) (count_of m) = rw (st.requires.1, st.requires.3) at c.scatter.ensures.0 in
    let l : blocks_of m₂ ≤ room_of m = rw st.requires.1 at c.scatter.ensures.2 in
    dealt_laid m m₁ m₂ st.requires.0 g d c.scatter.ensures.1 l
