-- `spread::gather` meets its contract.
use mathlib.Core.Path.{◌≡◌, refl, sym, ◌∙◌}
use native.Mathlib.Omega.{arith}
use Rattle.blocks.specs.Blocks.{size_at, count_of}
use Rattle.spread.specs.Spread.{Gathered}
use Rattle.spread.proofs.Copies.{gathered_none, gathered_more, gathered_next, apart_below}
use Rattle.spread.proofs.gather.Goals as goal

pub loop-b-init : goal.loop-b-init
loop-b-init c = (omega arith, refl, gathered_none c.args.mem.now c.requires.0 c.requires.3 c.args.room c.requires.1)

pub copy-requires : goal.copy-requires
copy-requires c = let l = c.loop-b in let st = c in let a = st.args in let f = gathered_next a.mem.now l.mem a.room l.b l.off st.requires.0 st.requires.3 st.requires.1 (omega arith) l.invariant.2 in (apart_below _ _ _ (omega (arith, f.1, f.2)), omega (arith, f.1), omega (arith, f.2))

pub copy-requires-in-loop-b : goal.copy-requires-in-loop-b
copy-requires-in-loop-b c = let l = c.loop-b in let st = c in let a = st.args in let f = gathered_next a.mem.now l.mem a.room l.b l.off st.requires.0 st.requires.3 st.requires.1 (omega arith) l.invariant.2 in let e = c.copy.ensures.len in (apart_below _ _ _ (omega (arith, f.1, f.2)), omega (arith, f.1, e), omega (arith, f.2, e))

pub overflow_add-off : goal.overflow_add-off
overflow_add-off c = let l = c.loop-b in let st = c in let a = st.args in let f = gathered_next a.mem.now l.mem a.room l.b l.off st.requires.0 st.requires.3 st.requires.1 (omega arith) l.invariant.2 in record { fits = omega (arith, f.2) }

pub loop-b-preserved : goal.loop-b-preserved
loop-b-preserved c = let l = c.loop-b in let st = c in let a = st.args in let f = gathered_next a.mem.now l.mem a.room l.b l.off st.requires.0 st.requires.3 st.requires.1 (omega arith) l.invariant.2 in let e = c.copy.ensures.len in let e2 = c.copy-in-loop-b.ensures.len in
    (omega (arith, f.2), omega (arith, e, e2), gathered_more a.mem.now st.requires.0 st.requires.3 a.room st.requires.1 l.mem c.copy.new.mem c.copy-in-loop-b.new.mem l.b l.off (size_at l.b l.mem) (omega arith) f.0 l.invariant.2 c.copy.ensures c.copy-in-loop-b.ensures)

pub returns : goal.returns
returns c = let l = c.loop-b in let st = c in let a = st.args in
    let e : l.b ≡ a.nb = omega arith in
    let g : Gathered a.mem.now l.mem a.room a.nb l.off = rw e at l.invariant.2 in
    let o : l.off ≡ count_of a.mem.now = sym g.many ∙ rw st.requires.2 st.requires.3 in
    rw o at g
