-- `table::melt` meets its contract.
use native.Mathlib.Omega.{arith}
use mathlib.Core.Path.{sym, ◌∙◌}
use Rattle.std.proofs.lemmas.Result.{err_from_is_err_and}
use Rattle.table.proofs.Cuts.{passed_up, good_head, found_in}
use Rattle.table.proofs.Melts.{melt_no_table, melt_below, melt_between, melt_free, melt_done}
use Rattle.table.proofs.melt.Goals.{then-start_of-s-via-then-start_of-s, then-start_of-s-via-else-start_of-s+then-tag_of-eq0}
use Rattle.table.proofs.melt.Goals as goal

pub returns-in_err-nb : goal.returns-in_err-nb
returns-in_err-nb c = let a = c.args in let e = c.in_err-nb.ensures in rw (passed_up e.value e.ok_part (err_from_is_err_and c.from_residual.result c.from_residual.ensures.1)) (melt_no_table a.mem.now a.s c.header.ensures e.ok_part)

pub find-requires : goal.find-requires
find-requires c = good_head c.args.mem.now c.header.ensures c.in_ok-nb.ensures.ok_part

pub returns-in_err-b : goal.returns-in_err-b
returns-in_err-b c = let a = c.args in let e = c.in_err-b.ensures in rw (passed_up e.value e.ok_part (err_from_is_err_and c.from_residual-in_err-b.result c.from_residual-in_err-b.ensures.1)) (melt_below a.mem.now a.s c.find.ensures e.ok_part)

pub start_of-requires : goal.start_of-requires
start_of-requires c = let a = c.args in let m = a.mem.now in let g = good_head m c.header.ensures c.in_ok-nb.ensures.ok_part in let w = found_in m a.s _ _ c.find.ensures c.in_ok-b.ensures.ok_part in (g.0, w.0.block, w.0.tile)

pub tag_of-requires : goal.tag_of-requires
tag_of-requires c = let a = c.args in let m = a.mem.now in let g = good_head m c.header.ensures c.in_ok-nb.ensures.ok_part in let w = found_in m a.s _ _ c.find.ensures c.in_ok-b.ensures.ok_part in (g.0, w.0.block, w.0.tile)

pub returns-then-start_of-s : goal.returns-then-start_of-s
returns-then-start_of-s c = let a = c.args in let m = a.mem.now in let g = good_head m c.header.ensures c.in_ok-nb.ensures.ok_part in let w = found_in m a.s _ _ c.find.ensures c.in_ok-b.ensures.ok_part in
    elim c.then-start_of-s.branch [
      | then-start_of-s-via-then-start_of-s v ↦ melt_between m a.s _ _ w.0 w.2 (λ z. v.if-start_of-s.true (c.start_of.ensures ∙ z))
      | then-start_of-s-via-else-start_of-s+then-tag_of-eq0 v ↦ melt_free m a.s _ _ w.0 w.2 (sym v.tag_of.ensures ∙ v.if-tag_of-eq0.true)
    ]

pub melt-requires : goal.melt-requires
melt-requires c = let a = c.args in let m = a.mem.now in let g = good_head m c.header.ensures c.in_ok-nb.ensures.ok_part in let w = found_in m a.s _ _ c.find.ensures c.in_ok-b.ensures.ok_part in (g.0, g.1, omega (arith, g.1, w.0.block), w.0.tile)

pub returns : goal.returns
returns c = let a = c.args in let m = a.mem.now in let g = good_head m c.header.ensures c.in_ok-nb.ensures.ok_part in let w = found_in m a.s _ _ c.find.ensures c.in_ok-b.ensures.ok_part in melt_done m a.s _ _ w.0 w.2 c.melt.new.mem (sym c.start_of.ensures ∙ c.if-start_of-s.false) (λ z. c.if-tag_of-eq0.false (c.tag_of.ensures ∙ z)) c.melt.ensures
