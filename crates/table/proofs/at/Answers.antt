-- `table::at` meets its contract.
use Rattle.std.proofs.lemmas.Result.{err_from_is_err_and}
use Rattle.table.proofs.Cuts.{passed_up, good_head, found_in}
use Rattle.table.proofs.Asking.{at_no_table, at_before, at_past, at_in}
use Rattle.table.proofs.at.Goals as goal

pub returns-in_err-nb : goal.returns-in_err-nb
returns-in_err-nb c = let a = c.args in let e = c.in_err-nb.ensures in rw (passed_up e.value e.ok_part (err_from_is_err_and c.from_residual.result c.from_residual.ensures.1)) (at_no_table a.mem.now a.a c.header.ensures e.ok_part)

pub find-requires : goal.find-requires
find-requires c = good_head c.args.mem.now c.header.ensures c.in_ok-nb.ensures.ok_part

pub returns-in_err-b : goal.returns-in_err-b
returns-in_err-b c = let a = c.args in let e = c.in_err-b.ensures in rw (passed_up e.value e.ok_part (err_from_is_err_and c.from_residual-in_err-b.result c.from_residual-in_err-b.ensures.1)) (at_before a.mem.now a.a c.find.ensures e.ok_part)

pub end_of-end-requires : goal.end_of-end-requires
end_of-end-requires c = let a = c.args in let m = a.mem.now in let g = good_head m c.header.ensures c.in_ok-nb.ensures.ok_part in let w = found_in m a.a _ _ c.find.ensures c.in_ok-b.ensures.ok_part in (g.0, g.1, w.0)

pub returns-then-end-a : goal.returns-then-end-a
returns-then-end-a c = let a = c.args in let m = a.mem.now in let g = good_head m c.header.ensures c.in_ok-nb.ensures.ok_part in let w = found_in m a.a _ _ c.find.ensures c.in_ok-b.ensures.ok_part in at_past m a.a _ _ w.0 w.2 c.end_of-end.result c.end_of-end.ensures c.if-end-a.true

pub start_of-start-requires : goal.start_of-start-requires
start_of-start-requires c = let a = c.args in let m = a.mem.now in let g = good_head m c.header.ensures c.in_ok-nb.ensures.ok_part in let w = found_in m a.a _ _ c.find.ensures c.in_ok-b.ensures.ok_part in (g.0, w.0.block, w.0.tile)

pub tag_of-tag-requires : goal.tag_of-tag-requires
tag_of-tag-requires c = let a = c.args in let m = a.mem.now in let g = good_head m c.header.ensures c.in_ok-nb.ensures.ok_part in let w = found_in m a.a _ _ c.find.ensures c.in_ok-b.ensures.ok_part in (g.0, w.0.block, w.0.tile)

pub returns : goal.returns
returns c = let a = c.args in let m = a.mem.now in let g = good_head m c.header.ensures c.in_ok-nb.ensures.ok_part in let w = found_in m a.a _ _ c.find.ensures c.in_ok-b.ensures.ok_part in at_in m a.a _ _ w.0 w.2 c.end_of-end.result c.end_of-end.ensures _ _ c.start_of-start.ensures c.tag_of-tag.ensures c.if-end-a.false
