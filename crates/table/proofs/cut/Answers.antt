-- `table::cut` meets its contract.
use native.Mathlib.Omega.{arith}
use Prim.Native.Nat.{◌<◌}
use mathlib.Core.Path.{refl, sym, ◌∙◌}
use Rattle.std.proofs.lemmas.Result.{err_from_is_err_and}
use Rattle.table.specs.Contract.{Cuts}
use Rattle.table.proofs.Cuts.{passed_up, good_head, cut_no_table, found_in, cut_before, cut_unsettled, cut_used, cut_short, cut_window, cut_done, cut_full}
use Rattle.table.proofs.cut.Goals.{then-size-eq0-via-then-size-eq0, then-size-eq0-via-else-size-eq0+then-tag-eq0, then-e-a-via-then-e-a, then-e-a-via-else-e-a+then-e-a-2}
use Rattle.table.proofs.cut.Goals as goal

pub returns-then-size-eq0 : goal.returns-then-size-eq0
unfolding Cuts
returns-then-size-eq0 c =
    elim c.then-size-eq0.branch [
      | then-size-eq0-via-then-size-eq0 w ↦ (refl, λ k. omega (arith, k.0))
      | then-size-eq0-via-else-size-eq0+then-tag-eq0 w ↦ (refl, λ k. omega (arith, k.1))
    ]

pub returns-in_err-nb : goal.returns-in_err-nb
returns-in_err-nb c = let a = c.args in let e = c.in_err-nb.ensures in let p : 0 < a.size = omega arith in let q : 0 < a.tag = omega arith in rw (passed_up e.value e.ok_part (err_from_is_err_and c.from_residual.result c.from_residual.ensures.1)) (cut_no_table a.mem.now a.a a.size a.tag p q c.header.ensures e.ok_part)

pub find-requires : goal.find-requires
find-requires c = good_head c.args.mem.now c.header.ensures c.in_ok-nb.ensures.ok_part

pub returns-in_err-b : goal.returns-in_err-b
returns-in_err-b c = let a = c.args in let e = c.in_err-b.ensures in rw (passed_up e.value e.ok_part (err_from_is_err_and c.from_residual-in_err-b.result c.from_residual-in_err-b.ensures.1)) (cut_before a.mem.now a.a a.size a.tag (omega arith) (omega arith) c.find.ensures e.ok_part)

pub tag_of-requires : goal.tag_of-requires
tag_of-requires c = let a = c.args in let m = a.mem.now in let g = good_head m c.header.ensures c.in_ok-nb.ensures.ok_part in let w = found_in m a.a _ _ c.find.ensures c.in_ok-b.ensures.ok_part in (g.0, w.0.block, w.0.tile)

pub returns-then-tag_of-ne0 : goal.returns-then-tag_of-ne0
returns-then-tag_of-ne0 c = let a = c.args in let m = a.mem.now in let g = good_head m c.header.ensures c.in_ok-nb.ensures.ok_part in let w = found_in m a.a _ _ c.find.ensures c.in_ok-b.ensures.ok_part in let p : 0 < a.size = omega arith in let q : 0 < a.tag = omega arith in cut_used m a.a a.size a.tag p q _ _ w.0 w.1 w.2 (λ z. c.if-tag_of-ne0.true (c.tag_of.ensures ∙ z))

pub end_of-e-requires : goal.end_of-e-requires
end_of-e-requires c = let a = c.args in let m = a.mem.now in let g = good_head m c.header.ensures c.in_ok-nb.ensures.ok_part in let w = found_in m a.a _ _ c.find.ensures c.in_ok-b.ensures.ok_part in (g.0, g.1, w.0)

pub returns-then-e-a : goal.returns-then-e-a
returns-then-e-a c = let a = c.args in let m = a.mem.now in let g = good_head m c.header.ensures c.in_ok-nb.ensures.ok_part in let w = found_in m a.a _ _ c.find.ensures c.in_ok-b.ensures.ok_part in let p : 0 < a.size = omega arith in let q : 0 < a.tag = omega arith in
    elim c.then-e-a.branch [
      | then-e-a-via-then-e-a v ↦ cut_short m a.a a.size a.tag p q _ _ w.0 w.1 w.2 (omega (arith, c.end_of-e.ensures, v.if-e-a.true))
      | then-e-a-via-else-e-a+then-e-a-2 v ↦ cut_short m a.a a.size a.tag p q _ _ w.0 w.1 w.2 (omega (arith, c.end_of-e.ensures, v.if-e-a.false, v.if-e-a-2.true))
    ]

pub size_of-requires : goal.size_of-requires
size_of-requires c = let a = c.args in let m = a.mem.now in let g = good_head m c.header.ensures c.in_ok-nb.ensures.ok_part in let w = found_in m a.a _ _ c.find.ensures c.in_ok-b.ensures.ok_part in (g.0, w.0.block)

pub returns-then-size_of-gt61 : goal.returns-then-size_of-gt61
returns-then-size_of-gt61 c = let a = c.args in let m = a.mem.now in let g = good_head m c.header.ensures c.in_ok-nb.ensures.ok_part in let w = found_in m a.a _ _ c.find.ensures c.in_ok-b.ensures.ok_part in let p : 0 < a.size = omega arith in let q : 0 < a.tag = omega arith in cut_unsettled m a.a a.size a.tag p q _ w.0.block (omega (arith, c.size_of.ensures))

pub cut-requires : goal.cut-requires
cut-requires c = let a = c.args in let m = a.mem.now in let g = good_head m c.header.ensures c.in_ok-nb.ensures.ok_part in let w = found_in m a.a _ _ c.find.ensures c.in_ok-b.ensures.ok_part in let p : 0 < a.size = omega arith in let q : 0 < a.tag = omega arith in let win = cut_window m a.a a.size a.tag p q _ _ w.0 w.1 (sym c.tag_of.ensures ∙ c.if-tag_of-ne0.false) (omega (arith, c.end_of-e.ensures)) in (g.0, g.1, win, omega (arith, c.size_of.ensures))

pub returns-then-not-cut : goal.returns-then-not-cut
returns-then-not-cut c = let a = c.args in let m = a.mem.now in let g = good_head m c.header.ensures c.in_ok-nb.ensures.ok_part in let w = found_in m a.a _ _ c.find.ensures c.in_ok-b.ensures.ok_part in let p : 0 < a.size = omega arith in let q : 0 < a.tag = omega arith in let win = cut_window m a.a a.size a.tag p q _ _ w.0 w.1 (sym c.tag_of.ensures ∙ c.if-tag_of-ne0.false) (omega (arith, c.end_of-e.ensures)) in cut_full m a.a a.size a.tag p q _ _ win w.2 c.cut.new.mem c.cut.ensures c.if-not-cut.true

pub returns : goal.returns
returns c = let a = c.args in let m = a.mem.now in let g = good_head m c.header.ensures c.in_ok-nb.ensures.ok_part in let w = found_in m a.a _ _ c.find.ensures c.in_ok-b.ensures.ok_part in let p : 0 < a.size = omega arith in let q : 0 < a.tag = omega arith in let win = cut_window m a.a a.size a.tag p q _ _ w.0 w.1 (sym c.tag_of.ensures ∙ c.if-tag_of-ne0.false) (omega (arith, c.end_of-e.ensures)) in cut_done m a.a a.size a.tag p q _ _ win w.2 c.cut.new.mem c.cut.ensures c.if-not-cut.false
