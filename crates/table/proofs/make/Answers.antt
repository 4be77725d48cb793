-- `table::make` meets its contract.
use native.Mathlib.Omega.{arith}
use mathlib.Core.Path.{refl, sym, ◌∙◌}
use lib.ListN.{length-set}
use Rattle.table.specs.Contract.{Makes}
use Rattle.table.proofs.Making.{words_none, words_some, words_for_lem, words_long, ceil, made_holds}
use borrow.Author.Rules.{rules}
use Rattle.table.proofs.make.Goals.{then-last-base-via-then-last-base, then-last-base-via-else-last-base+then-need-eq0}
use Rattle.table.proofs.make.Goals as goal

pub returns-then-last-base : goal.returns-then-last-base
unfolding Makes
returns-then-last-base c =
    elim c.then-last-base.branch [
      | then-last-base-via-then-last-base w ↦ (refl, λ k. omega (arith, k.0))
      | then-last-base-via-else-last-base+then-need-eq0 w ↦ (refl, λ k. words_none c.args.limit (sym c.words-need.ensures ∙ w.if-need-eq0.true) k.1 k.2)
    ]

pub returns-then-mem-need : goal.returns-then-mem-need
unfolding Makes
returns-then-mem-need c = let st = c in let a = st.args in let m = a.mem.now in let k = words_some a.limit (λ e. c.if-need-eq0.false (c.words-need.ensures ∙ e)) in let n = words_for_lem a.limit k.0 k.1 in (refl, (omega arith, k.0, k.1), omega (arith, c.words-need.ensures, c.if-mem-need.true))

pub bounds-mem-0 : goal.bounds-mem-0
bounds-mem-0 c = omega (arith, words_long _ _ c.words-need.ensures c.if-need-eq0.false)

pub bounds-mem-1 : goal.bounds-mem-1
bounds-mem-1 c = simp length-set (omega (arith, words_long _ _ c.words-need.ensures c.if-need-eq0.false))

pub bounds-mem-2 : goal.bounds-mem-2
bounds-mem-2 c = simp length-set (omega (arith, words_long _ _ c.words-need.ensures c.if-need-eq0.false))

pub bounds-mem-3 : goal.bounds-mem-3
bounds-mem-3 c = simp length-set (omega (arith, words_long _ _ c.words-need.ensures c.if-need-eq0.false))

pub bounds-mem-4 : goal.bounds-mem-4
bounds-mem-4 c = simp length-set (omega (arith, words_long _ _ c.words-need.ensures c.if-need-eq0.false))

pub bounds-mem-5 : goal.bounds-mem-5
bounds-mem-5 c = simp length-set (omega (arith, words_long _ _ c.words-need.ensures c.if-need-eq0.false))

pub bounds-mem-6 : goal.bounds-mem-6
bounds-mem-6 c = simp length-set (omega (arith, words_long _ _ c.words-need.ensures c.if-need-eq0.false))

pub bounds-mem-8 : goal.bounds-mem-8
bounds-mem-8 c = simp length-set (omega (arith, words_long _ _ c.words-need.ensures c.if-need-eq0.false))

pub bounds-mem-136 : goal.bounds-mem-136
bounds-mem-136 c = simp length-set (omega (arith, words_long _ _ c.words-need.ensures c.if-need-eq0.false))

pub bounds-mem-137 : goal.bounds-mem-137
bounds-mem-137 c = simp length-set (omega (arith, words_long _ _ c.words-need.ensures c.if-need-eq0.false))

pub bounds-mem-201 : goal.bounds-mem-201
bounds-mem-201 c = simp length-set (omega (arith, words_long _ _ c.words-need.ensures c.if-need-eq0.false))

pub returns : goal.returns
unfolding Makes
returns c = let st = c in let a = st.args in let m = a.mem.now in let k = words_some a.limit (λ e. c.if-need-eq0.false (c.words-need.ensures ∙ e)) in let n = words_for_lem a.limit k.0 k.1 in rw (ceil a.limit c.div_ceil.result c.div_ceil.ensures) (made_holds m a.base a.last a.limit (omega arith) (search rules) k.0 k.1 (omega (arith, c.words-need.ensures)))
