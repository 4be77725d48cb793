-- `ids::exact::lowest` meets its contract: the lowest zero bit is of the least free id (`found`, `least_free`); where there is none, no id is free (`head_no_free`).
use Rattle.std.proofs.Common.{ℕ, ◌+◌, Ok, sym, ap, ◌∙◌, subst, arith}
use borrow.Author.Tests.{eq-eqb, ne_eqb}
use Rattle.ids.specs.State.{exhausted, Allocates}
use Rattle.ids.specs.Layout.{Laid, Holds}
use Rattle.ids.proofs.States.{found, least_free}
use Rattle.ids.proofs.LastBits.{none_got, head_got, head_low, head_high, head_last, head_no_free}
use Rattle.ids.proofs.exact.lowest.Goals as goal

pub returns-in_err-h : goal.returns-in_err-h
unfolding Holds
returns-in_err-h c = λ s l.
    absurd (none_got _ _ _ _ c.ok_or.ensures.ok_part c.in_err-h.was c.head.ensures s l)

pub returns-then-h-eq4294967295 : goal.returns-then-h-eq4294967295
unfolding Holds
returns-then-h-eq4294967295 c = λ s l.
    let d = head_got _ _ _ _ c.ok_or.ensures.ok_part c.in_ok-h.was c.head.ensures in
    (head_no_free _ _ d s l _ c.find-i.ensures c.if-h-i.true, sym (ap exhausted (eq-eqb s.high _ (sym (head_high _ _ d s l) ∙ c.if-h-eq4294967295.true))))

pub returns-then-h-i : goal.returns-then-h-i
unfolding Holds
returns-then-h-i c = λ s l.
    let d = head_got _ _ _ _ c.ok_or.ensures.ok_part c.in_ok-h.was c.head.ensures in
    (head_no_free _ _ d s l _ c.find-i.ensures c.if-h-i.true, sym (ap exhausted (ne_eqb s.high _ (λ e. c.if-h-eq4294967295.false (head_high _ _ d s l ∙ e)))))

pub returns : goal.returns
unfolding Holds
returns c = λ s held.
    let d = head_got _ _ _ _ c.ok_or.ensures.ok_part c.in_ok-h.was c.head.ensures in
    let l : Laid c.args.mem.now s = held in
    let e = head_last _ _ d s l in
    subst (λ (y : ℕ). Allocates s (Ok (y + c.find-i.result))) (sym (head_low _ _ d s l))
    (least_free c.args.mem.now s l c.find-i.result (found c.args.mem.now s l _ _ e c.find-i.ensures) (omega (arith, e, c.if-h-i.false)))
