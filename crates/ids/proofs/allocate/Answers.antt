-- `ids::allocate` meets its contract: the lowest zero bit is of the least free id (`found`, `granting`), and changing it grants the id
-- (`flipped`, `granting`); where there is none, no id is free (`head_no_free`).
use Rattle.std.proofs.Common.{◌≡◌, ℕ, ◌+◌, max, List, Err, refl, sym, ap, ◌∙◌, subst, arith}
use Rattle.std.proofs.lemmas.Grind.{common_steps}
use Rattle.std.proofs.lemmas.Bool.Decides.{nat_tests}
use lib.ListN.{get_or, set}
use borrow.Author.Tests.{eq-eqb, ne_eqb}
use Rattle.ranges.specs.declared.Error.{Error}
use Rattle.bits.proofs.Levels.{put_tail}
use Rattle.ids.specs.State.{grant, exhausted}
use Rattle.ids.specs.Layout.{Laid, Holds}
use Rattle.ids.proofs.States.{found, flipped, granting}
use Rattle.ids.proofs.Refusals.{no_state}
use Rattle.ids.proofs.LastBits.{none_got, head_got, head_low, head_high, head_last, head_no_free}
use Rattle.ids.proofs.allocate.Goals as goal

pub returns-in_err-h : goal.returns-in_err-h
returns-in_err-h c =
    let e : c.from_residual.result ≡ Err Error.NoState = grind (arith, common_steps) in
    rw e (no_state (none_got _ _ _ _ c.ok_or.ensures.ok_part c.in_err-h.was c.head.ensures))

pub returns-then-h-eq4294967295 : goal.returns-then-h-eq4294967295
unfolding Holds
returns-then-h-eq4294967295 c =
    let d = head_got _ _ _ _ c.ok_or.ensures.ok_part c.in_ok-h.was c.head.ensures in
    record {
      kept = refl;
      right = λ s l. (
        (head_no_free _ _ d s l _ c.find-i.ensures c.if-h-i.true, sym (ap exhausted (eq-eqb s.high _ (sym (head_high _ _ d s l) ∙ c.if-h-eq4294967295.true)))),
        l,
      );
    }

pub returns-then-h-i : goal.returns-then-h-i
unfolding Holds
returns-then-h-i c =
    let d = head_got _ _ _ _ c.ok_or.ensures.ok_part c.in_ok-h.was c.head.ensures in
    record {
      kept = refl;
      right = λ s l. (
        (head_no_free _ _ d s l _ c.find-i.ensures c.if-h-i.true, sym (ap exhausted (ne_eqb s.high _ (λ e. c.if-h-eq4294967295.false (head_high _ _ d s l ∙ e))))),
        l,
      );
    }

pub returns : goal.returns
unfolding Holds
returns c =
    let ws : List ℕ = c.args.mem.now in
    let h = c.in_ok-h.h in
    let i = c.find-i.result in
    let up = c.flip.new.mem in
    let d = head_got _ _ _ _ c.ok_or.ensures.ok_part c.in_ok-h.was c.head.ensures in
    let x = c.max.result in
    let m : x ≡ max h.next (h.low + i + 1) = grind (arith, nat_tests) in
    let most : x ≡ max (get_or ws 3 0) (h.low + i + 1) = m ∙ ap (λ (n : ℕ). max n (h.low + i + 1)) d.next in
    record {
      kept = tt;
      right = λ s held.
          let l : Laid _ s = held in
          let e = head_last _ _ d s l in
          let k = c.if-h-i.false in
          let g = granting ws s l h.low _ i x up (head_low _ _ d s l) e k (found ws s l _ i e c.find-i.ensures)
          (flipped ws s l _ i x up e k c.flip.ensures) most in
          (g.0, subst (λ (v : List ℕ). Holds v (grant s (h.low + i))) (sym (put_tail 4 (set ws 3 x) up)) g.1);
    }
