-- `ids::exact::take` meets its contract: each refusal by the test that led there; the id's bit says whether it is granted (`bit_decides`), and changing it grants the id (`taking`).
use Rattle.std.proofs.Common.{◌≡◌, ℕ, ◌+◌, ◌-◌, max, List, Err, refl, sym, ap, ◌∙◌, inl, inr, subst, arith}
use Rattle.std.proofs.lemmas.Grind.{common_steps}
use Rattle.std.proofs.lemmas.Bool.Decides.{nat_tests}
use lib.ListN.{get_or, set}
use Rattle.ranges.specs.declared.Error.{Error}
use Rattle.ranges.proofs.Powers.{proved, refuted}
use Rattle.bits.proofs.Levels.{put_tail}
use Rattle.ids.specs.State.{Within, grant}
use Rattle.ids.specs.Layout.{Laid, Holds}
use Rattle.ids.proofs.States.{bit_decides}
use Rattle.ids.proofs.Tests.{not_true}
use Rattle.ids.proofs.Taking.{taking}
use Rattle.ids.proofs.LastBits.{none_got, head_got, head_low, head_high, head_last}
use Rattle.ids.proofs.exact.take.Goals as goal

pub returns-in_err-h : goal.returns-in_err-h
unfolding Holds
returns-in_err-h c =
    let e : c.from_residual.result ≡ Err Error.NoState = grind (arith, common_steps) in
    rw e (record { kept = refl; right = λ s l. absurd (none_got _ _ _ _ c.ok_or.ensures.ok_part c.in_err-h.was c.head.ensures s l) })

pub returns-then-x-h : goal.returns-then-x-h
unfolding Holds
returns-then-x-h c =
    let d = head_got _ _ _ _ c.ok_or.ensures.ok_part c.in_ok-h.was c.head.ensures in
    record {
      kept = refl;
      right = λ s l. (inl (refl, λ w. omega (arith, head_low _ _ d s l, head_high _ _ d s l, w.0, w.1)), l);
    }

pub returns-then-is_set : goal.returns-then-is_set
unfolding Holds
returns-then-is_set c =
    let a = c.args in
    let d = head_got _ _ _ _ c.ok_or.ensures.ok_part c.in_ok-h.was c.head.ensures in
    record {
      kept = refl;
      right = λ s held.
          let l : Laid _ s = held in
          let low = head_low _ _ d s l in
          let w : Within s a.id = (omega (arith, low), omega (arith, head_high _ _ d s l)) in
          let g = proved c.is_set.result _ c.if-is_set.true (bit_decides a.mem.now s l c.is_set.result _ a.id low w c.is_set.ensures) in
          (inr (refl, w, g.1), held);
    }

pub returns : goal.returns
unfolding Holds
returns c =
    let a = c.args in
    let ws : List ℕ = a.mem.now in
    let up : List ℕ = c.flip.new.mem in
    let d = head_got _ _ _ _ c.ok_or.ensures.ok_part c.in_ok-h.was c.head.ensures in
    let x = c.max.result in
    let m : x ≡ max c.in_ok-h.h.next (a.id + 1) = grind (arith, nat_tests) in
    let most : x ≡ max (get_or ws 3 0) (a.id + 1) = m ∙ ap (λ (n : ℕ). max n (a.id + 1)) d.next in
    record {
      kept = tt;
      right = λ s held.
          let l : Laid _ s = held in
          let low = head_low _ _ d s l in
          let w : Within s a.id = (omega (arith, low), omega (arith, head_high _ _ d s l)) in
          let z = not_true (s.granted a.id) (λ g. refuted c.is_set.result _ c.if-is_set.false
          (bit_decides ws s l c.is_set.result _ a.id low w c.is_set.ensures) (w, g)) in (
            (refl, (w, z)),
            subst (λ (v : List ℕ). Holds v (grant s a.id)) (sym (put_tail 4 (set ws 3 x) up))
                (taking ws s l _ _ a.id x up (head_last _ _ d s l) w (ap (λ (y : ℕ). a.id - y) low) z c.flip.ensures most),
          );
    }
