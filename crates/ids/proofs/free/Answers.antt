-- `ids::free` meets its contract: each refusal by the test that led there; the id's bit says whether it is granted (`bit_decides`), and
-- changing it releases the id (`releasing`).
use Rattle.std.proofs.Common.{◌≡◌, ℕ, ◌-◌, List, Err, refl, ap, inl, inr, arith}
use Rattle.std.proofs.lemmas.Grind.{common_steps}
use Rattle.ranges.specs.declared.Error.{Error}
use Rattle.ranges.proofs.Powers.{proved, refuted}
use Rattle.bits.proofs.Levels.{put_tail}
use Rattle.ids.specs.State.{Within}
use Rattle.ids.specs.Layout.{Laid, Holds}
use Rattle.ids.proofs.States.{bit_decides, releasing}
use Rattle.ids.proofs.Tests.{not_true}
use Rattle.ids.proofs.Refusals.{no_state}
use Rattle.ids.proofs.LastBits.{none_got, head_got, head_low, head_high, head_next, head_last}
use Rattle.ids.proofs.free.Goals as goal

pub returns-in_err-h : goal.returns-in_err-h
returns-in_err-h c =
    let e : c.from_residual.result ≡ Err Error.NoState = grind (arith, common_steps) in
    rw e (no_state (none_got _ _ _ _ c.ok_or.ensures.ok_part c.in_err-h.was c.head.ensures))

pub returns-then-x-h : goal.returns-then-x-h
unfolding Holds
returns-then-x-h c =
    let d = head_got _ _ _ _ c.ok_or.ensures.ok_part c.in_ok-h.was c.head.ensures in
    record {
      kept = refl;
      right = λ s l. (inl (refl, λ w. omega (arith, head_low _ _ d s l, head_high _ _ d s l, w.0, w.1)), l);
    }

pub returns-then-h-x-2 : goal.returns-then-h-x-2
unfolding Holds
returns-then-h-x-2 c =
    let d = head_got _ _ _ _ c.ok_or.ensures.ok_part c.in_ok-h.was c.head.ensures in
    record {
      kept = refl;
      right = λ s l. (
        inr (inl (refl, (omega (arith, head_low _ _ d s l), omega (arith, head_high _ _ d s l)), omega (arith, head_next _ _ d s l))),
        l,
      );
    }

pub returns-then-not-is_set : goal.returns-then-not-is_set
unfolding Holds
returns-then-not-is_set c =
    let a = c.args in
    let d = head_got _ _ _ _ c.ok_or.ensures.ok_part c.in_ok-h.was c.head.ensures in
    record {
      kept = refl;
      right = λ s held.
          let l : Laid _ s = held in
          let low = head_low _ _ d s l in
          let w : Within s a.id = (omega (arith, low), omega (arith, head_high _ _ d s l)) in (
            inr (inr (
              refl,
              w,
              omega (arith, head_next _ _ d s l),
              not_true _ (λ g. refuted c.is_set.result _ c.if-not-is_set.true
                  (bit_decides a.mem.now s l c.is_set.result _ a.id low w c.is_set.ensures) (w, g)),
            )),
            held,
          );
    }

pub returns : goal.returns
unfolding Holds
returns c =
    let a = c.args in
    let ws : List ℕ = a.mem.now in
    let up : List ℕ = c.flip.new.mem in
    let d = head_got _ _ _ _ c.ok_or.ensures.ok_part c.in_ok-h.was c.head.ensures in
    record {
      kept = tt;
      right = λ s held.
          let l : Laid _ s = held in
          let low = head_low _ _ d s l in
          let w : Within s a.id = (omega (arith, low), omega (arith, head_high _ _ d s l)) in
          let g = proved c.is_set.result _ c.if-not-is_set.false
          (bit_decides ws s l c.is_set.result _ a.id low w c.is_set.ensures) in (
            (refl, w, omega (arith, head_next _ _ d s l), g.1),
            rw (put_tail 4 ws up)
                (releasing ws s l _ _ a.id up (head_last _ _ d s l) w (ap (λ (x : ℕ). a.id - x) low) g.1
                c.flip.ensures),
          );
    }
