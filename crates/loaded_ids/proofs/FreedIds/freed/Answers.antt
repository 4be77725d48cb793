-- `loaded_ids::FreedIds::freed` meets its contract: each test is a field of `Good`.
use Rattle.std.proofs.Common.{refl, inl, inr, arith}
use Rattle.loaded_ids.specs.Misfits.{Misfit}
use Rattle.loaded_ids.specs.Steps.{Tests}
use Rattle.loaded_ids.proofs.LoadLaws.{wrong_at}
use Rattle.loaded_ids.proofs.FreedIds.freed.Goals as goal
use Rattle.loaded_ids.proofs.FreedIds.freed.Goals.{else-i-self-via-then-i-self+else-get-id, else-i-self-via-else-i-self}

pub returns-then-id-self : goal.returns-then-id-self
unfolding Misfit
returns-then-id-self c =
    let h = c.args.self.now.heads in
    let e = c.get-id.ensures (omega arith) in
    wrong_at _ _ _ _ _ c.at.ensures.flaw c.at.ensures.place (λ g. omega (arith, g.from, e), (c.args.i, inl (omega (arith, h.count), refl, omega (arith, e, c.if-id-self.true, h.first))))

pub returns-then-self-id : goal.returns-then-self-id
unfolding Misfit
returns-then-self-id c =
    let h = c.args.self.now.heads in
    let e = c.get-id.ensures (omega arith) in
    let f = c.at-then-self-id.ensures in
    wrong_at _ _ _ _ _ f.flaw f.place (λ g. omega (arith, g.below, e), (c.args.i, omega (arith, h.count), refl, omega (arith, e, c.if-self-id.true, h.third)))

pub returns-then-get-id : goal.returns-then-get-id
unfolding Misfit
returns-then-get-id c =
    let h = c.args.self.now.heads in
    let e = c.get-id.ensures (omega arith) in
    let o = c.get.ensures (omega arith) in
    let f = c.at-then-get-id.ensures in
    wrong_at _ _ _ _ _ f.flaw f.place (λ g. omega (arith, g.rising (omega arith), e, o), (c.args.i, inr (omega (arith, h.count), refl, omega (arith, e, o, c.if-get-id.true))))

pub returns : goal.returns
unfolding Tests
returns c =
    let e = c.get-id.ensures (omega arith) in
    record {
      from = omega (arith, e);
      below = omega (arith, e);
      rising = λ h. elim c.else-i-self.branch [
        | else-i-self-via-then-i-self+else-get-id w ↦ omega (arith, e, w.get.ensures (omega arith))
        | else-i-self-via-else-i-self w ↦ absurd (omega arith)
      ];
    }
