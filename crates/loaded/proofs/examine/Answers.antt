-- `loaded::examine` meets its contract: each test is a field of `Sensible`.
use Rattle.std.proofs.Common.{◌≡◌, ◌/◌, sym, refl, ◌∙◌, subst, inl, inr, arith}
use Rattle.loaded.proofs.LoadLaws.{wrong_at}
use Rattle.loaded.proofs.RowLaws.{tests_both}
use Rattle.octets.specs.Octets.{word}
use Rattle.loaded.specs.Misfits.{Misfit}
use Rattle.loaded.specs.Steps.{AllGood}
use Rattle.loaded.proofs.examine.Goals as goal
use Rattle.loaded.proofs.examine.Goals.{then-last-base-via-then-last-base, then-last-base-via-else-last-base+then-last-base-2, then-words-ne0-via-then-words-ne0, then-words-ne0-via-else-words-ne0+then-n-eq0, then-words-ne0-via-else-words-ne0+else-n-eq0+then-limit-n}

pub returns-then-last-base : goal.returns-then-last-base
unfolding Misfit
returns-then-last-base c =
    let f = c.requires in
    let a = c.at.ensures in
    wrong_at _ _ _ _ _ a.flaw a.place (elim c.then-last-base.branch [
      | then-last-base-via-then-last-base w ↦ (λ s. omega (arith, s.order), (refl, inl (omega (arith, f.first, f.second))))
      | then-last-base-via-else-last-base+then-last-base-2 w ↦ (λ s. omega (arith, s.within), (refl, inr (omega (arith, f.first, f.second))))
    ])

pub returns-then-words-ne0 : goal.returns-then-words-ne0
unfolding Misfit
returns-then-words-ne0 c =
    let f = c.requires in
    let a = c.at-then-words-ne0.ensures in
    wrong_at _ _ _ _ _ a.flaw a.place (elim c.then-words-ne0.branch [
      | then-words-ne0-via-then-words-ne0 w ↦ (λ s. w.if-words-ne0.true (omega (arith, s.even)), (refl, inl (λ e. w.if-words-ne0.true (omega (arith, e, f.count)))))
      | then-words-ne0-via-else-words-ne0+then-n-eq0 w ↦ (λ s. omega (arith, s.even, s.some), (refl, inr (inl (omega (arith, f.count)))))
      | then-words-ne0-via-else-words-ne0+else-n-eq0+then-limit-n w ↦ (λ s. omega (arith, s.even, s.room), (refl, inr (inr (omega (arith, f.count, f.third)))))
    ])

pub returns-then-limit-gt4096 : goal.returns-then-limit-gt4096
unfolding Misfit
returns-then-limit-gt4096 c =
    let f = c.requires in
    let a = c.at-then-limit-gt4096.ensures in
    wrong_at _ _ _ _ _ a.flaw a.place (λ s. omega (arith, s.most, c.if-limit-gt4096.true), (refl, omega (arith, c.if-limit-gt4096.true, f.third)))

pub returns-then-get-base : goal.returns-then-get-base
unfolding Misfit
returns-then-get-base c =
    let f = c.requires in
    let g = c.get.ensures (omega (arith, f.long)) in
    let a = c.at-then-get-base.ensures in
    wrong_at _ _ _ _ _ a.flaw a.place (λ s. c.if-get-base.true (g ∙ s.first), inl (refl, λ e. c.if-get-base.true (g ∙ e ∙ f.first)))

pub returns : goal.returns
returns c =
    let a = c.args.opened in
    let w = word c.args.bs.now in
    tests_both w _ (AllGood w a.second 7 (a.words / 2)) _
    (λ g. record {
      order = omega arith;
      within = omega (arith, c.if-last-base-2.false);
      most = omega arith;
      count = a.words / 2;
      even = omega (arith, c.if-words-ne0.false);
      some = omega (arith, c.if-n-eq0.false);
      room = omega arith;
      first = sym (c.get.ensures (omega arith)) ∙ c.if-get-base.false;
      ranges = g;
    })
    (λ s. let e : s.count ≡ a.words / 2 = omega (arith, s.even) in subst (AllGood w a.second 7) e s.ranges)
    c.tiles.ensures
