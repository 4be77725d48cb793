-- `loaded::Rows::tile` meets its contract: each test is a field of `Good`.
use Rattle.std.proofs.Common.{sym, refl, ◌∙◌, inr, arith}
use Rattle.loaded.specs.Misfits.{Misfit}
use Rattle.loaded.specs.Steps.{Tests}
use Rattle.loaded.proofs.LoadLaws.{wrong_at}
use Rattle.loaded.proofs.Rows.tile.Goals as goal
use Rattle.loaded.proofs.Rows.tile.Goals.{else-tag-eq0-via-then-tag-eq0+else-get-eq0, else-tag-eq0-via-else-tag-eq0}

pub returns-then-tag-gt1 : goal.returns-then-tag-gt1
unfolding Misfit
returns-then-tag-gt1 c =
    let g = c.get-tag.ensures (omega arith) in
    let a = c.at.ensures in
    wrong_at _ _ _ _ _ a.flaw a.place (λ s. omega (arith, s.state, g), (_, (c.args.i, refl, omega (arith, c.args.self.now.count)), refl, omega (arith, g, c.if-tag-gt1.true)))

pub returns-then-self-start : goal.returns-then-self-start
unfolding Misfit
returns-then-self-start c =
    let s = c.get-start.ensures (omega arith) in
    let a = c.at-then-self-start.ensures in
    wrong_at _ _ _ _ _ a.flaw a.place (λ g. omega (arith, g.inside, s), (_, (c.args.i, refl, omega (arith, c.args.self.now.count)), refl, omega (arith, s, c.if-self-start.true, c.args.self.now.last_value)))

pub returns-then-i-self : goal.returns-then-i-self
unfolding Tests
returns-then-i-self c = record { state = omega (arith, c.get-tag.ensures (omega arith)); inside = omega (arith, c.get-start.ensures (omega arith)); pair = λ l. absurd (omega arith) }

pub returns-then-get-start : goal.returns-then-get-start
unfolding Misfit
returns-then-get-start c =
    let s = c.get-start.ensures (omega arith) in
    let n = c.get.ensures (omega arith) in
    let a = c.at-then-get-start.ensures in
    wrong_at _ _ _ _ _ a.flaw a.place (λ g. omega (arith, (g.pair (omega arith)).rising, n, s), inr (_, (c.args.i, refl, omega (arith, c.args.self.now.count)), refl, omega (arith, n, s, c.if-get-start.true)))

pub returns-then-get-eq0 : goal.returns-then-get-eq0
unfolding Misfit
returns-then-get-eq0 c =
    let t = sym (c.get-tag.ensures (omega arith)) ∙ c.if-tag-eq0.true in
    let n = sym (c.get-then-tag-eq0.ensures (omega arith)) ∙ c.if-get-eq0.true in
    let a = c.at-then-get-eq0.ensures in
    wrong_at _ _ _ _ _ a.flaw a.place (λ g. (g.pair (omega arith)).apart t n, (_, (c.args.i, refl, omega (arith, c.args.self.now.count)), refl, t, n))

pub returns : goal.returns
unfolding Tests
returns c =
    let s = c.get-start.ensures (omega arith) in
    let g = c.get-tag.ensures (omega arith) in
    let n = c.get.ensures (omega arith) in
    record {
      state = omega (arith, g);
      inside = omega (arith, s);
      pair = λ l. record {
        rising = omega (arith, n, s);
        apart = λ a. elim c.else-tag-eq0.branch [
          | else-tag-eq0-via-then-tag-eq0+else-get-eq0 w ↦ (λ b. w.if-get-eq0.false (w.get-then-tag-eq0.ensures (omega arith) ∙ b))
          | else-tag-eq0-via-else-tag-eq0 w ↦ absurd (w.if-tag-eq0.false (g ∙ a))
        ];
      };
    }
