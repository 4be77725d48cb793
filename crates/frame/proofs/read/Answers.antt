-- `frame::read` meets its contract: each test is a field of `Frame`, and what fails one is no frame.
use Rattle.std.proofs.Common.{ℕ, ◌+◌, refl, sym, ap, ◌∙◌, inl, inr, arith}
use Rattle.frame.specs.Frame.{Flawed, Opens}
use Rattle.frame.proofs.FrameLaws.{flawed_at}
use Rattle.frame.proofs.read.Goals as goal

pub returns-then-all-lt8 : goal.returns-then-all-lt8
unfolding Flawed
returns-then-all-lt8 c = flawed_at _ _ _ _ _ c.at.ensures.flaw c.at.ensures.place (refl, inl (omega (arith, c.if-all-lt8.true)))

pub returns-then-get-kind : goal.returns-then-get-kind
unfolding Flawed
returns-then-get-kind c = flawed_at _ _ _ _ _ c.at-then-get-kind.ensures.flaw c.at-then-get-kind.ensures.place (refl, λ e. c.if-get-kind.true (c.get.ensures (omega arith) ∙ e))

pub returns-then-get-ne1 : goal.returns-then-get-ne1
unfolding Flawed
returns-then-get-ne1 c = flawed_at _ _ _ _ _ c.at-then-get-ne1.ensures.flaw c.at-then-get-ne1.ensures.place (refl, λ e. c.if-get-ne1.true (c.get-2.ensures (omega arith) ∙ e))

pub returns-then-get-check : goal.returns-then-get-check
unfolding Flawed
returns-then-get-check c = flawed_at _ _ _ _ _ c.at-then-get-check.ensures.flaw c.at-then-get-check.ensures.place (6, refl, inl refl, λ e. c.if-get-check.true (c.get-3.ensures (omega arith) ∙ e ∙ sym (c.check.ensures (omega arith))))

pub returns-then-all-n : goal.returns-then-all-n
unfolding Flawed
returns-then-all-n c = flawed_at _ _ _ _ _ c.at-then-all-n.ensures.flaw c.at-then-all-n.ensures.place (refl, inr (omega (arith, c.if-all-n.true, c.get-n.ensures (omega arith))))

pub returns-then-get-check-2 : goal.returns-then-get-check-2
unfolding Flawed
returns-then-get-check-2 c = flawed_at _ _ _ _ _ c.at-then-get-check-2.ensures.flaw c.at-then-get-check-2.ensures.place (7 + c.get-n.result, refl, inr (ap (λ (x : ℕ). 7 + x) (c.get-n.ensures (omega arith))), λ e. c.if-get-check-2.true (c.get-4.ensures (omega arith) ∙ e ∙ sym (c.check-2.ensures (omega arith))))

pub returns : goal.returns
unfolding Opens
returns c = record {
  long = omega arith;
  kind = sym (c.get.ensures (omega arith)) ∙ c.if-get-kind.false;
  version = sym (c.get-2.ensures (omega arith)) ∙ c.if-get-ne1.false;
  first = sym (c.get-5.ensures (omega arith));
  second = sym (c.get-6.ensures (omega arith));
  third = sym (c.get-7.ensures (omega arith));
  count = sym (c.get-n.ensures (omega arith));
  head = sym (c.get-3.ensures (omega arith)) ∙ c.if-get-check.false ∙ c.check.ensures (omega arith);
  last = sym (c.get-4.ensures (omega arith)) ∙ c.if-get-check-2.false ∙ c.check-2.ensures (omega arith);
}
