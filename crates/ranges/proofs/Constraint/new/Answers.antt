-- `ranges::Constraint::new` meets its contract: each refusal by the test that led there; the mask of an exact address is its remainder (`mask_mod`).
use Rattle.std.proofs.Common.{ℕ, ◌≡◌, sym, refl, ◌∙◌, subst, inl, inr, arith}
use Rattle.ranges.specs.Align.{PowerOfTwo}
use Rattle.ranges.specs.Request.{Aligned}
use Rattle.ranges.specs.declared.AllocPolicy.{AllocPolicy}
use Rattle.ranges.specs.declared.AllocPolicy.TheVariants.{FirstMatch, LastMatch, ExactMatch}
use Rattle.ranges.proofs.Powers.{proved, refuted, power_pos, mask_mod, mod_multiple, multiple_mod}
use Rattle.ranges.proofs.Constraint.new.Goals.{Else-not-is_power_of_two}
use Rattle.ranges.proofs.Constraint.new.Goals as goal

-- a policy that is not exact is aligned
not_exact : (k : ℕ) (p : AllocPolicy) → ((x : ℕ) → p ≡ ExactMatch x → ⊥) → Aligned k p
not_exact k FirstMatch h = tt
not_exact k LastMatch h = tt
not_exact k (ExactMatch a) h = absurd (h a refl)

-- what the call of is_power_of_two said, past its test
power : (c : Else-not-is_power_of_two) → PowerOfTwo c.args.align
power c =
    proved c.is_power_of_two.result (PowerOfTwo c.args.align) c.if-not-is_power_of_two.false c.is_power_of_two.ensures

pub returns-then-size-eq0 : goal.returns-then-size-eq0
returns-then-size-eq0 c = inl (refl, c.if-size-eq0.true)

pub returns-then-not-is_power_of_two : goal.returns-then-not-is_power_of_two
returns-then-not-is_power_of_two c =
    inr (inl (
      refl,
      omega arith,
      refuted c.is_power_of_two.result (PowerOfTwo c.args.align) c.if-not-is_power_of_two.true c.is_power_of_two.ensures,
    ))

pub overflow_sub-align : goal.overflow_sub-align
overflow_sub-align c = power_pos _ (power (goal.at.overflow_sub-align c).Else-not-is_power_of_two)

pub returns-then-at-align-ne0 : goal.returns-then-at-align-ne0
returns-then-at-align-ne0 c =
    let a = c.args in
    let p = power (goal.at.returns-then-at-align-ne0 c).Else-not-is_power_of_two in
    inr (inr (
      refl,
      omega arith,
      p,
      λ l. c.if-at-align-ne0.true (mask_mod c.in-ExactMatch.at a.align p ∙ multiple_mod c.in-ExactMatch.at a.align (subst (Aligned a.align) c.in-ExactMatch.is l)),
    ))

pub returns-else-at-align-ne0 : goal.returns-else-at-align-ne0
returns-else-at-align-ne0 c =
    let a = c.args in
    let p = power (goal.at.returns-else-at-align-ne0 c).Else-not-is_power_of_two in (
      refl,
      refl,
      sym c.in-ExactMatch.is,
      record {
        some = omega arith;
        power = p;
        aligned = subst (Aligned a.align) (sym c.in-ExactMatch.is) (mod_multiple c.in-ExactMatch.at a.align (sym (mask_mod c.in-ExactMatch.at a.align p) ∙ c.if-at-align-ne0.false));
      },
    )

pub returns-in_default : goal.returns-in_default
returns-in_default c =
    let a = c.args in
    (refl, refl, refl, record { some = omega arith; power = power (goal.at.returns-in_default c).Else-not-is_power_of_two; aligned = not_exact a.align a.policy c.in_default.not-ExactMatch })
