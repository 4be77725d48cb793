-- `ranges::align_up` meets its contract: a + (k - 1), rounded down by the mask (`mask_mod`, `up`). Where that sum passes 64 bits no multiple fits (`beyond`).
use Rattle.std.proofs.Common.{◌≡◌, ◌+◌, ◌-◌, ◌^◌, ◌≤◌, None, Err, refl, inl, inr, arith, rules}
use Rattle.std.proofs.lemmas.Grind.{common_steps}
use Rattle.ranges.specs.declared.Error.{Error}
use lib.Bits.{and_le_l}
use Rattle.ranges.specs.Align.{PowerOfTwo}
use Rattle.ranges.proofs.Powers.{proved, refuted, power_pos, mask_mod, up, beyond}
use Rattle.ranges.proofs.align_up.Goals.{Else-not-is_power_of_two}
use Rattle.ranges.proofs.align_up.Goals as goal

-- the callee's answer, past the test
power : (c : Else-not-is_power_of_two) → PowerOfTwo c.args.k
power c = proved c.is_power_of_two.result (PowerOfTwo c.args.k) c.if-not-is_power_of_two.false c.is_power_of_two.ensures

pub returns-then-not-is_power_of_two : goal.returns-then-not-is_power_of_two
returns-then-not-is_power_of_two c = inl (refl, refuted c.is_power_of_two.result (PowerOfTwo c.args.k) c.if-not-is_power_of_two.true c.is_power_of_two.ensures)

pub overflow_sub-m : goal.overflow_sub-m
overflow_sub-m c = power_pos _ (power (goal.at.overflow_sub-m c).Else-not-is_power_of_two)

pub returns-in_err-t : goal.returns-in_err-t
returns-in_err-t c =
    let p = power (goal.at.returns-in_err-t c).Else-not-is_power_of_two in
    let n : c.checked_add.result ≡ None = search rules in
    let e : c.from_residual.result ≡ Err Error.Overflow = grind (arith, common_steps) in
    let big : 2 ^ 64 ≤ c.args.a + (c.args.k - 1) = grind (arith, common_steps) in
    rw e (inr (refl, p, beyond c.args.a c.args.k p c.ranges.k.fits (omega (arith, power_pos _ p))))

pub overflow_sub-result : goal.overflow_sub-result
overflow_sub-result c = and_le_l _ _

pub returns : goal.returns
returns c =
    let a = c.args in
    let p = power (goal.at.returns c).Else-not-is_power_of_two in
    let e : c.in_ok-t.t ≡ a.a + (a.k - 1) = grind (arith, common_steps) in
    (p, rw (e, mask_mod (a.a + (a.k - 1)) a.k p) (up a.a a.k (power_pos _ p)))
