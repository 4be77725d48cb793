-- `ranges::align_down` meets its contract: the mask is the remainder by the power of two (`mask_mod`), and taking the remainder off rounds down (`down`).
use Rattle.std.proofs.Common.{refl}
use lib.Bits.{and_le_l}
use Rattle.ranges.specs.Align.{PowerOfTwo}
use Rattle.ranges.proofs.Powers.{proved, refuted, power_pos, mask_mod, down}
use Rattle.ranges.proofs.align_down.Goals.{Else-not-is_power_of_two}
use Rattle.ranges.proofs.align_down.Goals as goal

-- the callee's answer, past the test
power : (c : Else-not-is_power_of_two) → PowerOfTwo c.args.k
power c = proved c.is_power_of_two.result (PowerOfTwo c.args.k) c.if-not-is_power_of_two.false c.is_power_of_two.ensures

pub returns-then-not-is_power_of_two : goal.returns-then-not-is_power_of_two
returns-then-not-is_power_of_two c = (refl, refuted c.is_power_of_two.result (PowerOfTwo c.args.k) c.if-not-is_power_of_two.true c.is_power_of_two.ensures)

pub overflow_sub-result : goal.overflow_sub-result
overflow_sub-result c = power_pos _ (power (goal.at.overflow_sub-result c).Else-not-is_power_of_two)

pub overflow_sub-result-2 : goal.overflow_sub-result-2
overflow_sub-result-2 c = and_le_l _ _

pub returns : goal.returns
returns c =
    let a = c.args in
    (power (goal.at.returns c).Else-not-is_power_of_two, rw (mask_mod a.a a.k (power (goal.at.returns c).Else-not-is_power_of_two)) (down a.a a.k (power_pos _ (power (goal.at.returns c).Else-not-is_power_of_two))))
