-- `ranges::is_power_of_two` meets its contract: one digit set, and only then (`power_decides`).
use Rattle.ranges.proofs.Powers.{power_decides}
use Rattle.ranges.proofs.is_power_of_two.Goals as goal

pub returns : goal.returns
returns c = rw c.is_power_of_two.ensures (power_decides c.args.x)
