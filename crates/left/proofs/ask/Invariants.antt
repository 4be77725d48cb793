-- `left::ask` meets its contract. The invariant: of each pool that the block holds, the addresses below a are counted, and a range starts at a.
-- The measure is what is left up to the last address.
use Rattle.std.proofs.Common.{◌-◌}
use Rattle.left.proofs.AskLaws.{Walks}
use Rattle.left.proofs.ask.Given as goal

abbrev pub invariant-loop-stands : goal.invariant-loop-stands
invariant-loop-stands l = Walks l.mem l.a l.left.free l.left.largest

abbrev pub decreases-loop-stands : goal.decreases-loop-stands
decreases-loop-stands l = l.last - l.a
