-- `blocks::search_down` meets its contract.
use Prim.Native.Nat.{◌+◌}
use Rattle.blocks.specs.Blocks.{sizes, Ready}
use Rattle.ranges.specs.Align.{PowerOfTwo}
use Rattle.blocks.proofs.Searches.{NoneFrom}
use Rattle.blocks.proofs.search_down.Given as goal

abbrev pub invariant-loop-b : goal.invariant-loop-b
invariant-loop-b l = Ready l.mem → PowerOfTwo (l.mask + 1) → NoneFrom l.mem (l.more + 1) (l.mask + 1) (sizes 0 l.b l.mem)
