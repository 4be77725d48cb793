-- `blocks::pass` meets its contract.
use Prim.Native.Nat.{◌-◌, ◌+◌, ◌*◌}
use lib.ListN.{get_or}
use Rattle.cells.proofs.Strides.{Passing}
use Rattle.blocks.proofs.pass.Given as goal

abbrev pub invariant-loop-k : goal.invariant-loop-k
invariant-loop-k l = Passing (λ p. get_or l.mem (137 + p * 129) 0) l.a l.to l.by l.k l.last

abbrev pub decreases-loop-k : goal.decreases-loop-k
decreases-loop-k l = l.to - l.k
