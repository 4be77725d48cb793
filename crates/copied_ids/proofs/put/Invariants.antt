-- `copied_ids::put` meets its contract. The invariant: the words so far are the source's.
use Rattle.copied_ids.specs.Copy.{Begins}
use Rattle.copied_ids.proofs.put.Given as goal

abbrev pub invariant-loop-k : goal.invariant-loop-k
invariant-loop-k l = Begins l.k l.src l.dst
