-- `frame::seal_in` meets its contract. The invariant: the first i words of the head are set.
use Rattle.frame.proofs.FrameLaws.{Headed}
use Rattle.frame.proofs.seal_in.Given as goal

abbrev pub invariant-loop-i : goal.invariant-loop-i
invariant-loop-i l = Headed l.x-items l.i l.initial.bs l.bs
