-- `loaded_ids::FreedIds::all_freed` meets its contract. The invariant: the ids passed are as they are to be.
use Rattle.loaded_ids.proofs.LoadLaws.{GoodTo}
use Rattle.octets.specs.Octets.{word}
use Rattle.loaded_ids.proofs.FreedIds.all_freed.Given as goal

abbrev pub invariant-loop-i : goal.invariant-loop-i
invariant-loop-i l = GoodTo (word l.self.bs.now) l.self.low l.self.next l.self.k l.i
