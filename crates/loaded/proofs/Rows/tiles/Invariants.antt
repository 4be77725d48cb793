-- `loaded::Rows::tiles` meets its contract. The invariant: the ranges passed are as they are to be.
use Rattle.loaded.proofs.RowLaws.{GoodTo}
use Rattle.octets.specs.Octets.{word}
use Rattle.loaded.proofs.Rows.tiles.Given as goal

abbrev pub invariant-loop-i : goal.invariant-loop-i
invariant-loop-i l = GoodTo (word l.self.bs.now) l.self.last l.self.n l.i
