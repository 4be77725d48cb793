-- `loaded::Rows::fill` meets its contract. The invariant: the granted ones among the ranges passed are granted (`Filled`).
use Rattle.std.proofs.Common.{◌≡◌, ◌+◌, length}
use Rattle.loaded.specs.Steps.{empty}
use Rattle.octets.specs.Octets.{word}
use Rattle.addresses.specs.Meaning.{row_of}
use Rattle.addresses.specs.Operations.{Pool}
use Rattle.addresses.specs.Runs.{Valid}
use Rattle.addresses.specs.Held.{Holds}
use Rattle.saved.specs.Format.{Tiles}
use Rattle.loaded.proofs.FillLaws.{Filled}
use Rattle.loaded.proofs.Rows.fill.Given as goal

abbrev pub invariant-loop-i : goal.invariant-loop-i
invariant-loop-i l = (p : Pool) → Valid p → Tiles (word l.self.bs.now) 7 (row_of p.state) → l.self.n ≡ length (row_of p.state) → l.self.last + 1 ≡ p.state.top → Holds l.initial.mem (empty p) → Filled (word l.self.bs.now) p l.i l.mem
