-- `loaded_ids::FreedIds::give` meets its contract. The invariant: the first i freed ids are given back (`Given`).
use Rattle.std.proofs.Common.{ℕ}
use Rattle.loaded_ids.specs.Steps.{AllGood, Full, Given}
use Rattle.ids.specs.State.{State}
use Rattle.ids.specs.Held.{Holds}
use Rattle.octets.specs.Octets.{word}
use Rattle.loaded_ids.proofs.FreedIds.give.Given as goal

abbrev pub invariant-loop-i : goal.invariant-loop-i
invariant-loop-i l = (s : State) (low high next : ℕ) → Full s low high next → AllGood (word l.self.bs.now) low next l.self.k → Holds l.initial.mem s → (t : State) × Given (word l.self.bs.now) low high next l.i t × Holds l.mem t
