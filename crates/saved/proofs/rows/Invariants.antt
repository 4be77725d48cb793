-- `saved::rows` meets its contract. The invariant: the ranges passed are written (`Walked`).
use Rattle.std.proofs.Common.{◌≡◌, ℕ, ◌+◌, ◌*◌, ◌≤◌, length, get_or}
use Rattle.saved.proofs.WriteLaws.{Walked}
use Rattle.addresses.specs.Operations.{Pool}
use Rattle.addresses.specs.Held.{Holds}
use Rattle.addresses.specs.Meaning.{row_of}
use Rattle.saved.proofs.rows.Given as goal

abbrev pub invariant-loop-i : goal.invariant-loop-i
invariant-loop-i l = ((j : ℕ) → 64 + 16 * l.n ≤ j → get_or l.bs j 0 ≡ get_or l.initial.bs j 0)
    × ((p : Pool) → Holds l.mem p → l.base ≡ p.state.base → l.n ≡ length (row_of p.state) → Walked p l.i l.a l.bs)
