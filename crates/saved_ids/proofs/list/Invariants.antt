-- `saved_ids::list` meets its contract. The invariant: the free ones among those passed are written (`Listed`).
use Rattle.std.proofs.Common.{ℕ, ◌+◌, ◌*◌, ◌≤◌, ◌≡◌, get_or}
use Rattle.saved_ids.proofs.WriteLaws.{Listed}
use Rattle.saved_ids.specs.Format.{unheld}
use Rattle.saved_ids.specs.Steps.{Spans}
use Rattle.ids.specs.State.{State}
use Rattle.ids.specs.Held.{Holds}
use Rattle.saved_ids.proofs.list.Given as goal

abbrev pub invariant-loop-i : goal.invariant-loop-i
invariant-loop-i l = ((x : ℕ) → 64 + 8 * l.k ≤ x → get_or l.bs x 0 ≡ get_or l.initial.bs x 0)
    × ((s : State) → Holds l.mem s → Spans s l.low l.n → l.k ≡ unheld s.granted l.low l.n → Listed s l.i l.j l.bs)
