-- `loaded_ids::grant` meets its contract. The invariant: the i lowest ids are granted (`Full`).
use Rattle.std.proofs.Common.{ℕ, ◌+◌, ◌≤◌}
use Rattle.loaded_ids.specs.Steps.{Full}
use Rattle.ids.specs.State.{State, fresh}
use Rattle.ids.specs.Held.{Holds}
use Rattle.loaded_ids.proofs.grant.Given as goal

abbrev pub invariant-loop : goal.invariant-loop
invariant-loop l = (low high : ℕ) → low ≤ high → low + l.n ≤ high + 1 → Holds l.initial.mem (fresh low high) → (s : State) × Full s low high (low + l.counter) × Holds l.mem s
