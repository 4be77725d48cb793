-- `copied::fill` meets its contract. The invariant: the copy has just the granted ones among the ranges passed (`Filled`).
use Rattle.std.proofs.Common.{◌≡◌, ℕ, ◌≤◌, length}
use Rattle.addresses.specs.Meaning.{row_of}
use Rattle.addresses.specs.Operations.{Pool}
use Rattle.addresses.specs.Held.{Holds}
use Rattle.copied.specs.Copy.{limited}
use Rattle.copied.specs.Steps.{empty}
use Rattle.copied.proofs.CopyLaws.{Filled}
use Rattle.copied.proofs.fill.Given as goal

abbrev pub invariant-loop-i : goal.invariant-loop-i
invariant-loop-i l = (l._i ≤ l.n)
    × (length l.dst ≡ length l.initial.dst)
    × ((q : Pool) → Holds l.initial.dst q → (r : Pool) × Holds l.dst r)
    × ((p : Pool) (limit : ℕ) → Holds l.src p → l.base ≡ p.state.base → l.n ≡ length (row_of p.state) → p.limit ≤ limit → Holds l.initial.dst (empty (limited p limit)) → Filled p limit l._i l.a l.dst)
