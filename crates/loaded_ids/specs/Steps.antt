-- What the private steps of `load` test and do. w are the words of the bytes.
use Rattle.std.specs.Prelude.{ℕ, ◌+◌, ◌^◌, ◌≤◌, ◌<◌, ◌≡◌, true, List, Result, Ok, Err}
use Rattle.ids.specs.State.{State, fresh}
use Rattle.ids.specs.Runs.{Valid}
use Rattle.ids.specs.Held.{Holds}
use Rattle.frame.specs.declared.Fault.{Fault}
use Rattle.saved_ids.specs.Format.{Freed}
use Rattle.loaded_ids.specs.Misfits.{Misfit}

-- these are the lowest id, the next new one and the number of freed ones
pub record Heads (w : ℕ → ℕ) (low next k : ℕ) : Type 0 where
  pub first : w 2 ≡ low
  pub third : w 4 ≡ next
  pub count : w 5 ≡ k

-- freed id i of k was granted, and is below the next one
pub record Good (w : ℕ → ℕ) (low next k i : ℕ) : Type 0 where
  pub from : low ≤ w (7 + i)
  pub below : w (7 + i) < next
  pub rising : i + 1 < k → w (7 + i) < w (8 + i)

-- all of them are so
abbrev pub AllGood : (ℕ → ℕ) → ℕ → ℕ → ℕ → Type 0
AllGood w low next k = (i : ℕ) → i < k → Good w low next k i

-- the numbers and the words are an id allocator's
pub record Sensible (w : ℕ → ℕ) (low high next k : ℕ) : Type 0 where
  pub order : low ≤ high
  pub small : high < 2 ^ 32
  pub from : low ≤ next
  pub to : next ≤ high + 1
  pub ids : AllGood w low next k

-- an answer that decides P, and says why not
unfoldable pub Tests : (ℕ → ℕ) → Result (Unit {0}) Fault → Type 0 → Type 0
Tests w (Ok u) P = P
Tests w (Err f) P = (P → ⊥) × Misfit w f.flaw f.place

-- the ids from low up to, not including, next are granted, and no others
pub record Full (s : State) (low high next : ℕ) : Type 0 where
  pub first : s.low ≡ low
  pub last : s.high ≡ high
  pub new : s.next ≡ next
  pub valid : Valid s
  pub held : (j : ℕ) → low ≤ j → j < next → s.granted j ≡ true

-- of a fresh allocator the n lowest ids are granted
abbrev pub Grants : List ℕ → ℕ → List ℕ → Type 0
Grants m n m' = (low high : ℕ) → low ≤ high → low + n ≤ high + 1 → Holds m (fresh low high) → (s : State) × Full s low high (low + n) × Holds m' s

-- a state of the same numbers in which just the first i of the freed ids were given back
pub record Given (w : ℕ → ℕ) (low high next i : ℕ) (t : State) : Type 0 where
  pub first : t.low ≡ low
  pub last : t.high ≡ high
  pub new : t.next ≡ next
  pub valid : Valid t
  pub freed : Freed t w i

-- of an allocator whose ids up to the next new one are granted the k freed ids are given back
abbrev pub Gives : (ℕ → ℕ) → ℕ → List ℕ → List ℕ → Type 0
Gives w k m m' = (s : State) (low high next : ℕ) → Full s low high next → AllGood w low next k → Holds m s → (t : State) × Given w low high next k t × Holds m' t
