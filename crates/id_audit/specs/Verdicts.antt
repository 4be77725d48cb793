-- What is said of a claimed answer of an id allocator, and which state the block goes on from.
use Rattle.std.specs.Prelude.{ℕ, List, Result, Ok, Err}
use Rattle.ranges.specs.declared.Error.{Error}
use Rattle.ids.specs.State.{State, Free, Frees}
use Rattle.ids.specs.Runs.{Operation, Allocate, Release, Does, after}
use Rattle.ids.specs.Exact.{Just}
use Rattle.ids.specs.Held.{Holds}
use Rattle.verdict.specs.declared.Verdict.{Verdict}
use Rattle.verdict.specs.declared.Verdict.TheVariants.{Right, Followed, Stayed}

-- a state can go on from a claim: the claimed id is free; the id that is said to be taken back is granted; of a refusal there is nothing to do
unfoldable pub Possible : State → Operation → Result ℕ Error → Type 0
Possible s Allocate (Ok k) = Free s k
Possible s (Release i) (Ok k) = Frees s k (Ok k)
Possible s o (Err e) = Unit

-- why it cannot: what a grant of just the claimed id is refused with; what its give-back is refused with
unfoldable pub Hinders : State → Operation → Result ℕ Error → Error → Type 0
Hinders s Allocate (Ok k) e = Just s k (Err e)
Hinders s (Release i) (Ok k) e = Frees s k (Err e)
Hinders s o (Err x) e = ⊥

-- the verdict on a claimed answer of operation o in state s, and what the block m' holds then: the state after the claim, or s
unfoldable pub Judged : State → Operation → Result ℕ Error → Verdict (Result ℕ Error) → List ℕ → Type 0
Judged s o claim Right m' = Does s o claim × Holds m' (after s o claim)
Judged s o claim (Followed x) m' = (¬ Does s o claim) × Does s o x × Possible s o claim × Holds m' (after s o claim)
Judged s o claim (Stayed x e) m' = (¬ Does s o claim) × Does s o x × Hinders s o claim e × Holds m' s

-- what judging a claim does to a block: m is the block before, m' the block after
abbrev pub Audits : List ℕ → Operation → Result ℕ Error → Verdict (Result ℕ Error) → List ℕ → Type 0
Audits m o claim v m' = (s : State) → Holds m s → Judged s o claim v m'
