-- What asking for several things at once does to the blocks: a, b and c are the blocks before, a', b' and c' after.
use Rattle.std.specs.Prelude.{ℕ, ◌≡◌, List, Result, Ok, Err}
use Rattle.ranges.specs.declared.Constraint.{Constraint}
use Rattle.ranges.specs.declared.Error.{Error}
use Rattle.ranges.specs.declared.RangeInclusive.{RangeInclusive}
use Rattle.addresses.specs.declared.Answer.{Answer}
use Rattle.addresses.specs.declared.Answer.TheVariants.{Granted, Refused}
use Rattle.addresses.specs.Operations.{Pool, next}
use Rattle.addresses.specs.Runs.{Allocate, Release, Does}
use Rattle.addresses.specs.Held.{Holds}
use Rattle.addresses.specs.Contract.{Performs}
use Rattle.ids.specs.Runs as ids
use Rattle.ids.specs.Contract as ids_contract
use Rattle.both.specs.declared.PairError.{PairError}
use Rattle.both.specs.declared.PairError.TheVariants as pair
use Rattle.both.specs.declared.TripleError.{TripleError}
use Rattle.both.specs.declared.TripleError.TheVariants as triple

-- the range r is granted: it is the definition's answer to q in the pool that the block held, and the block holds the pool after it
abbrev pub Grants : List ℕ → Constraint → RangeInclusive → List ℕ → Type 0
Grants a q r a' = (p : Pool) → Holds a p → Does p (Allocate q) (Granted r) × Holds a' (next p (Granted r))

-- it is refused for e: that is the definition's answer, and the block is word for word as it was
abbrev pub Refuses : List ℕ → Constraint → Error → List ℕ → Type 0
Refuses a q e a' = (a' ≡ a) × ((p : Pool) → Holds a p → Does p (Allocate q) (Refused e))

-- a range could be had, and is not granted: the block holds just the pool from before
abbrev pub Restores : List ℕ → Constraint → List ℕ → Type 0
Restores a q a' = (p : Pool) → Holds a p → ((r : RangeInclusive) × Does p (Allocate q) (Granted r)) × Holds a' p

-- what asking one pool does
abbrev pub Asks : List ℕ → Constraint → Result RangeInclusive Error → List ℕ → Type 0
Asks a q (Ok r) a' = Grants a q r a'
Asks a q (Err e) a' = Refuses a q e a'

-- the range r was given back, with whatever answer
abbrev pub Returns : List ℕ → RangeInclusive → List ℕ → Type 0
Returns a r a' = (x : Answer) × Performs a (Release r) x a'

-- both or neither: q of the first pool and w of the second
unfoldable pub Pairs : List ℕ → Constraint → List ℕ → Constraint → Result (RangeInclusive × RangeInclusive) PairError → List ℕ → List ℕ → Type 0
Pairs a q b w (Ok (r, s)) a' b' = Grants a q r a' × Grants b w s b'
Pairs a q b w (Err (pair.First e)) a' b' = Refuses a q e a' × (b' ≡ b)
Pairs a q b w (Err (pair.Second e)) a' b' = Restores a q a' × Refuses b w e b'

-- an id is granted, or refused for e
abbrev pub GrantsId : List ℕ → ℕ → List ℕ → Type 0
GrantsId c i c' = ids_contract.Performs c ids.Allocate (Ok i) c'

abbrev pub RefusesId : List ℕ → Error → List ℕ → Type 0
RefusesId c e c' = ids_contract.Performs c ids.Allocate (Err e) c'

-- all three or none
unfoldable pub Triples : List ℕ → Constraint → List ℕ → Constraint → List ℕ → Result (RangeInclusive × RangeInclusive × ℕ) TripleError → List ℕ → List ℕ → List ℕ → Type 0
Triples a q b w c (Ok (r, s, i)) a' b' c' = Grants a q r a' × Grants b w s b' × GrantsId c i c'
Triples a q b w c (Err (triple.First e)) a' b' c' = Refuses a q e a' × (b' ≡ b) × (c' ≡ c)
Triples a q b w c (Err (triple.Second e)) a' b' c' = Restores a q a' × Refuses b w e b' × (c' ≡ c)
Triples a q b w c (Err (triple.Third e)) a' b' c' = Restores a q a' × Restores b w b' × RefusesId c e c'

-- that one of the two first of three was refused
abbrev pub among_three : PairError → TripleError
among_three (pair.First e) = triple.First e
among_three (pair.Second e) = triple.Second e
