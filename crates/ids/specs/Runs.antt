-- Sequences of operations: what each answers, the state that they end in, and what is so after any of them.
use Rattle.std.specs.Prelude.{◌≡◌, true, List, [], ◌∷◌, ◌++◌, ◌⊎◌, ℕ, ◌+◌, ◌≤◌, ◌<◌, Result, Ok}
use Rattle.ranges.specs.Align.{Decides}
use Rattle.ranges.specs.declared.Error.{Error}
use Rattle.ids.specs.State.{State, Within, Free, fresh, Allocates, allocated, Frees, freed}

-- what is asked of an allocator
pub data Operation : Type 0 where
  Allocate : Operation
  Release : ℕ → Operation

-- in state s the operation answers r
abbrev pub Does : State → Operation → Result ℕ Error → Type 0
Does s Allocate r = Allocates s r
Does s (Release i) r = Frees s i r

-- the state after the answer
abbrev pub after : State → Operation → Result ℕ Error → State
after s Allocate r = allocated s r
after s (Release i) r = freed s r

-- an operation and its answer
pub record Event : Type 0 where
  pub asked : Operation
  pub answer : Result ℕ Error

-- the event that o is answered r
abbrev pub event : Operation → Result ℕ Error → Event
event o r = record { asked = o; answer = r }

-- from state s on the events happen one after the other, each answered as is right, and end in state t
unfoldable pub Runs : State → List Event → State → Type 0
Runs s [] t = t ≡ s
Runs s (e ∷ es) t = Does s e.asked e.answer × Runs (after s e.asked e.answer) es t

-- the event hands i out
abbrev pub Grants : Event → ℕ → Type 0
Grants e i = (e.asked ≡ Allocate) × (e.answer ≡ Ok i)

-- the event gives i back
abbrev pub Returns : Event → ℕ → Type 0
Returns e i = (e.asked ≡ Release i) × (e.answer ≡ Ok i)

-- some event hands i out
unfoldable pub Ever : List Event → ℕ → Type 0
Ever [] i = ⊥
Ever (e ∷ es) i = Grants e i ⊎ Ever es i

-- no event gives i back
unfoldable pub Stays : List Event → ℕ → Type 0
Stays [] i = Unit
Stays (e ∷ es) i = (Returns e i → ⊥) × Stays es i

-- some event hands i out, and none since gives it back
unfoldable pub Out : List Event → ℕ → Type 0
unfolding Stays
Out [] i = ⊥
Out (e ∷ es) i = (Grants e i × Stays es i) ⊎ Out es i

-- a state that a fresh allocator and some events lead to
pub record Reached (s : State) : Type 0 where
  pub ordered : s.low ≤ s.high
  pub events : List Event
  pub come : Runs (fresh s.low s.high) events s

-- what is so of the states that are reached, and of no others: what is granted lies in the interval and below next
pub record Valid (s : State) : Type 0 where
  pub ordered : s.low ≤ s.high
  pub from_low : s.low ≤ s.next
  pub to_high : s.next ≤ s.high + 1
  pub below : (j : ℕ) → s.granted j ≡ true → (s.low ≤ j) × (j < s.next)

-- The theorem on sequences: what is so after any events from a fresh allocator of the ids low to high on, which end in state t.
pub record After (low high : ℕ) (es : List Event) (t : State) : Type 0 where
  -- the interval is the same
  pub same_low : t.low ≡ low
  pub same_high : t.high ≡ high
  -- every id of the interval is free or granted, and not both; no other is granted
  pub either : (i : ℕ) → Within t i → Free t i ⊎ (t.granted i ≡ true)
  pub not_both : (i : ℕ) → Free t i → t.granted i ≡ true → ⊥
  pub inside : (i : ℕ) → t.granted i ≡ true → Within t i
  -- granted is what was handed out and not given back since
  pub out : (i : ℕ) → Decides (t.granted i) (Out es i)
  -- an id is handed out only while nobody has it
  pub one_holder : (before rest : List Event) (e : Event) (i : ℕ) → es ≡ before ++ (e ∷ rest) → Grants e i → Out before i → ⊥
  -- the ids below next are those that were ever handed out: there are next - low of them
  pub ever : (i : ℕ) → Ever es i → (low ≤ i) × (i < t.next)
  pub all_below : (i : ℕ) → low ≤ i → i < t.next → Ever es i

-- the two states have the same interval, and in it the same ids are granted
pub record Alike (s t : State) : Type 0 where
  pub same_low : s.low ≡ t.low
  pub same_high : s.high ≡ t.high
  pub same_granted : (i : ℕ) → Within s i → s.granted i ≡ t.granted i

-- what is asked by the events
unfoldable pub questions : List Event → List Operation
questions [] = []
questions (e ∷ es) = e.asked ∷ questions es

-- whatever is asked from s and from t on, for however long, is answered alike
unfoldable pub SameFuture : State → State → Type 0
unfolding Runs questions
SameFuture s t = (es fs : List Event) (u v : State) → Runs s es u → Runs t fs v → questions es ≡ questions fs → es ≡ fs
