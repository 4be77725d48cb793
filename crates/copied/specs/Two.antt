-- Calls on two blocks in any order, each on one of the two: what is done to one leaves the other's words alone.
use Rattle.std.specs.Prelude.{◌≡◌, ℕ, List, [], ◌∷◌}
use Rattle.addresses.specs.declared.Answer.{Answer}
use Rattle.addresses.specs.Runs.{Operation}
use Rattle.addresses.specs.Contract.{Performs}

-- a call on the one block or on the other, and its answer
pub data Event : Type 0 where
  One : Operation → Answer → Event
  Other : Operation → Answer → Event

-- the calls es turn the blocks m and n into m' and n'
unfoldable pub Happen : List ℕ → List ℕ → List Event → List ℕ → List ℕ → Type 0
Happen m n [] m' n' = (m' ≡ m) × (n' ≡ n)
Happen m n (One o x ∷ es) m' n' = (k : List ℕ) × Performs m o x k × Happen k n es m' n'
Happen m n (Other o x ∷ es) m' n' = (k : List ℕ) × Performs n o x k × Happen m k es m' n'

-- what is asked of the one block, and what it answers
unfoldable pub asked : List Event → List Operation
asked [] = []
asked (One o x ∷ es) = o ∷ asked es
asked (Other o x ∷ es) = asked es

unfoldable pub answered : List Event → List Answer
answered [] = []
answered (One o x ∷ es) = x ∷ answered es
answered (Other o x ∷ es) = answered es

-- and of the other
unfoldable pub asked_other : List Event → List Operation
asked_other [] = []
asked_other (One o x ∷ es) = asked_other es
asked_other (Other o x ∷ es) = o ∷ asked_other es

unfoldable pub answered_other : List Event → List Answer
answered_other [] = []
answered_other (One o x ∷ es) = answered_other es
answered_other (Other o x ∷ es) = x ∷ answered_other es
