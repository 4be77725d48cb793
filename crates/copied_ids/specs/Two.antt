-- Calls on two blocks in any order, each on one of the two: what is done to one leaves the other's words alone.
use Rattle.std.specs.Prelude.{ℕ, ◌≡◌, List, [], ◌∷◌}
use Rattle.ids.specs.Runs.{Event}
use Rattle.ids.specs.Contract.{Performs}

-- a call on the one block or on the other, and its answer
pub data Turn : Type 0 where
  One : Event → Turn
  Other : Event → Turn

-- the calls ts turn the blocks m and n into m' and n'
unfoldable pub Happen : List ℕ → List ℕ → List Turn → List ℕ → List ℕ → Type 0
Happen m n [] m' n' = (m' ≡ m) × (n' ≡ n)
Happen m n (One e ∷ ts) m' n' = (k : List ℕ) × Performs m e.asked e.answer k × Happen k n ts m' n'
Happen m n (Other e ∷ ts) m' n' = (k : List ℕ) × Performs n e.asked e.answer k × Happen m k ts m' n'

-- the calls on the one block
unfoldable pub ones : List Turn → List Event
ones [] = []
ones (One e ∷ ts) = e ∷ ones ts
ones (Other e ∷ ts) = ones ts

-- the calls on the other
unfoldable pub others : List Turn → List Event
others [] = []
others (One e ∷ ts) = others ts
others (Other e ∷ ts) = e ∷ others ts
