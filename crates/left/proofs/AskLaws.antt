-- Laws of `ask`: what its calls say of each pool that the block holds, from the contracts of `base`, `end`, `at` and `pass` alone.
--     ask_starts, ask_on          the walk at the pool's first address, and at the first one past a range
--     ask_nowhere, ask_refused    why a block at which the walk cannot go on holds no pool
--     ask_known                   the answer at the pool's end
-- Assumes nothing.
use Prim.Native.Nat.{ℕ, ◌+◌, ◌≤◌, ◌<◌}
use mathlib.Core.Path.{refl}
use mathlib.Core.List.{List}
use Rattle.std.proofs.Common.{Ok, Err}
use native.Mathlib.Omega.{arith}
use Rattle.ranges.specs.declared.Error.{Error}
use Rattle.table.specs.declared.Stands.{Stands}
use Rattle.table.specs.declared.AtError.{AtError}
use Rattle.table.specs.declared.AtError.TheVariants.{Outside, NoTable}
use Rattle.table.specs.Tiles.{Has}
use Rattle.addresses.specs.Meaning.{row_of}
use Rattle.addresses.specs.Operations.{Pool}
use Rattle.addresses.specs.Held.{Holds}
use Rattle.addresses.specs.Contract.{Says, Shows}
use Rattle.addresses.proofs.StepLaws.{has_in}
use Rattle.left.specs.declared.Left.{Left}
use Rattle.left.specs.Contract.{Tells}
use Rattle.left.specs.Steps.{Passes}
use Rattle.left.proofs.LeftLaws.{Walk, walk_starts, walk_on, walk_ends, walk_fits}

-- of each pool that the block holds, the addresses below a are counted
abbrev pub Walks : List ℕ → ℕ → ℕ → ℕ → Type 0
Walks m a free largest = (p : Pool) → Holds m p → Walk p a free largest

pub ask_starts : (m : List ℕ) (a : ℕ) → Says m (λ p. p.state.base) a → Walks m a 0 0
ask_starts m a b p h = rw (b p h) (walk_starts p h.valid)

-- an address of the pool stands in a range
pub ask_nowhere : (m : List ℕ) (a free largest : ℕ) → Walks m a free largest → (e : AtError) → Shows m a (Err e) → Tells m (Err Error.NoState)
unfolding Shows Tells
ask_nowhere m a free largest w Outside c = (refl, λ p h. c p h (w p h).above (w p h).below)
ask_nowhere m a free largest w NoTable c = (refl, c)

module _ (m : List ℕ) (a free largest : ℕ) (w : Walks m a free largest) (s : Stands) (c : Shows m a (Ok s)) where
  has : (p : Pool) → Holds m p → Has p.state.top a s.start s.end s.tag (row_of p.state)
  unfolding Shows
  has p h = c p h

  -- the range can be passed
  pub ask_refused : (y : Error) → Passes free largest a s.end s.tag (Err y) → Tells m (Err y)
  unfolding Tells
  ask_refused y d = (
    d.0,
    λ p h.
        let k = d.1 (has_in p.state.top a s.start s.end s.tag (row_of p.state) (has p h)).1 in
        omega (arith, k.1, walk_fits p h.valid a free largest (w p h) s.start s.end s.tag (has p h) k.0),
  )

  module _ (l : Left) (d : Passes free largest a s.end s.tag (Ok l)) (last : ℕ) (t : Says m (λ p. p.state.top) (last + 1)) where
    -- behind it the walk goes on, or has come to the pool's end
    pub ask_on : s.end < last → Walks m (s.end + 1) l.free l.largest
    ask_on k p h = walk_on p h.valid a free largest (w p h) s.start s.end s.tag (has p h) l.free l.largest d (omega (arith, t p h))

    pub ask_known : last ≤ s.end → Tells m (Ok l)
    unfolding Tells
    ask_known k p h = walk_ends p h.valid a free largest (w p h) s.start s.end s.tag (has p h) l.free l.largest d (omega (arith, t p h))
